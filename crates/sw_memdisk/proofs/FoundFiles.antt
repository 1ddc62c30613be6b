-- What is read of a disk in memory.
use Rattle.std.proofs.Common.{◌≡◌, ℕ, List, Option, Some, None, false, true, refl, sym, ◌∙◌, ap, subst}
use Rattle.std.specs.Option.{IsSome, is_some, option_map}
use Rattle.std.proofs.lemmas.Option.{same_Some}
use Rattle.sw_disk.specs.Answers.{HasBytes, IsListing, content_in, names_of}
use Rattle.sw_disk.specs.Folder.{Content, File, content_at, files_of}
use Rattle.sw_memdisk.specs.Log.{files_now, folder_of}
use Rattle.sw_memdisk.specs.Memory.{Kept, MemDiskModel, log_at, state_of}
use Rattle.sw_memdisk.proofs.Readings.{files_of_now}

-- where one of two equal options has a value, the other has
same_some : {A B C : Type 0} (f : A → C) (g : B → C) (x : Option A) (y : Option B) → option_map f x ≡ option_map g y → IsSome y → IsSome x
same_some f g None None is some = cc
same_some f g None (Some y) is some = cc
same_some f g (Some x) y is some = refl

module _ (disk counted : MemDiskModel) (folder name : List ℕ) (same : counted.folders ≡ disk.folders) where
  -- the content that is found is that of the state
  abbrev found : Option Content
  found = content_at name (files_now (log_at counted.folders folder))

  found_is : content_in (state_of disk) folder name ≡ found
  found_is = ap (content_at name) (files_of_now (log_at disk.folders folder) ∙ ap (λ (folders : List Kept). files_now (log_at folders folder)) (sym same))

  pub is_there : {A : Type 0} (f : A → List ℕ) (result : Option A) → option_map f result ≡ option_map (λ content. content.bytes) found → IsSome (content_in (state_of disk) folder name) → IsSome result
  is_there f result is there = same_some f (λ (content : Content). content.bytes) result found is (subst IsSome found_is there)

  has_bytes : (content : Option Content) (bytes : List ℕ) → content_in (state_of disk) folder name ≡ content → option_map (λ content. content.bytes) content ≡ Some bytes → HasBytes (state_of disk) folder name bytes
  has_bytes None bytes is some = absurd (cc)
  has_bytes (Some content) bytes is some = record { content = content; there = is; bytes_are = same_Some content.bytes bytes some }

  pub bytes_read : {A : Type 0} (f : A → List ℕ) (result : Option A) (value : A) (bytes : List ℕ) → option_map f result ≡ option_map (λ content. content.bytes) found → result ≡ Some value → bytes ≡ f value
      → HasBytes (state_of disk) folder name bytes
  bytes_read f result value bytes is there read = has_bytes found bytes found_is (sym is ∙ ap (option_map f) there ∙ ap Some (sym read))

-- where nothing is found there is no file
none_too : {A B C : Type 0} (f : A → C) (g : B → C) (x : Option A) (y : Option B) → option_map f x ≡ option_map g y → is_some x ≡ false → y ≡ None
none_too f g None None is none = refl
none_too f g None (Some y) is none = absurd (cc)
none_too f g (Some x) y is none = absurd (cc)

pub is_missing : {A : Type 0} (disk : MemDiskModel) (folder name : List ℕ) (f : A → List ℕ) (result : Option A)
    → option_map f result ≡ option_map (λ content. content.bytes) (content_at name (files_now (log_at disk.folders folder))) → is_some result ≡ false → content_in (state_of disk) folder name ≡ None
is_missing disk folder name f result is none =
    ap (content_at name) (files_of_now (log_at disk.folders folder)) ∙ none_too f (λ (content : Content). content.bytes) result (content_at name (files_now (log_at disk.folders folder))) is none

-- where something is found there is one
some_too : {A B C : Type 0} (f : A → C) (g : B → C) (x : Option A) (y : Option B) → option_map f x ≡ option_map g y → is_some x ≡ true → IsSome y
some_too f g None y is some = absurd (cc)
some_too f g (Some x) None is some = absurd (cc)
some_too f g (Some x) (Some y) is some = refl

pub is_found : {A : Type 0} (disk : MemDiskModel) (folder name : List ℕ) (f : A → List ℕ) (result : Option A)
    → option_map f result ≡ option_map (λ content. content.bytes) (content_at name (files_now (log_at disk.folders folder))) → is_some result ≡ true → IsSome (content_in (state_of disk) folder name)
is_found disk folder name f result is some =
    subst IsSome (ap (content_at name) (sym (files_of_now (log_at disk.folders folder))))
    (some_too f (λ (content : Content). content.bytes) result (content_at name (files_now (log_at disk.folders folder))) is some)

-- the names of a folder's files
pub names_read : (disk counted : MemDiskModel) (folder : List ℕ) (names : List (List ℕ)) → counted.folders ≡ disk.folders → IsListing (names_of (files_now (log_at counted.folders folder))) names
    → IsListing (names_of (files_of (folder_of (log_at disk.folders folder)))) names
names_read disk counted folder names same listing =
    subst (λ (files : List File). IsListing (names_of files) names) (sym (files_of_now (log_at disk.folders folder) ∙ ap (λ (folders : List Kept). files_now (log_at folders folder)) (sym same))) listing
