-- What is read from a folder in memory is what contracts see of it.
use Rattle.std.proofs.Common.{◌≡◌, ◌<◌, ◌≤◌, ℕ, zero, suc, ◌+◌, ◌-◌, Bool, true, false, cond, not, List, [], ◌∷◌, ◌++◌, length, map, filter, drop, take, get_or, length-drop, sum_by, Some, option_map, refl, sym, ap, subst, ◌∙◌, arith}
use Rattle.std.specs.List.{find}
use Rattle.std.proofs.lemmas.List.{length-map, take-append-drop}
use Rattle.std.proofs.lemmas.List.Sums.{sum_by-cons}
use Rattle.arrayvec.specs.ArrayString.{ArrayString}
use Rattle.sw_disk.specs.Answers.{IsBusy, names_of}
use Rattle.sw_disk.specs.Folder.{Change, File, all_changed, content_at, files_of, named, same_name}
use Rattle.sw_disk.specs.Folder as disk
use Rattle.sw_disk.proofs.Images.{all_changed-append}
use Rattle.sw_memdisk.specs.Folder.{IsFolder, log_of}
use Rattle.sw_memdisk.specs.Held.{AllInside, AreInside, IsInside, all_moved, change_of, content_number, content_of, file_of, files_in, held_named, held_renamed, moved}
use Rattle.sw_memdisk.specs.Log.{Log, files_now, folder_of}
use Rattle.sw_memdisk.specs.declared.folder.MemFolder.TheInside.{Inside}
use Rattle.sw_memdisk.specs.declared.held.Held.{Held}
use Rattle.sw_memdisk.specs.declared.held.MemContent.{MemContent}
use Rattle.sw_memdisk.specs.declared.held.Move.{Move}
use Rattle.sw_memdisk.specs.declared.held.Move.TheVariants.{Publish, Rename, Remove}
use Rattle.sw_memdisk.proofs.Files.{all_moved_is}

-- ---- each file has one of the contents

module _ (count : ℕ) where
  AreInside-append : (xs ys : List Held) → AreInside count xs → AreInside count ys → AreInside count (xs ++ ys)
  AreInside-append [] ys a b = b
  AreInside-append (x ∷ xs) ys a b = (a.0, AreInside-append xs ys a.1 b)

  AreInside-renamed : (from to : ArrayString) (files : List Held) → AreInside count files → AreInside count (map (held_renamed from to) files)
  AreInside-renamed from to [] a = a
  AreInside-renamed from to (held ∷ files) a = (a.0, AreInside-renamed from to files a.1)

  AreInside-filter : (test : Held → Bool) (files : List Held) → AreInside count files → AreInside count (filter test files)
  AreInside-filter test [] a = a
  AreInside-filter test (held ∷ files) a = elim (test held) as (λ b. AreInside count (cond b (held ∷ filter test files) (filter test files))) [
    | true ↦ (a.0, AreInside-filter test files a.1)
    | false ↦ AreInside-filter test files a.1
  ]

  pub AreInside-moved : (move : Move) (files : List Held) → IsInside count move → AreInside count files → AreInside count (moved move files)
  AreInside-moved (Publish held) files i a = AreInside-append files (held ∷ []) a (i, tt)
  AreInside-moved (Rename from to) files i a = AreInside-renamed from to files a
  AreInside-moved (Remove name) files i a = AreInside-filter (λ held. not (held_named name held)) files a

  pub AreInside-all_moved : (moves : List Move) (files : List Held) → AllInside count moves → AreInside count files → AreInside count (all_moved moves files)
  AreInside-all_moved [] files i a = a
  AreInside-all_moved (move ∷ moves) files i a = AreInside-all_moved moves (moved move files) i.1 (AreInside-moved move files i.0 a)

  pub inside_at : (files : List Held) (i : ℕ) (d : Held) → AreInside count files → i < length files → (get_or files i d).content < count
  inside_at [] i d a lt = absurd (omega arith)
  inside_at (held ∷ files) zero d a lt = a.0
  inside_at (held ∷ files) (suc i) d a lt = inside_at files i d a.1 (omega arith)

  split : (test : Held → Bool) (files : List Held) (other held : Held) (b : Bool) → other.content < count → (find test files ≡ Some held → held.content < count)
      → cond b (Some other) (find test files) ≡ Some held → held.content < count
  split test files other held true first rest e = let same : other ≡ held = cc in subst (λ (h : Held). h.content < count) same first
  split test files other held false first rest e = rest e

  pub inside_found : (test : Held → Bool) (files : List Held) (held : Held) → AreInside count files → find test files ≡ Some held → held.content < count
  inside_found test [] held a e = absurd (cc)
  inside_found test (other ∷ files) held a e = split test files other held (test other) a.0 (λ t. inside_found test files held a.1 t) e

pub content_number_is : (contents : List MemContent) (i : ℕ) (d : MemContent) → i < length contents → content_number contents i ≡ content_of (get_or contents i d)
content_number_is [] i d lt = absurd (omega arith)
content_number_is (content ∷ contents) zero d lt = refl
content_number_is (content ∷ contents) (suc i) d lt = content_number_is contents i d (omega arith)

-- ---- its files, as contracts see them, whether all changes are stable or not

pub files_of_now : (log : Log) → files_of (folder_of log) ≡ files_now log
files_of_now log =
    sym (all_changed-append (take (length log.stable_at) log.changes) (drop (length log.stable_at) log.changes) log.base)
    ∙ ap (λ (cs : List Change). all_changed cs log.base) (take-append-drop (length log.stable_at) log.changes)

module _ (f : Inside) (is : IsFolder f) (log : Log) (view : log_of f ≡ log) where
  pub files_now_are : files_now log ≡ files_in f.contents.items f.files.items
  files_now_are = sym (ap files_now view) ∙ all_moved_is f.contents.items f.changes.items f.base.items ∙ sym (ap (files_in f.contents.items) is.files)

  pub files_inside : AreInside f.contents.len f.files.items
  files_inside = subst (λ (files : List Held). AreInside f.contents.len files) (sym is.files) (AreInside-all_moved f.contents.len f.changes.items f.base.items is.changes_inside is.base_inside)

-- ---- whether there is a file, or a change that is not stable

empty_from : {X : Type 0} (xs : List X) → length xs ≡ 0 → xs ≡ []
empty_from [] e = refl
empty_from (x ∷ xs) e = absurd (omega arith)

module _ (f : Inside) (is : IsFolder f) (log : Log) (view : log_of f ≡ log) where
  pub files_of_are : files_of (folder_of log) ≡ files_in f.contents.items f.files.items
  files_of_are = files_of_now log ∙ files_now_are f is log view

  many_files : length (files_of (folder_of log)) ≡ length f.files.items
  many_files = ap length files_of_are ∙ length-map f.files.items (file_of f.contents.items)

  many_pending : length (folder_of log).pending ≡ length f.changes.items - length f.stable_at.items
  many_pending =
      sym (ap (λ (l : Log). length (folder_of l).pending) view)
      ∙ length-drop (length f.stable_at.items) (map (change_of f.contents.items) f.changes.items)
      ∙ ap (λ (n : ℕ). n - length f.stable_at.items) (length-map f.changes.items (change_of f.contents.items))

  pub busy_by_files : 0 < length f.files.items → IsBusy (folder_of log)
  busy_by_files some idle = let e : length (files_of (folder_of log)) ≡ 0 = ap length idle.0 in let n = many_files in absurd (omega (arith, e, n))

  pub busy_by_changes : length f.stable_at.items < length f.changes.items → IsBusy (folder_of log)
  busy_by_changes some idle = let e : length (folder_of log).pending ≡ 0 = ap length idle.1 in let n = many_pending in absurd (omega (arith, e, n))

  pub not_busy : length f.files.items ≡ 0 → length f.changes.items ≤ length f.stable_at.items → IsBusy (folder_of log) → ⊥
  not_busy no_file stable busy = busy (
    empty_from (files_of (folder_of log)) (let n = many_files in omega (arith, n)),
    empty_from (folder_of log).pending (let n = many_pending in omega (arith, n)),
  )

-- ---- reading by a name

abbrev pub name_of : Held → List ℕ
name_of held = held.name.bytes

abbrev pub held_by : List ℕ → Held → Bool
held_by name held = same_name held.name.bytes name

module _ (contents : List MemContent) where
  pub content_at_is : (name : List ℕ) (files : List Held) → content_at name (files_in contents files) ≡ option_map (λ held. content_number contents held.content) (find (held_by name) files)
  content_at_is name [] = refl
  content_at_is name (held ∷ files) = elim (held_by name held) as (λ b. disk.content_of (cond b (Some (file_of contents held)) (find (named name) (files_in contents files))) ≡ option_map (λ held. content_number contents held.content) (cond b (Some held) (find (held_by name) files))) [
    | true ↦ refl
    | false ↦ content_at_is name files
  ]

  -- their names
  pub names_of_is : (files : List Held) → names_of (files_in contents files) ≡ map name_of files
  names_of_is [] = refl
  names_of_is (held ∷ files) = ap (λ (names : List (List ℕ)). held.name.bytes ∷ names) (names_of_is files)

  -- and their sizes
  abbrev pub held_size : Held → ℕ
  held_size held = length (content_number contents held.content).bytes

  pub size_is : (files : List Held) → sum_by (λ file. length file.content.bytes) (files_in contents files) ≡ sum_by held_size files
  size_is [] = refl
  size_is (held ∷ files) =
      sum_by-cons (λ (file : File). length file.content.bytes) (file_of contents held) (files_in contents files)
      ∙ ap (λ (n : ℕ). held_size held + n) (size_is files)
      ∙ sym (sum_by-cons held_size held files)
