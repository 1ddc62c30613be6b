-- The names of the folders with a file or with a change of names that is not stable.
use Rattle.std.proofs.Common.{◌≡◌, ◌⊎◌, inl, inr, ⊎_elim, ◌↔◌, ℕ, suc, arith, Bool, true, false, cond, not, List, [], ◌∷◌, ◌++◌, append_assoc, filter, length, map, refl, sym, ◌∙◌, ap}
use Rattle.std.specs.Prelude.{◌==◌, ◌||◌, IsTrue, String, string_bytes}
use Rattle.std.specs.BTreeMap.{BTreeMap, IsOrdered}
use Rattle.std.specs.Cmp.Lexicographic.{slice_cmp}
use Rattle.std.specs.List.{AllByRecursion}
use Rattle.std.specs.List.Sorted.{IsStrictlySortedBy}
use Rattle.std.specs.Map.{keys_of}
use Rattle.std.specs.Ordering.{nat_cmp}
use Rattle.std.specs.String.{string_cmp}
use Rattle.std.specs.declared.alloc.Global.{Global}
use Rattle.std.specs.declared.cmp.Ordering.TheVariants.{Less}
use Rattle.std.proofs.lemmas.Bool.Decides.{nat_tests}
use Rattle.std.proofs.lemmas.List.{map-append}
use Rattle.sw_disk.specs.Answers.{IsBusy, texts_of}
use Rattle.sw_disk.specs.Folder.{Change, File}
use Rattle.sw_memdisk.specs.Disk.{kept_entries, kept_in}
use Rattle.sw_memdisk.specs.Log.{files_now, folder_of}
use Rattle.sw_memdisk.specs.Memory.{FolderModel, IsAscending, Kept, busy_in, is_busy}
use Rattle.sw_memdisk.proofs.Lookups.{Entries}
use Rattle.sw_memdisk.proofs.Readings.{files_of_now}

-- ---- the names ascend

below_all : (key : String Global) (entries : Entries) → AllByRecursion (λ k. string_cmp key k ≡ Less) (keys_of entries)
    → AllByRecursion (λ name. slice_cmp nat_cmp (string_bytes key) name ≡ Less) (map (λ (kept : Kept). kept.name) (kept_entries entries))
below_all key [] below = tt
below_all key (entry ∷ entries) below = (below.0, below_all key entries below.1)

ascending_entries : (entries : Entries) → IsStrictlySortedBy string_cmp (keys_of entries) → IsStrictlySortedBy (slice_cmp nat_cmp) (map (λ (kept : Kept). kept.name) (kept_entries entries))
unfolding IsStrictlySortedBy
ascending_entries [] sorted = tt
ascending_entries (entry ∷ entries) sorted = (below_all entry.0 entries sorted.0, ascending_entries entries sorted.1)

pub ascending : (folders : BTreeMap (String Global) FolderModel) → IsOrdered string_cmp folders → IsAscending (kept_in folders)
ascending folders ordered = ascending_entries folders.entries ordered

-- ---- the test of one folder

abbrev is_any : {X Y : Type 0} → List X → List Y → Bool
is_any xs ys = not (length xs == 0) || not (length ys == 0)

not_zero : (n : ℕ) → not (suc n == 0) ≡ true
not_zero n = grind (arith, nat_tests)

none_or_any : {X Y : Type 0} (xs : List X) (ys : List Y) → ((xs ≡ []) × (ys ≡ [])) ⊎ (is_any xs ys ≡ true)
none_or_any [] [] = inl (refl, refl)
none_or_any [] (y ∷ ys) = inr (not_zero (length ys))
none_or_any (x ∷ xs) ys = inr (ap (λ (b : Bool). b || not (length ys == 0)) (not_zero (length xs)))

apart : true ≡ false → ⊥
apart is = cc

when_idle : (b : Bool) → (b ≡ true → ⊥) → false ≡ b
when_idle true never = absurd (never refl)
when_idle false never = refl

pub is_busy_tested : (folder : FolderModel) (b : Bool) → (IsTrue b ↔ IsBusy (folder_of folder.log)) → is_busy folder ≡ b
is_busy_tested folder b told =
    let files = files_now folder.log in
    let pending = (folder_of folder.log).pending in
    ⊎_elim
    (λ none. ap (λ (fs : List File). is_any fs pending) none.0 ∙ ap (λ (cs : List Change). is_any {X = File} [] cs) none.1 ∙ when_idle b (λ busy. told.0 busy (files_of_now folder.log ∙ none.0, none.1)))
    (λ any. any ∙ sym (told.1 (λ idle.
    let no_file : files ≡ [] = sym (files_of_now folder.log) ∙ idle.0 in
    apart (sym any ∙ ap (λ (fs : List File). is_any fs pending) no_file ∙ ap (λ (cs : List Change). is_any {X = File} [] cs) idle.1))))
    (none_or_any files pending)

-- ---- one folder more

module _ (names : List (String Global)) (name : String Global) (folder : FolderModel) (entries left : Entries) (is : entries ≡ (name, folder) ∷ left) (b : Bool) (told : IsTrue b ↔ IsBusy (folder_of folder.log)) where
  one_more : busy_in (kept_entries entries) ≡ cond b (string_bytes name ∷ busy_in (kept_entries left)) (busy_in (kept_entries left))
  one_more = ap (λ (es : Entries). busy_in (kept_entries es)) is ∙ picked (is_busy folder) b (is_busy_tested folder b told)
    where
      picked : (a b : Bool) → a ≡ b → map (λ (kept : Kept). kept.name) (cond a (record { name = string_bytes name; folder = folder } ∷ filter (λ (kept : Kept). is_busy kept.folder) (kept_entries left)) (filter (λ (kept : Kept). is_busy kept.folder) (kept_entries left)))
          ≡ cond b (string_bytes name ∷ busy_in (kept_entries left)) (busy_in (kept_entries left))
      picked true true e = refl
      picked true false e = absurd (apart e)
      picked false true e = absurd (apart (sym e))
      picked false false e = refl

  pub idle_passed : b ≡ false → texts_of names ++ busy_in (kept_entries left) ≡ texts_of names ++ busy_in (kept_entries entries)
  idle_passed idle = ap (λ (l : List (List ℕ)). texts_of names ++ l) (sym (one_more ∙ ap (λ (b : Bool). cond b (string_bytes name ∷ busy_in (kept_entries left)) (busy_in (kept_entries left))) idle))

  pub busy_put : (copy : String Global) (new : List (String Global)) → b ≡ true → new ≡ names ++ copy ∷ [] → string_bytes copy ≡ string_bytes name
      → texts_of new ++ busy_in (kept_entries left) ≡ texts_of names ++ busy_in (kept_entries entries)
  busy_put copy new busy put same =
      let text : texts_of new ≡ texts_of names ++ string_bytes name ∷ [] =
      ap texts_of put ∙ map-append string_bytes names (copy ∷ []) ∙ ap (λ (t : List ℕ). texts_of names ++ t ∷ []) same in
      ap (λ (l : List (List ℕ)). l ++ busy_in (kept_entries left)) text
      ∙ append_assoc (texts_of names) (string_bytes name ∷ []) (busy_in (kept_entries left))
      ∙ ap (λ (l : List (List ℕ)). texts_of names ++ l) (sym (one_more ∙ ap (λ (b : Bool). cond b (string_bytes name ∷ busy_in (kept_entries left)) (busy_in (kept_entries left))) busy))
