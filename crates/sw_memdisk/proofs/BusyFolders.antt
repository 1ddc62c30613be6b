-- The names of the folders that are busy.
use Rattle.std.proofs.Common.{◌≡◌, ◌≢◌, ℕ, zero, suc, ◌+◌, ◌<◌, Bool, true, false, cond, not, ◌||◌, ◌==◌, List, [], ◌∷◌, filter, map, length, get_or, sum_by, Ordering, Less, Equal, Greater, refl, sym, ap, subst, ◌∙◌, arith}
use Rattle.std.specs.Cmp.Lexicographic.{nat_list_eq_equiv, same_text, slice_cmp}
use Rattle.std.specs.List.{AllByRecursion, AllPairs, Contains}
use Rattle.std.specs.List.Sorted.{IsSorted, IsStrictlySortedBy}
use Rattle.std.specs.Ordering.{is_lt, nat_cmp, ordering_reverse}
use Rattle.std.proofs.lemmas.Cmp.{nat_list_cmp_total}
use Rattle.std.proofs.lemmas.Grind.{common_steps}
use Rattle.std.proofs.lemmas.List.Kept.{AllPairs-cons}
use Rattle.std.proofs.lemmas.List.Sums.{sum_by-cons}
use Rattle.sw_disk.specs.Answers.{AreFolders, IsBusy}
use Rattle.sw_disk.specs.Folder.{Change, File, same_name}
use Rattle.sw_memdisk.specs.Log.{files_now, folder_of}
use Rattle.sw_memdisk.specs.Memory.{FolderModel, IsAscending, Kept, MemDiskModel, busy_in, bytes_in, folder_at, is_busy, state_of, used_by}
use Rattle.sw_memdisk.proofs.Lookups.{used_more}
use Rattle.sw_memdisk.proofs.Readings.{files_of_now}

abbrev order : List ℕ → List ℕ → Ordering
order a b = slice_cmp nat_cmp a b

-- ---- a folder that is busy

some_busy : (files : List File) (changes : List Change) → (not (length files == 0) || not (length changes == 0)) ≡ true → (files ≡ []) × (changes ≡ []) → ⊥
some_busy [] [] busy idle = cc
some_busy [] (change ∷ changes) busy idle = let e = idle.1 in cc
some_busy (file ∷ files) changes busy idle = let e = idle.0 in cc

some_length : (n : ℕ) → not (suc n == 0) ≡ true
some_length n = grind (arith, common_steps)

busy_some : (files : List File) (changes : List Change) → ((files ≡ []) × (changes ≡ []) → ⊥) → (not (length files == 0) || not (length changes == 0)) ≡ true
busy_some [] [] busy = absurd (busy (refl, refl))
busy_some [] (change ∷ changes) busy = some_length (length changes)
busy_some (file ∷ files) changes busy = ap (λ (b : Bool). b || not (length changes == 0)) (some_length (length files))

is_busy-from : (folder : FolderModel) → IsBusy (folder_of folder.log) → is_busy folder ≡ true
is_busy-from folder busy = busy_some (files_now folder.log) (folder_of folder.log).pending (λ idle. busy (files_of_now folder.log ∙ idle.0, idle.1))

is_busy-to : (folder : FolderModel) → is_busy folder ≡ true → IsBusy (folder_of folder.log)
is_busy-to folder is idle = some_busy (files_now folder.log) (folder_of folder.log).pending is (sym (files_of_now folder.log) ∙ idle.0, idle.1)

-- ---- names in strict order

not_less : (o : Ordering) → o ≡ ordering_reverse o → o ≡ Less → ⊥
not_less Less e f = cc
not_less Equal e f = cc
not_less Greater e f = cc

never_itself : (a b : List ℕ) → order a b ≡ Less → a ≡ b → ⊥
never_itself a b less same = not_less (order a a) (nat_list_cmp_total.antisymm a a) (ap (order a) same ∙ less)

in_turn : (a b : List ℕ) → order a b ≡ Less → is_lt (order b a) ≡ false
in_turn a b less = ap is_lt (nat_list_cmp_total.antisymm b a ∙ ap ordering_reverse less)

all_at : (P : List ℕ → Type 0) (names : List (List ℕ)) → AllByRecursion P names → (k : ℕ) (d : List ℕ) → k < length names → P (get_or names k d)
all_at P [] all k d lt = absurd (omega arith)
all_at P (name ∷ names) all zero d lt = all.0
all_at P (name ∷ names) all (suc k) d lt = all_at P names all.1 k d (omega arith)

all_of : (P : List ℕ → Type 0) (names : List (List ℕ)) → AllByRecursion P names → (name : List ℕ) → Contains names name → P name
all_of P names all name has = subst P has.2 (all_at P names all has.0 name has.1)

pairs : (names : List (List ℕ)) → IsStrictlySortedBy (slice_cmp nat_cmp) names → AllPairs (λ a b. order a b ≡ Less) names
unfolding IsStrictlySortedBy
pairs [] up = λ i j d lt within. absurd (omega (arith, within))
pairs (name ∷ names) up = AllPairs-cons (λ (a b : List ℕ). order a b ≡ Less) name names (λ k d lt. all_at (λ (b : List ℕ). order name b ≡ Less) names up.0 k d lt) (pairs names up.1)

sorted_of : (names : List (List ℕ)) → AllPairs (λ a b. order a b ≡ Less) names → IsSorted (slice_cmp nat_cmp) names
sorted_of names up k d low within = in_turn (get_or names k d) (get_or names (k + 1) d) (up k (k + 1) d (omega arith) within)

distinct_of : (names : List (List ℕ)) → AllPairs (λ a b. order a b ≡ Less) names → AllPairs (λ a b. a ≢ b) names
distinct_of names up i j d lt within = never_itself (get_or names i d) (get_or names j d) (up i j d lt within)

-- ---- the folders that are busy, among all

abbrev names_in : List Kept → List (List ℕ)
names_in folders = map (λ kept. kept.name) folders

abbrev busy : Kept → Bool
busy kept = is_busy kept.folder

below_busy : (P : List ℕ → Type 0) (folders : List Kept) → AllByRecursion P (names_in folders) → AllByRecursion P (busy_in folders)
below_busy P [] all = tt
below_busy P (kept ∷ folders) all = pick (busy kept) (below_busy P folders all.1)
  where
    pick : (b : Bool) → AllByRecursion P (busy_in folders) → AllByRecursion P (names_in (cond b (kept ∷ filter busy folders) (filter busy folders)))
    pick true rest = (all.0, rest)
    pick false rest = rest

ascending_busy : (folders : List Kept) → IsAscending folders → IsStrictlySortedBy (slice_cmp nat_cmp) (busy_in folders)
unfolding IsStrictlySortedBy
ascending_busy [] up = tt
ascending_busy (kept ∷ folders) up = pick (busy kept) (ascending_busy folders up.1)
  where
    pick : (b : Bool) → IsStrictlySortedBy (slice_cmp nat_cmp) (busy_in folders) → IsStrictlySortedBy (slice_cmp nat_cmp) (names_in (cond b (kept ∷ filter busy folders) (filter busy folders)))
    pick true rest = (below_busy (λ (b : List ℕ). order kept.name b ≡ Less) folders up.0, rest)
    pick false rest = rest

has_first : (name : List ℕ) (names : List (List ℕ)) (other : List ℕ) → name ≡ other → Contains (name ∷ names) other
has_first name names other same = (0, omega arith, same)

has_later : (name : List ℕ) (names : List (List ℕ)) (other : List ℕ) → Contains names other → Contains (name ∷ names) other
has_later name names other has = (suc has.0, omega (arith, has.1), has.2)

-- a folder that is busy is among them
busy_there : (folders : List Kept) (name : List ℕ) → is_busy (folder_at folders name) ≡ true → Contains (busy_in folders) name
busy_there [] name is = cc
busy_there (kept ∷ folders) name is = at (same_name kept.name name) refl is (λ rest. busy_there folders name rest)
  where
    first : kept.name ≡ name → (b : Bool) → b ≡ true → Contains (names_in (cond b (kept ∷ filter busy folders) (filter busy folders))) name
    first same true e = has_first kept.name (busy_in folders) name same
    first same false e = cc

    later : Contains (busy_in folders) name → (b : Bool) → Contains (names_in (cond b (kept ∷ filter busy folders) (filter busy folders))) name
    later has true = has_later kept.name (busy_in folders) name has
    later has false = has

    at : (b : Bool) → same_name kept.name name ≡ b → is_busy (cond b kept.folder (folder_at folders name)) ≡ true → (is_busy (folder_at folders name) ≡ true → Contains (busy_in folders) name)
        → Contains (busy_in (kept ∷ folders)) name
    at true same is rest = first (same_text kept.name name (sym same)) (busy kept) is
    at false same is rest = later (rest is) (busy kept)

-- and each of them is busy
there_busy : (folders : List Kept) → IsAscending folders → (name : List ℕ) → Contains (busy_in folders) name → is_busy (folder_at folders name) ≡ true
unfolding IsStrictlySortedBy
there_busy [] up name has = absurd (omega (arith, has.1))
there_busy (kept ∷ folders) up name has = among (busy kept) refl has (λ rest. there_busy folders up.1 name rest)
  where
    itself : (b : Bool) → same_name kept.name name ≡ b → kept.name ≡ name → busy kept ≡ true → is_busy (cond b kept.folder (folder_at folders name)) ≡ true
    itself true e same is = is
    itself false e same is = let yes : same_name kept.name name ≡ true = subst (λ (n : List ℕ). same_name kept.name n ≡ true) same (nat_list_eq_equiv.refl kept.name) in cc

    later : (b : Bool) → same_name kept.name name ≡ b → Contains (busy_in folders) name → is_busy (folder_at folders name) ≡ true → is_busy (cond b kept.folder (folder_at folders name)) ≡ true
    later true e has rest =
        let less = all_of (λ (b : List ℕ). order kept.name b ≡ Less) (busy_in folders) (below_busy (λ (b : List ℕ). order kept.name b ≡ Less) folders up.0) name has in
        absurd (never_itself kept.name name less (same_text kept.name name (sym e)))
    later false e has rest = rest

    among : (b : Bool) → busy kept ≡ b → Contains (names_in (cond b (kept ∷ filter busy folders) (filter busy folders))) name → (Contains (busy_in folders) name → is_busy (folder_at folders name) ≡ true)
        → is_busy (cond (same_name kept.name name) kept.folder (folder_at folders name)) ≡ true
    among true is (zero, lt, at) rest = itself (same_name kept.name name) refl at is
    among true is (suc k, lt, at) rest = let has : Contains (busy_in folders) name = (k, omega (arith, lt), at) in later (same_name kept.name name) refl has (rest has)
    among false is has rest = later (same_name kept.name name) refl has (rest has)

pub are_folders : (disk : MemDiskModel) → IsAscending disk.folders → (listing : List (List ℕ)) → listing ≡ busy_in disk.folders → AreFolders (state_of disk) listing
are_folders disk up listing is =
    let less = pairs (busy_in disk.folders) (ascending_busy disk.folders up) in
    subst (AreFolders (state_of disk)) (sym is) (record {
      sorted = sorted_of (busy_in disk.folders) less;
      distinct = distinct_of (busy_in disk.folders) less;
      busy = λ name. (
        λ has. is_busy-to (folder_at disk.folders name) (there_busy disk.folders up name has),
        λ busy. busy_there disk.folders name (is_busy-from (folder_at disk.folders name) busy),
      );
    })

-- ---- all bytes are theirs

no_file : (files : List File) (pending : Bool) → (not (length files == 0) || pending) ≡ false → files ≡ []
no_file [] pending idle = refl
no_file (file ∷ files) pending idle = let some = some_length (length files) in absurd (cc)

idle_bytes : (folder : FolderModel) → is_busy folder ≡ false → bytes_in folder ≡ 0
idle_bytes folder idle =
    ap (sum_by (λ (file : File). length file.content.bytes)) (files_of_now folder.log ∙ no_file (files_now folder.log) (not (length (folder_of folder.log).pending == 0)) idle)

module _ (kept : Kept) (folders : List Kept) where
  abbrev with_it : List ℕ → ℕ
  with_it name = bytes_in (folder_at (kept ∷ folders) name)

  abbrev without : List ℕ → ℕ
  without name = bytes_in (folder_at folders name)

  another : (name : List ℕ) → order kept.name name ≡ Less → with_it name ≡ without name
  another name less = pick (same_name kept.name name) refl
    where
      pick : (b : Bool) → same_name kept.name name ≡ b → bytes_in (cond b kept.folder (folder_at folders name)) ≡ without name
      pick true same = absurd (never_itself kept.name name less (same_text kept.name name (sym same)))
      pick false same = refl

  others : (names : List (List ℕ)) → AllByRecursion (λ (b : List ℕ). order kept.name b ≡ Less) names → sum_by with_it names ≡ sum_by without names
  others [] all = refl
  others (name ∷ names) all = sum_by-cons with_it name names ∙ ap (λ n. n + sum_by with_it names) (another name all.0) ∙ ap (λ n. without name + n) (others names all.1) ∙ sym (sum_by-cons without name names)

  itself : with_it kept.name ≡ bytes_in kept.folder
  itself = ap (λ (b : Bool). bytes_in (cond b kept.folder (folder_at folders kept.name))) (nat_list_eq_equiv.refl kept.name)

pub busy_used : (folders : List Kept) → IsAscending folders → used_by folders ≡ sum_by (λ name. bytes_in (folder_at folders name)) (busy_in folders)
unfolding IsStrictlySortedBy
busy_used [] up = refl
busy_used (kept ∷ folders) up =
    used_more kept folders ∙ ap (λ n. bytes_in kept.folder + n) (busy_used folders up.1 ∙ sym (others kept folders (busy_in folders) (below_busy (λ (b : List ℕ). order kept.name b ≡ Less) folders up.0)))
    ∙ pick (busy kept) refl
  where
    f : List ℕ → ℕ
    f = with_it kept folders

    pick : (b : Bool) → busy kept ≡ b → bytes_in kept.folder + sum_by f (busy_in folders) ≡ sum_by f (names_in (cond b (kept ∷ filter busy folders) (filter busy folders)))
    pick true is = ap (λ n. n + sum_by f (busy_in folders)) (sym (itself kept folders)) ∙ sym (sum_by-cons f kept.name (busy_in folders))
    pick false is = let none : bytes_in kept.folder ≡ 0 = idle_bytes kept.folder is in omega (arith, none)
