-- The bytes that are used stay those of all files, whatever calls are done.
use Rattle.std.proofs.Common.{◌≡◌, ◌≢◌, ◌⊎◌, inl, inr, ⊎_elim, ℕ, zero, suc, ◌+◌, ◌≤◌, ◌<◌, Bool, true, false, AllPairs, Contains, List, [], ◌∷◌, get_or, length, Option, Some, None, refl, sym, ap, subst, ◌∙◌, arith}
use Rattle.std.specs.Prelude.{sum_by}
use Rattle.std.proofs.lemmas.List.{get_or_default}
use Rattle.std.proofs.lemmas.List.Kept.{AllPairs-cons}
use Rattle.std.proofs.lemmas.List.Sums.{sum_by-cons}
use Rattle.std.proofs.lemmas.Map.Made.{Contains-tail}
use Rattle.std.specs.Cmp.Lexicographic.{same_text}
use Rattle.sw_disk.specs.Answers.{AreFolders, IsBusy}
use Rattle.sw_disk.specs.Calls.{Call, ListFolders, ListNames, ReadFile, WriteTmp, SyncTmp, PublishTmp, RenameFile, RemoveFile, SyncDir, Step, Do, Settle}
use Rattle.sw_disk.specs.Folder.{File, Folder, Remove, Rename, files_of, same_name}
use Rattle.sw_disk.specs.Runs.{IfTold, Past, Runs, Seen, StopsTold}
use Rattle.sw_disk.specs.State.{State, after, pended, published, replaced, run, settled, size_of, stopped, with_folder}
use Rattle.sw_disk.specs.Used.{IsAccounted}
use Rattle.sw_disk.specs.declared.refusal.DiskRefusal.{DiskRefusal}
use Rattle.sw_disk.proofs.Images.{same_name-refl, with_folder-same}

abbrev AreDistinct : List (List ℕ) → Type 0
AreDistinct names = AllPairs (λ a b. a ≢ b) names

rest_distinct : (name : List ℕ) (names : List (List ℕ)) → AreDistinct (name ∷ names) → AreDistinct names
rest_distinct name names distinct = λ i j d less within. distinct (suc i) (suc j) d (omega (arith, less)) (omega (arith, within))

first_apart : (name : List ℕ) (names : List (List ℕ)) → AreDistinct (name ∷ names) → Contains names name → ⊥
first_apart name names distinct has = distinct zero (suc has.0) name (omega arith) (omega (arith, has.1)) (sym has.2)

first_in : (name : List ℕ) (names : List (List ℕ)) → Contains (name ∷ names) name
first_in name names = (zero, omega arith, refl)

later_in : (name : List ℕ) (names : List (List ℕ)) (other : List ℕ) → Contains names other → Contains (name ∷ names) other
later_in name names other has = (suc has.0, omega (arith, has.1), has.2)

-- ---- one folder becomes another

module _ (folders : List ℕ → Folder) (name : List ℕ) (folder : Folder) where
  abbrev Sum : List (List ℕ) → ℕ
  Sum names = sum_by (λ other. size_of (folders other)) names

  abbrev Later : List (List ℕ) → ℕ
  Later names = sum_by (λ other. size_of (with_folder folders name folder other)) names

  kept : (other : List ℕ) → same_name other name ≡ false → with_folder folders name folder other ≡ folders other
  kept other differs = rw differs

  apart : (other : List ℕ) → other ≢ name → with_folder folders name folder other ≡ folders other
  apart other differs = pick (same_name other name) refl
    where
      pick : (is_same : Bool) → same_name other name ≡ is_same → with_folder folders name folder other ≡ folders other
      pick true is = absurd (differs (same_text other name (sym is)))
      pick false is = kept other is

  -- it is one of these, which then have its bytes in place of those before, or the bytes of all of them are as before
  abbrev IsCounted : List (List ℕ) → Type 0
  IsCounted names =
      (Contains names name × (Later names + size_of (folders name) ≡ Sum names + size_of folder) × (size_of (folders name) ≤ Sum names))
      ⊎ ((Contains names name → ⊥) × (Later names ≡ Sum names))

  sum_more : (other : List ℕ) (names : List (List ℕ)) → Sum (other ∷ names) ≡ size_of (folders other) + Sum names
  sum_more other names = sum_by-cons (λ n. size_of (folders n)) other names

  later_more : (other : List ℕ) (names : List (List ℕ)) → Later (other ∷ names) ≡ size_of (with_folder folders name folder other) + Later names
  later_more other names = sum_by-cons (λ n. size_of (with_folder folders name folder n)) other names

  counted_more : (other : List ℕ) (names : List (List ℕ)) → AreDistinct (other ∷ names) → IsCounted names → IsCounted (other ∷ names)
  counted_more other names distinct rest = pick (same_name other name) refl rest
    where
      sum : Sum (other ∷ names) ≡ size_of (folders other) + Sum names
      sum = sum_more other names

      later : Later (other ∷ names) ≡ size_of (with_folder folders name folder other) + Later names
      later = later_more other names

      pick : (is_same : Bool) → same_name other name ≡ is_same → IsCounted names → IsCounted (other ∷ names)
      pick true is (inl has) = absurd (first_apart other names distinct (subst (Contains names) (sym (same_text other name (sym is))) has.0))
      pick true is (inr lacks) =
          let same : other ≡ name = same_text other name (sym is) in
          let first : size_of (with_folder folders name folder other) ≡ size_of folder = ap (λ (n : List ℕ). size_of (with_folder folders name folder n)) same ∙ ap size_of (with_folder-same folders name folder) in
          let before : size_of (folders other) ≡ size_of (folders name) = ap (λ (n : List ℕ). size_of (folders n)) same in
          inl (subst (Contains (other ∷ names)) same (first_in other names), omega (arith, sum, later, first, before, lacks.1), omega (arith, sum, before))
      pick false is (inl has) =
          let first : size_of (with_folder folders name folder other) ≡ size_of (folders other) = ap size_of (kept other is) in
          inl (later_in other names name has.0, omega (arith, sum, later, first, has.1), omega (arith, sum, has.2))
      pick false is (inr lacks) =
          let first : size_of (with_folder folders name folder other) ≡ size_of (folders other) = ap size_of (kept other is) in
          inr (λ has. lacks.0 (Contains-tail other names name (λ here. differs is here) has), omega (arith, sum, later, first, lacks.1))
        where
          differs : same_name other name ≡ false → other ≡ name → ⊥
          differs is here = let same = subst (λ (n : List ℕ). same_name n name ≡ false) here is in let yes = same_name-refl name in cc

  counted : (names : List (List ℕ)) → AreDistinct names → IsCounted names
  counted [] distinct = inr (λ has. absurd (omega (arith, has.1)), refl)
  counted (other ∷ names) distinct = counted_more other names distinct (counted names (rest_distinct other names distinct))

module _ (state : State) (name : List ℕ) (folder : Folder) (is : IsAccounted state) where
  abbrev Counted : Type 0
  Counted = IsCounted state.folder name folder is.names

  replaced_there : Contains is.names name → Later state.folder name folder is.names + size_of (state.folder name) ≡ Sum state.folder name folder is.names + size_of folder → size_of (state.folder name) ≤ Sum state.folder name folder is.names
      → IsAccounted (replaced state name folder)
  replaced_there has sum within = record {
    names = is.names;
    distinct = is.distinct;
    others = λ other lacks. ap files_of (apart state.folder name folder other (λ here. lacks (subst (Contains is.names) (sym here) has))) ∙ is.others other lacks;
    used_is = let used = is.used_is in omega (arith, sum, within, used);
  }

  replaced_new : (Contains is.names name → ⊥) → Later state.folder name folder is.names ≡ Sum state.folder name folder is.names → IsAccounted (replaced state name folder)
  replaced_new lacks sum = record {
    names = name ∷ is.names;
    distinct = AllPairs-cons (λ a b. a ≢ b) name is.names (λ k d within here. lacks (k, within, at k d within here)) is.distinct;
    others = λ other none.
        ap files_of (apart state.folder name folder other (λ here. none (subst (Contains (name ∷ is.names)) (sym here) (first_in name is.names))))
        ∙ is.others other (λ has. none (later_in name is.names other has));
    used_is =
        let used = is.used_is in
        let none : size_of (state.folder name) ≡ 0 = ap (λ (files : List File). sum_by (λ (file : File). length file.content.bytes) files) (is.others name lacks) in
        let first : size_of (with_folder state.folder name folder name) ≡ size_of folder = ap size_of (with_folder-same state.folder name folder) in
        let later = later_more state.folder name folder name is.names in
        omega (arith, sum, used, none, first, later);
  }
    where
      at : (k : ℕ) (d : List ℕ) → k < length is.names → name ≡ get_or is.names k d → get_or is.names k name ≡ name
      at k d within here = get_or_default is.names k name d within ∙ sym here

  pub replaced_accounted : IsAccounted (replaced state name folder)
  replaced_accounted = ⊎_elim (λ has. replaced_there has.0 has.1 has.2) (λ lacks. replaced_new lacks.0 lacks.1) (counted state.folder name folder is.names is.distinct)

-- ---- steps

-- where the folders and the bytes that are used are the same
same_accounted : (a b : State) → b.folder ≡ a.folder → b.used ≡ a.used → IsAccounted a → IsAccounted b
same_accounted a b folders used is = record {
  names = is.names;
  distinct = is.distinct;
  others = λ name lacks. ap (λ (all : List ℕ → Folder). files_of (all name)) folders ∙ is.others name lacks;
  used_is = used ∙ is.used_is ∙ ap (λ (all : List ℕ → Folder). sum_by (λ name. size_of (all name)) is.names) (sym folders);
}

pub step_accounted : (step : Step) (state : State) → IsAccounted state → IsAccounted (after step state)
step_accounted (Settle name) state is = replaced_accounted state name (settled (state.folder name)) is
step_accounted (Do ListFolders) state is = same_accounted state (after (Do ListFolders) state) refl refl is
step_accounted (Do (ListNames name)) state is = same_accounted state (after (Do (ListNames name)) state) refl refl is
step_accounted (Do (ReadFile name file)) state is = same_accounted state (after (Do (ReadFile name file)) state) refl refl is
step_accounted (Do (WriteTmp bytes)) state is = same_accounted state (after (Do (WriteTmp bytes)) state) refl refl is
step_accounted (Do SyncTmp) state is = same_accounted state (after (Do SyncTmp) state) refl refl is
step_accounted (Do (PublishTmp name file)) state is =
    let folder = published state.temporary file (state.folder name) in
    same_accounted (replaced state name folder) (after (Do (PublishTmp name file)) state) refl refl (replaced_accounted state name folder is)
step_accounted (Do (RenameFile name from to)) state is =
    let folder = pended (state.folder name) (Rename from to) in
    same_accounted (replaced state name folder) (after (Do (RenameFile name from to)) state) refl refl (replaced_accounted state name folder is)
step_accounted (Do (RemoveFile name file)) state is =
    let folder = pended (state.folder name) (Remove file) in
    same_accounted (replaced state name folder) (after (Do (RemoveFile name file)) state) refl refl (replaced_accounted state name folder is)
step_accounted (Do (SyncDir name)) state is =
    let folder = settled (state.folder name) in
    same_accounted (replaced state name folder) (after (Do (SyncDir name)) state) refl refl (replaced_accounted state name folder is)

pub run_accounted : (steps : List Step) (state : State) → IsAccounted state → IsAccounted (run steps state)
run_accounted [] state is = is
run_accounted (step ∷ steps) state is = run_accounted steps (after step state) (step_accounted step state is)

-- ---- calls, whether they were all done or not

told_accounted : (steps : List Step) (rest : List Call) (refusal : Option DiskRefusal) (a b : Option State) → StopsTold steps rest refusal a b → IfTold a IsAccounted → IfTold b IsAccounted
told_accounted steps rest refusal None b stops is = subst (λ (o : Option State). IfTold o IsAccounted) (sym stops) tt
told_accounted steps rest None (Some a) b stops is = subst (λ (o : Option State). IfTold o IsAccounted) (sym stops.1) (subst IsAccounted (sym (stops.2.whole refl)) (run_accounted steps a is))
told_accounted steps rest (Some reason) (Some a) b stops is =
    let left = stopped stops.2.is_counted stops.2.temporary (run steps a) in
    subst (λ (o : Option State). IfTold o IsAccounted) (sym stops.1) (subst IsAccounted (sym (stops.2.refused reason refl)) (same_accounted (run steps a) left refl refl (run_accounted steps a is)))

pub runs_accounted : {D : Type 0} (seen : D → Seen) (left_since : D → Past) (calls : List Call) (refusal : Option DiskRefusal) (a b : D) → Runs seen left_since calls refusal a b → IfTold (seen a).told IsAccounted → IfTold (seen b).told IsAccounted
runs_accounted seen left_since calls refusal a b runs is = told_accounted runs.steps runs.rest refusal (seen a).told (seen b).told runs.told is

-- ---- the listing of folders

-- a folder that is not among those that were listed has no file
not_busy : (folder : Folder) → (IsBusy folder → ⊥) → files_of folder ≡ []
not_busy folder idle = pick (files_of folder) refl
  where
    pick : (files : List File) → files_of folder ≡ files → files_of folder ≡ []
    pick [] is = is
    pick (file ∷ files) is = absurd (idle (λ none. let first = none.0 in cc))

pub listed_accounted : (told : Option State) (names : List (List ℕ)) → IfTold told (λ state. AreFolders state names) → IfTold told (λ state. state.used ≡ sum_by (λ name. size_of (state.folder name)) names) → IfTold told IsAccounted
listed_accounted None names are used = tt
listed_accounted (Some state) names are used = record {
  names = names;
  distinct = are.distinct;
  others = λ name lacks. not_busy (state.folder name) (λ busy. lacks ((are.busy name).1 busy));
  used_is = used;
}
