-- Runs of calls as changes of one folder.
use Rattle.std.proofs.Common.{◌≡◌, ◌⊎◌, ⊎_elim, ℕ, zero, suc, ◌≤◌, Bool, true, false, cond, List, [], ◌∷◌, ◌++◌, length, take, Option, refl, sym, ◌∙◌, ap, subst, arith, append_assoc}
use Rattle.std.proofs.lemmas.List.{take-append-le, take_all}
use Rattle.sw_disk.specs.Calls.{Call, SyncDir, Step, Do, Settle, calls_in}
use Rattle.sw_disk.specs.Folder.{Change, Content, File, Folder, IsImage, Survive, all_changed, files_of, same_name}
use Rattle.sw_disk.specs.State.{State, after, run, settled}
use Rattle.sw_disk.proofs.Images.{image_of_all, with_folder-same}
use Rattle.sw_diskfile.specs.Changes.{IsAsBefore, IsFirstPart, SurvivesPart}
use Rattle.sw_diskfile.proofs.Steps.{changes_by, changes_of, run_files, run_images, run_none_pending, temporary_by}
use Rattle.sw_diskfile.proofs.Synced.{AreSyncedChanges}

-- ---- first parts

-- some first part of these is one of these and more
part_of : (first more : List Change) (count : ℕ) → (other : ℕ) × (take count first ≡ take other (first ++ more))
part_of first more count = ⊎_elim
    (λ few. (count, sym (take-append-le count first more few)))
    (λ all. (length first, take_all count first all ∙ sym (take_whole first more)))
    (few_or_all count (length first))
  where
    few_or_all : (m n : ℕ) → (m ≤ n) ⊎ (n ≤ m)
    few_or_all m n = grind arith

    take_whole : (xs ys : List Change) → take (length xs) (xs ++ ys) ≡ xs
    take_whole xs ys = take-append-le (length xs) xs ys (omega arith) ∙ take_all (length xs) xs (omega arith)

module _ (folder : List ℕ) where
  abbrev temporary_after : List Call → Option Content → Option Content
  temporary_after [] temporary = temporary
  temporary_after (call ∷ calls) temporary = temporary_after calls (temporary_by call temporary)

  changes_by-append : (xs ys : List Call) (temporary : Option Content) → changes_by folder (xs ++ ys) temporary ≡ changes_by folder xs temporary ++ changes_by folder ys (temporary_after xs temporary)
  changes_by-append [] ys temporary = refl
  changes_by-append (x ∷ xs) ys temporary =
      let first = changes_of folder x temporary in
      ap (λ (cs : List Change). first ++ cs) (changes_by-append xs ys (temporary_by x temporary))
      ∙ sym (append_assoc first (changes_by folder xs (temporary_by x temporary)) (changes_by folder ys (temporary_after xs (temporary_by x temporary))))

  -- steps of calls that make none make none
  pub quiet_part : (calls : List Call) (steps : List Step) (rest : List Call) (temporary : Option Content) → calls ≡ calls_in steps ++ rest → changes_by folder calls temporary ≡ [] → changes_by folder (calls_in steps) temporary ≡ []
  quiet_part calls steps rest temporary split none =
      nothing (changes_by folder (calls_in steps) temporary) (changes_by folder rest (temporary_after (calls_in steps) temporary))
      (sym (changes_by-append (calls_in steps) rest temporary) ∙ ap (λ (cs : List Call). changes_by folder cs temporary) (sym split) ∙ none)
    where
      nothing : (xs ys : List Change) → xs ++ ys ≡ [] → xs ≡ []
      nothing [] ys is = refl
      nothing (x ∷ xs) ys is = absurd (cc)

  -- ---- folders made stable

  none_pending : (steps : List Step) (state : State) → calls_in steps ≡ [] → (state.folder folder).pending ≡ [] → ((run steps state).folder folder).pending ≡ []
  none_pending [] state none is = is
  none_pending (Do call ∷ steps) state none is = absurd (cc)
  none_pending (Settle other ∷ steps) state none is = none_pending steps (after (Settle other) state) none (pick (same_name folder other))
    where
      pick : (b : Bool) → (cond b (settled (state.folder other)) (state.folder folder)).pending ≡ []
      pick true = refl
      pick false = is

  -- steps whose last call makes it stable
  pub run_pending : (steps : List Step) (front : List Call) (state : State) → calls_in steps ≡ front ++ SyncDir folder ∷ [] → ((run steps state).folder folder).pending ≡ []
  run_pending [] [] state is = absurd (cc)
  run_pending [] (call ∷ front) state is = absurd (cc)
  run_pending (Settle other ∷ steps) front state is = run_pending steps front (after (Settle other) state) is
  run_pending (Do call ∷ steps) [] state is =
      let first : call ≡ SyncDir folder = cc in
      let none : calls_in steps ≡ [] = cc in
      let stable : ((after (Do (SyncDir folder)) state).folder folder).pending ≡ [] = ap (λ (f : Folder). f.pending) (with_folder-same state.folder folder (settled (state.folder folder))) in
      none_pending steps (after (Do call) state) none (subst (λ (c : Call). ((after (Do c) state).folder folder).pending ≡ []) (sym first) stable)
  run_pending (Do call ∷ steps) (other ∷ front) state is = let rest : calls_in steps ≡ front ++ SyncDir folder ∷ [] = cc in run_pending steps front (after (Do call) state) rest

  pub image_stable : (now : Folder) (image : List File) → now.pending ≡ [] → IsImage now image → Survive (files_of now) image
  image_stable now image none w =
      let kept = subst (λ (cs : List Change). Survive (all_changed (take w.kept cs) now.stable) image) none w.survive in
      subst (λ (cs : List Change). Survive (all_changed cs now.stable) image) (take_nothing w.kept ∙ sym none) kept
    where
      take_nothing : (n : ℕ) → take {A = Change} n [] ≡ []
      take_nothing zero = refl
      take_nothing (suc n) = refl

  -- steps that make no change of it
  pub as_before : (steps : List Step) (state : State) → changes_by folder (calls_in steps) state.temporary ≡ [] → IsAsBefore (state.folder folder) ((run steps state).folder folder)
  as_before steps state none =
      let files = files_of (state.folder folder) in
      record {
        files = run_files folder steps state ∙ ap (λ (cs : List Change). all_changed cs files) none;
        pending = run_none_pending folder steps state none;
        images = λ image w. ⊎_elim
            (λ before. before)
            (λ part. image_of_all (state.folder folder) image (nothing part.0 image files (subst (λ (cs : List Change). Survive (all_changed (take part.0 cs) files) image) none part.1)))
            (run_images folder steps state (length steps) image (subst (λ (l : List Step). IsImage ((run l state).folder folder) image) (sym (take_all (length steps) steps (omega arith))) w));
      }
    where
      nothing : (count : ℕ) (image files : List File) → Survive (all_changed (take count []) files) image → Survive files image
      nothing zero image files s = s
      nothing (suc count) image files s = s

  -- ---- calls that make these changes of the folder

  pub record Makes (calls : List Call) (changes : List Change) : Type 0 where
    pub made : (temporary : Option Content) → changes_by folder calls temporary ≡ changes
    pub synced : AreSyncedChanges changes
    pub ends : (changes ≡ []) ⊎ ((front : List Call) × (calls ≡ front ++ SyncDir folder ∷ []))

  module _ (calls : List Call) (changes : List Change) (makes : Makes calls changes) where
    -- the steps that were done make some first part of them
    done_part : (steps : List Step) (rest : List Call) (temporary : Option Content) (count : ℕ) → calls ≡ calls_in steps ++ rest
        → (other : ℕ) × (take count (changes_by folder (calls_in steps) temporary) ≡ take other changes)
    done_part steps rest temporary count split =
        let done = changes_by folder (calls_in steps) temporary in
        let more = changes_by folder rest (temporary_after (calls_in steps) temporary) in
        let part = part_of done more count in
        let whole : done ++ more ≡ changes = sym (changes_by-append (calls_in steps) rest temporary) ∙ ap (λ (cs : List Call). changes_by folder cs temporary) (sym split) ∙ makes.made temporary in
        (part.0, part.1 ∙ ap (take part.0) whole)

    pub part_survives : (steps : List Step) (rest : List Call) (temporary : Option Content) (files image : List File) → calls ≡ calls_in steps ++ rest
        → SurvivesPart (changes_by folder (calls_in steps) temporary) files image → SurvivesPart changes files image
    part_survives steps rest temporary files image split part =
        let other = done_part steps rest temporary part.0 split in
        (other.0, subst (λ (cs : List Change). Survive (all_changed cs files) image) other.1 part.1)

    pub done_files : (steps : List Step) (rest : List Call) (state : State) → calls ≡ calls_in steps ++ rest → IsFirstPart changes (files_of (state.folder folder)) (files_of ((run steps state).folder folder))
    done_files steps rest state split =
        let done = changes_by folder (calls_in steps) state.temporary in
        let other = done_part steps rest state.temporary (length done) split in
        (other.0, run_files folder steps state ∙ ap (λ (cs : List Change). all_changed cs (files_of (state.folder folder))) (sym (take_all (length done) done (omega arith)) ∙ other.1))

    pub all_files : (steps : List Step) (state : State) → calls ≡ calls_in steps → files_of ((run steps state).folder folder) ≡ all_changed changes (files_of (state.folder folder))
    all_files steps state split =
        run_files folder steps state
        ∙ ap (λ (cs : List Change). all_changed cs (files_of (state.folder folder))) (ap (λ (cs : List Call). changes_by folder cs state.temporary) (sym split) ∙ makes.made state.temporary)
