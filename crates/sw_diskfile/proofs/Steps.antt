-- What steps do to one folder: which changes of names they make, and what a crash within them leaves.
use Rattle.std.proofs.Common.{◌≡◌, ◌⊎◌, inl, inr, ⊎_elim, ℕ, zero, suc, ◌+◌, Bool, true, false, cond, List, [], ◌∷◌, ◌++◌, length, take, Option, Some, None, refl, sym, ◌∙◌, ap, subst}
use Rattle.std.specs.Cmp.Lexicographic.{same_text}
use Rattle.std.proofs.Math.Seq.{take-append-add}
use Rattle.sw_disk.specs.Calls.{Call, ListFolders, ListNames, ReadFile, WriteTmp, SyncTmp, PublishTmp, RenameFile, RemoveFile, SyncDir, Step, Do, Settle, calls_in}
use Rattle.sw_disk.specs.Folder.{Change, Publish, Rename, Remove, Content, File, Folder, IsImage, Survive, all_changed, files_of, same_name}
use Rattle.sw_disk.specs.State.{State, after, pended, published, run, settled, synced, with_folder}
use Rattle.sw_diskfile.specs.Changes.{SurvivesPart}
use Rattle.sw_disk.proofs.Images.{all_changed-append, image-pended, image-settled, image_of_all}

-- ---- one folder

-- it became another by these changes, and a crash leaves what it left before, or all of them
record Moves (before : Folder) (changes : List Change) (now : Folder) : Type 0 where
  files : files_of now ≡ all_changed changes (files_of before)
  pending : changes ≡ [] → before.pending ≡ [] → now.pending ≡ []
  images : (image : List File) → IsImage now image → IsImage before image ⊎ Survive (all_changed changes (files_of before)) image

stays : (folder : Folder) → Moves folder [] folder
stays folder = record { files = refl; pending = λ _ none. none; images = λ image w. inl w }

settles : (folder : Folder) → Moves folder [] (settled folder)
settles folder = record { files = refl; pending = λ _ _. refl; images = λ image w. inl (image_of_all folder image (image-settled folder image w)) }

pends : (folder : Folder) (change : Change) → Moves folder (change ∷ []) (pended folder change)
pends folder change = record { files = all_changed-append folder.pending (change ∷ []) folder.stable; pending = λ nothing. absurd (cc); images = image-pended folder change }

-- the change that moves the temporary file to a name
abbrev publishing : Option Content → List ℕ → List Change
publishing None name = []
publishing (Some content) name = Publish (record { name = name; content = content }) ∷ []

publishes : (temporary : Option Content) (name : List ℕ) (folder : Folder) → Moves folder (publishing temporary name) (published temporary name folder)
publishes None name folder = stays folder
publishes (Some content) name folder = pends folder (Publish (record { name = name; content = content }))

-- ---- calls

-- the temporary file after a call
abbrev pub temporary_by : Call → Option Content → Option Content
temporary_by (WriteTmp bytes) temporary = Some (record { bytes = bytes; synced = false })
temporary_by SyncTmp temporary = synced temporary
temporary_by (PublishTmp other name) temporary = None
temporary_by call temporary = temporary

temporary_is : (call : Call) (state : State) → (after (Do call) state).temporary ≡ temporary_by call state.temporary
temporary_is ListFolders state = refl
temporary_is (ListNames other) state = refl
temporary_is (ReadFile other name) state = refl
temporary_is (WriteTmp bytes) state = refl
temporary_is SyncTmp state = refl
temporary_is (PublishTmp other name) state = refl
temporary_is (RenameFile other from to) state = refl
temporary_is (RemoveFile other name) state = refl
temporary_is (SyncDir other) state = refl

module _ (folder : List ℕ) where
  -- the changes of the folder that a call makes
  abbrev pub changes_of : Call → Option Content → List Change
  changes_of (PublishTmp other name) temporary = cond (same_name folder other) (publishing temporary name) []
  changes_of (RenameFile other from to) temporary = cond (same_name folder other) (Rename from to ∷ []) []
  changes_of (RemoveFile other name) temporary = cond (same_name folder other) (Remove name ∷ []) []
  changes_of call temporary = []

  -- and a list of calls
  abbrev pub changes_by : List Call → Option Content → List Change
  changes_by [] temporary = []
  changes_by (call ∷ calls) temporary = changes_of call temporary ++ changes_by calls (temporary_by call temporary)

  -- another folder in the place of one
  module _ (folders : List ℕ → Folder) (other : List ℕ) (changes : List Change) (now : Folder) (moves : Moves (folders other) changes now) where
    pick : (is_same : Bool) → same_name folder other ≡ is_same → Moves (folders folder) (cond is_same changes []) (cond is_same now (folders folder))
    pick true same = subst (λ (n : List ℕ). Moves (folders n) changes now) (sym (same_text folder other (sym same))) moves
    pick false same = stays (folders folder)

    replaced : Moves (folders folder) (cond (same_name folder other) changes []) (with_folder folders other now folder)
    replaced = pick (same_name folder other) refl

  abbrev none : List Change
  none = []

  no_changes : (is_same : Bool) → cond is_same none none ≡ none
  no_changes true = refl
  no_changes false = refl

  made_stable : (state : State) (other : List ℕ) → Moves (state.folder folder) [] ((after (Settle other) state).folder folder)
  made_stable state other =
      subst (λ (changes : List Change). Moves (state.folder folder) changes ((after (Settle other) state).folder folder)) (no_changes (same_name folder other))
      (replaced state.folder other [] (settled (state.folder other)) (settles (state.folder other)))

  called : (call : Call) (state : State) → Moves (state.folder folder) (changes_of call state.temporary) ((after (Do call) state).folder folder)
  called ListFolders state = stays (state.folder folder)
  called (ListNames other) state = stays (state.folder folder)
  called (ReadFile other name) state = stays (state.folder folder)
  called (WriteTmp bytes) state = stays (state.folder folder)
  called SyncTmp state = stays (state.folder folder)
  called (PublishTmp other name) state = replaced state.folder other (publishing state.temporary name) (published state.temporary name (state.folder other)) (publishes state.temporary name (state.folder other))
  called (RenameFile other from to) state = replaced state.folder other (Rename from to ∷ []) (pended (state.folder other) (Rename from to)) (pends (state.folder other) (Rename from to))
  called (RemoveFile other name) state = replaced state.folder other (Remove name ∷ []) (pended (state.folder other) (Remove name)) (pends (state.folder other) (Remove name))
  called (SyncDir other) state = made_stable state other

  -- ---- steps

  abbrev changes_in : List Step → State → List Change
  changes_in steps state = changes_by (calls_in steps) state.temporary

  next_changes : (call : Call) (steps : List Step) (state : State) → changes_of call state.temporary ++ changes_in steps (after (Do call) state) ≡ changes_in (Do call ∷ steps) state
  next_changes call steps state = ap (λ (t : Option Content). changes_of call state.temporary ++ changes_by (calls_in steps) t) (temporary_is call state)

  -- the files after steps
  pub run_files : (steps : List Step) (state : State) → files_of ((run steps state).folder folder) ≡ all_changed (changes_in steps state) (files_of (state.folder folder))
  run_files [] state = refl
  run_files (Settle other ∷ steps) state = run_files steps (after (Settle other) state) ∙ ap (all_changed (changes_in steps state)) (made_stable state other).files
  run_files (Do call ∷ steps) state =
      let first = changes_of call state.temporary in
      let next = changes_in steps (after (Do call) state) in
      run_files steps (after (Do call) state) ∙ ap (all_changed next) (called call state).files
      ∙ sym (all_changed-append first next (files_of (state.folder folder)))
      ∙ ap (λ (cs : List Change). all_changed cs (files_of (state.folder folder))) (next_changes call steps state)

  -- nothing comes to be pending where no change is made
  pub run_none_pending : (steps : List Step) (state : State) → changes_in steps state ≡ [] → (state.folder folder).pending ≡ [] → ((run steps state).folder folder).pending ≡ []
  run_none_pending [] state nothing none = none
  run_none_pending (Settle other ∷ steps) state nothing none = run_none_pending steps (after (Settle other) state) nothing ((made_stable state other).pending refl none)
  run_none_pending (Do call ∷ steps) state nothing none =
      let both = nothing_in (changes_of call state.temporary) (changes_in steps (after (Do call) state)) (next_changes call steps state ∙ nothing) in
      run_none_pending steps (after (Do call) state) both.1 ((called call state).pending both.0 none)
    where
      nothing_in : (xs ys : List Change) → xs ++ ys ≡ [] → (xs ≡ []) × (ys ≡ [])
      nothing_in [] ys is = (refl, is)
      nothing_in (x ∷ xs) ys is = absurd (cc)

  -- the first of the changes, and then some first part of the others
  part_more : (first next : List Change) (files image : List File) → SurvivesPart next (all_changed first files) image → SurvivesPart (first ++ next) files image
  part_more first next files image part = (
    length first + part.0,
    subst (λ (fs : List File). Survive fs image)
        (sym (ap (λ (cs : List Change). all_changed cs files) (take-append-add first next part.0) ∙ all_changed-append first (take part.0 next) files))
        part.1,
  )

  part_first : (first next : List Change) (files image : List File) → Survive (all_changed first files) image → SurvivesPart (first ++ next) files image
  part_first first next files image s = part_more first next files image (0, s)

  -- a crash after some of the steps
  pub run_images : (steps : List Step) (state : State) (count : ℕ) (image : List File) → IsImage ((run (take count steps) state).folder folder) image
      → IsImage (state.folder folder) image ⊎ SurvivesPart (changes_in steps state) (files_of (state.folder folder)) image
  run_images steps state zero image w = inl (subst (λ (l : List Step). IsImage ((run l state).folder folder) image) (take_none steps) w)
    where
      take_none : (l : List Step) → take 0 l ≡ []
      take_none [] = refl
      take_none (step ∷ l) = refl
  run_images [] state (suc count) image w = inl w
  run_images (Settle other ∷ steps) state (suc count) image w =
      let move = made_stable state other in
      ⊎_elim
      (λ now. ⊎_elim (λ before. inl before) (λ s. inr (0, s)) (move.images image now))
      (λ part. inr (subst (λ (fs : List File). SurvivesPart (changes_in steps state) fs image) move.files part))
      (run_images steps (after (Settle other) state) count image w)
  run_images (Do call ∷ steps) state (suc count) image w =
      let move = called call state in
      let first = changes_of call state.temporary in
      let next = changes_in steps (after (Do call) state) in
      let files = files_of (state.folder folder) in
      let whole = λ (part : SurvivesPart (first ++ next) files image). subst (λ (cs : List Change). SurvivesPart cs files image) (next_changes call steps state) part in
      ⊎_elim
      (λ now. ⊎_elim (λ before. inl before) (λ s. inr (whole (part_first first next files image s))) (move.images image now))
      (λ part. inr (whole (part_more first next files image (subst (λ (fs : List File). SurvivesPart next fs image) move.files part))))
      (run_images steps (after (Do call) state) count image w)
