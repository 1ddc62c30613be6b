-- What a run of calls that make changes of a folder leaves there.
use Rattle.std.proofs.Common.{◌≡◌, ◌≢◌, ◌⊎◌, inl, inr, ⊎_elim, ℕ, ◌≤◌, List, [], ◌∷◌, ◌++◌, take, Option, Some, None, Result, Ok, Err, IfErr, IsErrOf, OnOk, refl, sym, ◌∙◌, ap, subst, arith, zero, suc, true≢false, IsSome}
use Rattle.std.specs.Prelude.{⊤}
use Rattle.std.proofs.lemmas.List.{append-nil}
use Rattle.sw_disk.specs.Answers.{IsNotFull}
use Rattle.sw_disk.specs.Calls.{Call, SyncDir, Step, calls_in}
use Rattle.sw_disk.specs.Folder.{Change, Content, File, Folder, IsImage, Survive, all_changed, files_of}
use Rattle.sw_disk.specs.Runs.{IfTold, IsWithin, Past, Runs, Seen, StopsTold, refusal_of}
use Rattle.sw_disk.specs.State.{State, run}
use Rattle.sw_disk.specs.declared.refusal.DiskRefusal.{DiskRefusal}
use Rattle.sw_disk.specs.declared.refusal.DiskRefusal.TheVariants.{Failed, Full, NoMemory}
use Rattle.sw_disk.proofs.Chains.{steps_of}
use Rattle.sw_disk.proofs.Images.{image_of_all}
use Rattle.sw_disk.proofs.Settling.{carry}
use Rattle.sw_diskfile.proofs.Kept.{always}
use Rattle.sw_diskfile.specs.Changes.{AreSynced, Changes, IfBothTold, IsAsBefore, IsMadeStable, Keeps, IsFirstPart, IsSettled, Stands, SurvivesPart}
use Rattle.sw_diskfile.proofs.Changed.{Makes, all_files, as_before, done_files, image_stable, part_survives, quiet_part, run_pending}
use Rattle.sw_diskfile.proofs.Steps.{changes_by, run_images}
use Rattle.sw_diskfile.proofs.Synced.{all_synced, settled_synced, survive_exactly, take_synced}

-- ---- a run that was refused before its first call was done

pub none_done : (call : Call) (done rest : List Call) → call ∷ [] ≡ done ++ rest → rest ≢ [] → done ≡ []
none_done call [] rest split some = refl
none_done call (first ∷ done) rest split some = let none : done ++ rest ≡ [] = cc in absurd (some (after done none))
  where
    after : (xs : List Call) → xs ++ rest ≡ [] → rest ≡ []
    after [] is = is
    after (x ∷ xs) is = absurd (cc)

module _ (folder : List ℕ) where
  -- the folder is as it was, and no more is pending
  before_told : (steps : List Step) (rest : List Call) (reason : DiskRefusal) (a b : Option State) → ((temporary : Option Content) → changes_by folder (calls_in steps) temporary ≡ []) → StopsTold steps rest (Some reason) a b
      → IfTold a (λ before. IfTold b (λ after. IsAsBefore (before.folder folder) (after.folder folder)))
  before_told steps rest reason None b none stops = tt
  before_told steps rest reason (Some state) b none stops =
      subst (λ (o : Option State). IfTold o (λ after. IsAsBefore (state.folder folder) (after.folder folder))) (sym stops.1)
      (subst (λ (s : State). IsAsBefore (state.folder folder) (s.folder folder)) (sym (stops.2.refused reason refl)) (as_before folder steps state (none state.temporary)))

  -- after a run of calls that make no change of it
  pub quiet_before : {D : Type 0} (seen : D → Seen) (left_since : D → Past) (calls : List Call) (reason : DiskRefusal) (a b : D) → ((temporary : Option Content) → changes_by folder calls temporary ≡ []) → Runs seen left_since calls (Some reason) a b
      → IfBothTold (seen a) (seen b) folder IsAsBefore
  quiet_before seen left_since calls reason a b none run =
      before_told run.steps run.rest reason (seen a).told (seen b).told (λ temporary. quiet_part folder calls run.steps run.rest temporary run.split (none temporary)) run.told

  -- and after one that was refused before its first call was done
  pub refused_before : {D : Type 0} (seen : D → Seen) (left_since : D → Past) (call : Call) (reason : DiskRefusal) (a b : D) → Runs seen left_since (call ∷ []) (Some reason) a b → IfBothTold (seen a) (seen b) folder IsAsBefore
  refused_before seen left_since call reason a b run =
      before_told run.steps run.rest reason (seen a).told (seen b).told (λ temporary. ap (λ (cs : List Call). changes_by folder cs temporary) (none_done call (calls_in run.steps) run.rest run.split (run.some reason refl))) run.told

  -- ---- changes

  module _ (calls : List Call) (changes : List Change) (makes : Makes folder calls changes) where
    all_done : (steps : List Step) (rest : List Call) (a b : Option State) → calls ≡ calls_in steps ++ rest → rest ≡ [] → StopsTold steps rest None a b
        → IfTold a (λ before. IfTold b (λ after. files_of (after.folder folder) ≡ all_changed changes (files_of (before.folder folder))))
    all_done steps rest None b split none stops = tt
    all_done steps rest (Some state) b split none stops =
        let whole = split ∙ ap (λ (cs : List Call). calls_in steps ++ cs) none ∙ append-nil (calls_in steps) in
        subst (λ (o : Option State). IfTold o (λ after. files_of (after.folder folder) ≡ all_changed changes (files_of (state.folder folder)))) (sym stops.1)
        (ap (λ (s : State). files_of (s.folder folder)) (stops.2.whole refl) ∙ all_files folder calls changes makes steps state whole)

    part_done : (steps : List Step) (rest : List Call) (a b : Option State) → calls ≡ calls_in steps ++ rest → StopsTold steps rest (Some Failed) a b
        → IfTold a (λ before. IfTold b (λ after. IsFirstPart changes (files_of (before.folder folder)) (files_of (after.folder folder))))
    part_done steps rest None b split stops = tt
    part_done steps rest (Some state) b split stops =
        subst (λ (o : Option State). IfTold o (λ after. IsFirstPart changes (files_of (state.folder folder)) (files_of (after.folder folder)))) (sym stops.1)
        (subst (λ (s : State). IsFirstPart changes (files_of (state.folder folder)) (files_of (s.folder folder))) (sym (stops.2.refused Failed refl)) (done_files folder calls changes makes steps rest state split))

    -- a folder that a crash would have left as it was is so once all was done
    settled_by : (steps : List Step) (state : State) → calls ≡ calls_in steps → IsSettled (state.folder folder) → IsSettled ((run steps state).folder folder)
    settled_by steps state whole is_settled = ⊎_elim unchanged made_stable makes.ends
      where
        files : files_of ((run steps state).folder folder) ≡ all_changed changes (files_of (state.folder folder))
        files = all_files folder calls changes makes steps state whole

        unchanged : changes ≡ [] → IsSettled ((run steps state).folder folder)
        unchanged none = λ image w.
            let same = as_before folder steps state (ap (λ (cs : List Call). changes_by folder cs state.temporary) (sym whole) ∙ makes.made state.temporary ∙ none) in
            is_settled image (same.images image w) ∙ sym same.files

        made_stable : (front : List Call) × (calls ≡ front ++ SyncDir folder ∷ []) → IsSettled ((run steps state).folder folder)
        made_stable last = λ image w.
            survive_exactly (files_of ((run steps state).folder folder)) image
            (subst AreSynced (sym files) (all_synced changes (files_of (state.folder folder)) makes.synced (settled_synced (state.folder folder) is_settled)))
            (image_stable folder ((run steps state).folder folder) image (run_pending folder steps last.0 state (sym whole ∙ last.1)) w)

    settled_after : (steps : List Step) (rest : List Call) (refusal : Option DiskRefusal) (a b : Option State) → calls ≡ calls_in steps ++ rest → (refusal ≡ None → rest ≡ []) → StopsTold steps rest refusal a b
        → IfTold a (λ before. IfTold b (λ after. refusal ≡ None → IsSettled (before.folder folder) → IsSettled (after.folder folder)))
    settled_after steps rest refusal None b split all stops = tt
    settled_after steps rest refusal (Some state) b split all stops =
        subst (λ (o : Option State). IfTold o (λ after. refusal ≡ None → IsSettled (state.folder folder) → IsSettled (after.folder folder))) (sym stops.1)
        (λ is is_settled.
        let whole = split ∙ ap (λ (cs : List Call). calls_in steps ++ cs) (all is) ∙ append-nil (calls_in steps) in
        subst (λ (s : State). IsSettled (s.folder folder)) (sym (stops.2.whole is)) (settled_by steps state whole is_settled))

    -- ---- what a crash leaves

    module _ (new_past : ℕ → List File → Type 0) (old_past : ℕ → List File → Type 0) (moment : ℕ) where
      left_told : (steps : List Step) (rest : List Call) (told : Option State) → calls ≡ calls_in steps ++ rest
          → ((image : List File) → IfTold told (λ s. IsImage (s.folder folder) image → old_past moment image))
          → ((since later : ℕ) (image : List File) → since ≤ later → old_past later image → old_past since image)
          → ((t : ℕ) (image : List File) → t ≤ moment → new_past t image → old_past t image ⊎ IfTold told (λ s. IsWithin steps s folder image))
          → IfTold told (λ before. (t : ℕ) (image : List File) → t ≤ moment → new_past t image → old_past t image ⊎ SurvivesPart changes (files_of (before.folder folder)) image)
      left_told steps rest None split now earlier else = tt
      left_told steps rest (Some state) split now earlier else = λ t image le left. ⊎_elim
          (λ past. inl past)
          (λ w. ⊎_elim
          (λ before. inl (earlier t moment image le (now image before)))
          (λ part. inr (part_survives folder calls changes makes steps rest state.temporary (files_of (state.folder folder)) image split part))
          (run_images folder steps state w.count image w.left))
          (else t image le left)

      exactly_told : (told : Option State)
          → IfTold told (λ before. (t : ℕ) (image : List File) → t ≤ moment → new_past t image → old_past t image ⊎ SurvivesPart changes (files_of (before.folder folder)) image)
          → IfTold told (λ before. AreSynced (files_of (before.folder folder)) → (t : ℕ) (image : List File) → t ≤ moment → new_past t image → old_past t image ⊎ IsFirstPart changes (files_of (before.folder folder)) image)
      exactly_told None leaves = tt
      exactly_told (Some state) leaves = λ synced t image le left. ⊎_elim
          (λ past. inl past)
          (λ part. inr (
            part.0,
            survive_exactly (all_changed (take part.0 changes) (files_of (state.folder folder))) image
                (all_synced (take part.0 changes) (files_of (state.folder folder)) (take_synced part.0 changes makes.synced) synced)
                part.1,
          ))
          (leaves t image le left)

      within_told : (told : Option State) → ((image : List File) → old_past moment image → IfTold told (λ s. IsImage (s.folder folder) image))
          → IfTold told (λ before. AreSynced (files_of (before.folder folder)) → (t : ℕ) (image : List File) → t ≤ moment → new_past t image → old_past t image ⊎ IsFirstPart changes (files_of (before.folder folder)) image)
          → IfTold told (λ before. IsSettled (before.folder folder) → (image : List File) → new_past moment image → IsFirstPart changes (files_of (before.folder folder)) image)
      within_told None only exactly = tt
      within_told (Some state) only exactly = λ is_settled image left. ⊎_elim
          (λ past. (0, is_settled image (only image past)))
          (λ part. part)
          (exactly (settled_synced (state.folder folder) is_settled) moment image (omega arith) left)

    -- bytes that were on the disk still are
    stand_synced : (refusal : Option DiskRefusal) (before after : Folder) → Stands refusal changes before after → AreSynced (files_of before) → AreSynced (files_of after)
    stand_synced None before after is synced = subst AreSynced (sym is) (all_synced changes (files_of before) makes.synced synced)
    stand_synced (Some Failed) before after is synced = subst AreSynced (sym is.1) (all_synced (take is.0 changes) (files_of before) (take_synced is.0 changes makes.synced) synced)
    stand_synced (Some (Full need free)) before after is synced = subst AreSynced (sym is.files) synced
    stand_synced (Some NoMemory) before after is synced = subst AreSynced (sym is.files) synced

-- what follows of a folder before and after
pub both_map : (old new : Seen) (folder : List ℕ) (Has : Folder → Type 0) (P Q : Folder → Folder → Type 0) → ((before after : Folder) → Has before → P before after → Q before after)
    → IfTold old.told (λ before. Has (before.folder folder)) → IfBothTold old new folder P → IfBothTold old new folder Q
both_map old new folder Has P Q more there has = map_told old.told new.told there has
  where
    map_told : (a b : Option State) → IfTold a (λ before. Has (before.folder folder)) → IfTold a (λ before. IfTold b (λ after. P (before.folder folder) (after.folder folder)))
        → IfTold a (λ before. IfTold b (λ after. Q (before.folder folder) (after.folder folder)))
    map_told None b there has = tt
    map_told (Some s) None there has = tt
    map_told (Some s) (Some t) there has = more (s.folder folder) (t.folder folder) there has

-- ---- the whole

module _ {D : Type 0} (seen : D → Seen) (left_since : D → Past) (folder : List ℕ) (calls : List Call) (changes : List Change) (makes : Makes folder calls changes) (a b : D) where
  stands : (refusal : Option DiskRefusal) → Runs seen left_since calls refusal a b → ((reason : DiskRefusal) → refusal ≡ Some reason → reason ≢ Failed → IfBothTold (seen a) (seen b) folder IsAsBefore)
      → IfTold (seen a).told (λ before. IfTold (seen b).told (λ after. Stands refusal changes (before.folder folder) (after.folder folder)))
  stands None run early = all_done folder calls changes makes run.steps run.rest (seen a).told (seen b).told run.split (run.all refl) run.told
  stands (Some Failed) run early = part_done folder calls changes makes run.steps run.rest (seen a).told (seen b).told run.split run.told
  stands (Some (Full need free)) run early = early (Full need free) refl (λ is. cc)
  stands (Some NoMemory) run early = early NoMemory refl (λ is. cc)

  pub changes_run : (refusal : Option DiskRefusal)
      → ((image : List File) → IfTold (seen a).told (λ s. IsImage (s.folder folder) image → left_since a (seen a).moment folder image))
      → ((image : List File) → left_since a (seen a).moment folder image → IfTold (seen a).told (λ s. IsImage (s.folder folder) image))
      → ((since later : ℕ) (image : List File) → since ≤ later → left_since a later folder image → left_since a since folder image)
      → Runs seen left_since calls refusal a b → ((reason : DiskRefusal) → refusal ≡ Some reason → reason ≢ Failed → IfBothTold (seen a) (seen b) folder IsAsBefore)
      → Changes seen left_since folder changes refusal a b
  changes_run refusal now only earlier run early =
      let new_past = λ (t : ℕ) (image : List File). left_since b t folder image in
      let old_past = λ (t : ℕ) (image : List File). left_since a t folder image in
      let leaves = left_told folder calls changes makes new_past old_past (seen a).moment run.steps run.rest (seen a).told run.split now earlier (λ t image. run.nothing_else t folder image) in
      let exactly = exactly_told folder calls changes makes new_past old_past (seen a).moment (seen a).told leaves in
      let stand = stands refusal run early in
      record {
        stands = stand;
        synced = both_map (seen a) (seen b) folder (λ _. ⊤) (Stands refusal changes) (λ before after. AreSynced (files_of before) → AreSynced (files_of after)) (λ before after _ is. stand_synced folder calls changes makes refusal before after is) (always (seen a).told) stand;
        leaves = leaves;
        exactly = exactly;
        within = within_told folder calls changes makes new_past old_past (seen a).moment (seen a).told only exactly;
        settles = settled_after folder calls changes makes run.steps run.rest refusal (seen a).told (seen b).told run.split run.all run.told;
      }

-- ---- where all was done

pub on_ok : {T : Type 0} (result : Result T DiskRefusal) (P : Type 0) → (refusal_of result ≡ None → P) → OnOk result P
on_ok (Ok value) P holds = holds refl
on_ok (Err reason) P holds = tt

-- it is not full where no numbers of a full disk can be told
pub not_full : (result : Result (Unit {0}) DiskRefusal) → ((need free : ℕ) → IsErrOf result (Full need free) → ⊥) → IfErr result IsNotFull
not_full (Ok unit) none = tt
not_full (Err Failed) none = tt
not_full (Err NoMemory) none = tt
not_full (Err (Full need free)) none = none need free refl

-- where it only fails
pub only_fails : (result : Result (Unit {0}) DiskRefusal) (reason : DiskRefusal) → IfErr result (λ refusal. refusal ≡ Failed) → refusal_of result ≡ Some reason → reason ≡ Failed
only_fails (Ok unit) reason cause is = absurd (cc)
only_fails (Err refusal) reason cause is = cc

module _ {D : Type 0} (seen : D → Seen) (left_since : D → Past) (folder : List ℕ) (a b : D) where
  -- its last call made the folder stable
  none_pending : (front : List Call) → Runs seen left_since (front ++ SyncDir folder ∷ []) None a b → IfTold (seen b).told (λ after. (after.folder folder).pending ≡ [])
  none_pending front runs =
      carry seen left_since (front ++ SyncDir folder ∷ []) a b (λ s. ⊤) (λ s. (s.folder folder).pending ≡ []) runs (always (seen a).told)
      (λ steps state is _. run_pending folder steps front state is)

  made_stable : (told later : Option State) → IfTold later (λ after. (after.folder folder).pending ≡ []) → IfTold told (λ before. IfTold later (λ after. AreSynced (files_of (before.folder folder)) → AreSynced (files_of (after.folder folder))))
      → IfTold told (λ before. IfTold later (λ after. IsMadeStable (before.folder folder) (after.folder folder)))
  made_stable None later none synced = tt
  made_stable (Some s) None none synced = tt
  made_stable (Some s) (Some t) none synced = (none, λ before image w. survive_exactly (files_of (t.folder folder)) image (synced before) (image_stable folder (t.folder folder) image none w))

  pub stable_run : (front : List Call) (changes : List Change) (refusal : Option DiskRefusal) → Runs seen left_since (front ++ SyncDir folder ∷ []) None a b → Changes seen left_since folder changes refusal a b → IfBothTold (seen a) (seen b) folder IsMadeStable
  stable_run front changes refusal runs done = made_stable (seen a).told (seen b).told (none_pending front runs) done.synced

  -- all the changes stand
  pub all_stand : (changes : List Change) (refusal : Option DiskRefusal) (Has : Folder → Type 0) (Q : Folder → Folder → Type 0) → refusal ≡ None → Changes seen left_since folder changes refusal a b
      → IfTold (seen a).told (λ before. Has (before.folder folder)) → ((before after : Folder) → Has before → files_of after ≡ all_changed changes (files_of before) → Q before after) → IfBothTold (seen a) (seen b) folder Q
  all_stand changes refusal Has Q none done there more =
      both_map (seen a) (seen b) folder Has (Stands None changes) Q more there
      (subst (λ (r : Option DiskRefusal). IfBothTold (seen a) (seen b) folder (Stands r changes)) none done.stands)

-- ---- calls that change no name

module _ (folder : List ℕ) where
  quiet_told : (steps : List Step) (rest : List Call) (a b : Option State) → ((temporary : Option Content) → changes_by folder (calls_in steps) temporary ≡ []) → StopsTold steps rest None a b
      → IfTold a (λ before. IfTold b (λ after. IsAsBefore (before.folder folder) (after.folder folder)))
  quiet_told steps rest None b none stops = tt
  quiet_told steps rest (Some state) b none stops =
      subst (λ (o : Option State). IfTold o (λ after. IsAsBefore (state.folder folder) (after.folder folder))) (sym stops.1)
      (subst (λ (s : State). IsAsBefore (state.folder folder) (s.folder folder)) (sym (stops.2.whole refl)) (as_before folder steps state (none state.temporary)))

  -- whether they were all done or not
  pub quiet_run : {D : Type 0} (seen : D → Seen) (left_since : D → Past) (calls : List Call) (a b : D) → ((temporary : Option Content) → changes_by folder calls temporary ≡ [])
      → (refusal : Option DiskRefusal) → Runs seen left_since calls refusal a b → IfBothTold (seen a) (seen b) folder IsAsBefore
  quiet_run seen left_since calls a b none None run =
      let all = steps_of seen left_since calls a b run in
      quiet_told run.steps run.rest (seen a).told (seen b).told (λ temporary. ap (λ (cs : List Call). changes_by folder cs temporary) (sym all) ∙ none temporary) run.told
  quiet_run seen left_since calls a b none (Some reason) run = quiet_before folder seen left_since calls reason a b none run

-- ---- the folders that a run leaves alone

module _ {D : Type 0} (seen : D → Seen) (left_since : D → Past) (These : List ℕ → Type 0) (calls : List Call) (quiet : (name : List ℕ) → These name → (temporary : Option Content) → changes_by name calls temporary ≡ []) (a b : D)
    (now : (name : List ℕ) (image : List File) → IfTold (seen a).told (λ s. IsImage (s.folder name) image → left_since a (seen a).moment name image))
    (earlier : (since later : ℕ) (name : List ℕ) (image : List File) → since ≤ later → left_since a later name image → left_since a since name image) where
  nothing : (count : ℕ) (files image : List File) → Survive (all_changed (take count []) files) image → Survive files image
  nothing zero files image s = s
  nothing (suc count) files image s = s

  left_alone : (name : List ℕ) (told : Option State) → ((image : List File) → IfTold told (λ s. IsImage (s.folder name) image → left_since a (seen a).moment name image))
      → IfTold told (λ before. (t : ℕ) (image : List File) → t ≤ (seen a).moment → left_since b t name image → left_since a t name image ⊎ SurvivesPart [] (files_of (before.folder name)) image)
      → IsSome told → (t : ℕ) (image : List File) → t ≤ (seen a).moment → left_since b t name image → left_since a t name image
  left_alone name None here leaves = λ some t image le left. absurd (true≢false (sym some))
  left_alone name (Some s) here leaves = λ some t image le left. ⊎_elim
      (λ past. past)
      (λ part. earlier t (seen a).moment name image le (here image (image_of_all (s.folder name) image (nothing part.0 (files_of (s.folder name)) image part.1))))
      (leaves t image le left)

  pub keeps_run : (refusal : Option DiskRefusal) → Runs seen left_since calls refusal a b → Keeps seen left_since These a b
  keeps_run refusal run = record {
    stands = λ name these. quiet_run name seen left_since calls a b (quiet name these) refusal run;
    leaves = λ some name these.
        left_alone name (seen a).told (now name)
        (left_told name calls [] (record { made = quiet name these; synced = tt; ends = inl refl }) (λ (t : ℕ) (image : List File). left_since b t name image) (λ (t : ℕ) (image : List File). left_since a t name image) (seen a).moment
        run.steps run.rest (seen a).told run.split (now name) (λ since later image. earlier since later name image) (λ t image. run.nothing_else t name image))
        some;
  }

-- ---- where it was refused before any change

module _ {D : Type 0} (seen : D → Seen) (left_since : D → Past) (a b : D)
    (now : (name : List ℕ) (image : List File) → IfTold (seen a).told (λ s. IsImage (s.folder name) image → left_since a (seen a).moment name image))
    (earlier : (since later : ℕ) (name : List ℕ) (image : List File) → since ≤ later → left_since a later name image → left_since a since name image) where
  pub keeps_refused : (call : Call) (reason : DiskRefusal) → Runs seen left_since (call ∷ []) (Some reason) a b → Keeps seen left_since (λ _. ⊤) a b
  keeps_refused call reason run =
      let none = none_done call (calls_in run.steps) run.rest run.split (run.some reason refl) in
      let quiet = λ (name : List ℕ) (temporary : Option Content). ap (λ (cs : List Call). changes_by name cs temporary) none in
      record {
        stands = λ name _. refused_before name seen left_since call reason a b run;
        leaves = λ some name _.
            left_alone seen left_since (λ _. ⊤) (calls_in run.steps) (λ name _. quiet name) a b now earlier name (seen a).told (now name)
            (left_told name (calls_in run.steps) [] (record { made = quiet name; synced = tt; ends = inl refl }) (λ (t : ℕ) (image : List File). left_since b t name image) (λ (t : ℕ) (image : List File). left_since a t name image) (seen a).moment
            run.steps [] (seen a).told (sym (append-nil (calls_in run.steps))) (now name) (λ since later image. earlier since later name image) (λ t image. run.nothing_else t name image))
            some;
      }
