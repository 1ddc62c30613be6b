-- What a run of tidying leaves.
use Rattle.std.proofs.Common.{◌≡◌, ◌≢◌, inl, inr, ℕ, ◌≤◌, Bool, List, [], ◌∷◌, map, Option, Some, None, refl, sym, subst}
use Rattle.std.specs.Prelude.{⊤}
use Rattle.sw_disk.specs.Answers.{IsListing, names_of}
use Rattle.sw_disk.specs.Calls.{Call, ListNames, SyncDir}
use Rattle.sw_disk.specs.Folder.{File, IsImage, Remove, files_of}
use Rattle.sw_disk.specs.Runs.{IfTold, IsUntouched, Past, Runs, Seen}
use Rattle.sw_disk.specs.State.{State}
use Rattle.sw_disk.specs.declared.refusal.DiskRefusal.{DiskRefusal}
use Rattle.sw_disk.specs.declared.refusal.DiskRefusal.TheVariants.{Failed}
use Rattle.sw_disk.proofs.Chains.{runs_after, runs_more, runs_stop, told_map}
use Rattle.sw_diskfile.specs.Calls.{purge_calls, tidy_calls}
use Rattle.sw_diskfile.specs.Changes.{Changes, IfBothTold, IsAsBefore, IsMadeStable, Keeps}
use Rattle.sw_diskfile.specs.Names.{IsListed, RunsUnlessMemory}
use Rattle.sw_diskfile.specs.Normal.{AreObsolete, IsTidied, KeepsNormal, Tidies, WithObsolete}
use Rattle.sw_diskfile.proofs.Begun.{unbegun}
use Rattle.sw_diskfile.proofs.CallLists.{makes_none, makes_tidy, tidy_alone, tidy_ends}
use Rattle.sw_diskfile.proofs.Keeping.{keeps, keeps_none, keeps_removed, tidied}
use Rattle.sw_diskfile.proofs.Kept.{always, quiet_keeps}
use Rattle.sw_diskfile.proofs.Listings.{listed_directory}
use Rattle.sw_diskfile.proofs.Normal.{one_list}
use Rattle.sw_diskfile.proofs.Outcomes.{all_stand, changes_run, keeps_run, quiet_before, stable_run}

-- ---- the look that it begins with

module _ {D : Type 0} (seen : D → Seen) (left_since : D → Past) (folder : List ℕ) (a b : D) where
  pub look_done : RunsUnlessMemory seen left_since (ListNames folder ∷ []) None a b → Runs seen left_since (ListNames folder ∷ []) None a b
  look_done (inl run) = run
  look_done (inr want) = let is = want.0 in absurd (cc)

  pub look_refused : (reason : DiskRefusal) → RunsUnlessMemory seen left_since (ListNames folder ∷ []) (Some reason) a b → Runs seen left_since (ListNames folder ∷ SyncDir folder ∷ []) (Some reason) a b
  look_refused reason (inl run) = runs_stop seen left_since (ListNames folder ∷ []) (SyncDir folder ∷ []) reason a b run
  look_refused reason (inr want) =
      let is = want.0 in
      runs_more seen left_since (ListNames folder ∷ []) (SyncDir folder ∷ []) (Some reason) a b b want.1 (unbegun seen left_since (SyncDir folder) [] reason b (λ failed. cc))

-- what a folder's files had before the look they have where there is room for changes, too
pub looked_keeps : {D : Type 0} (seen : D → Seen) (left_since : D → Past) (folder : List ℕ) (a b c : D) (P : List File → Type 0) → RunsUnlessMemory seen left_since (ListNames folder ∷ []) None a b → IsUntouched seen left_since b c
    → IfTold (seen a).told (λ s. P (files_of (s.folder folder))) → IfTold (seen c).told (λ s. P (files_of (s.folder folder)))
looked_keeps seen left_since folder a b c P looked same has =
    subst (λ (o : Option State). IfTold o (λ s. P (files_of (s.folder folder)))) (sym same.told)
    (quiet_keeps seen left_since a b (ListNames folder ∷ []) folder P tt (look_done seen left_since folder a b looked) has)

-- what follows it, once there is room for the removals
pub tidies_all : {D : Type 0} (seen : D → Seen) (left_since : D → Past) (folder : List ℕ) (is_primary : Bool) (a b c d : D) (texts obsolete : List (List ℕ)) → IsListed (seen a).told folder texts → AreObsolete is_primary texts obsolete
    → RunsUnlessMemory seen left_since (ListNames folder ∷ []) None a b → IsUntouched seen left_since b c → (refusal : Option DiskRefusal) → ((reason : DiskRefusal) → refusal ≡ Some reason → reason ≡ Failed)
    → Runs seen left_since (SyncDir folder ∷ purge_calls folder obsolete) refusal c d → Tidies seen left_since folder is_primary refusal a d
tidies_all seen left_since folder is_primary a b c d texts obsolete listed are looked same refusal only purged =
    inr (
      texts,
      obsolete,
      listed,
      are,
      only,
      runs_more seen left_since (ListNames folder ∷ []) (SyncDir folder ∷ purge_calls folder obsolete) refusal a b d (look_done seen left_since folder a b looked)
          (runs_after seen left_since (SyncDir folder ∷ purge_calls folder obsolete) refusal b c d same purged),
    )

-- ---- all of it

module _ {D : Type 0} (seen : D → Seen) (left_since : D → Past) (folder : List ℕ) (is_primary : Bool) (a b : D)
    (now : (image : List File) → IfTold (seen a).told (λ s. IsImage (s.folder folder) image → left_since a (seen a).moment folder image))
    (only : (image : List File) → left_since a (seen a).moment folder image → IfTold (seen a).told (λ s. IsImage (s.folder folder) image))
    (earlier : (since later : ℕ) (image : List File) → since ≤ later → left_since a later folder image → left_since a since folder image) where
  abbrev front : List Call
  front = ListNames folder ∷ SyncDir folder ∷ []

  -- the texts that are obsolete before
  abbrev Are : List (List ℕ) → State → Type 0
  Are obsolete state = AreObsolete is_primary (names_of (files_of (state.folder folder))) obsolete

  refused : (refusal : Option DiskRefusal) (reason : DiskRefusal) → refusal ≡ Some reason → Runs seen left_since front refusal a b → Runs seen left_since front (Some reason) a b
  refused refusal reason is run = subst (λ (r : Option DiskRefusal). Runs seen left_since front r a b) is run

  -- what is obsolete among the texts that were listed is so in the folder
  are_told : (texts obsolete : List (List ℕ)) → IsListed (seen a).told folder texts → AreObsolete is_primary texts obsolete → IfTold (seen a).told (Are obsolete)
  are_told texts obsolete listed are = told_map (seen a).told (λ s. IsListing (names_of (files_of (s.folder folder))) texts) (Are obsolete) listed
      (λ s is. record { names = are.names; directory = listed_directory (names_of (files_of (s.folder folder))) texts are.names is are.directory; all = are.all; ascend = are.ascend })

  -- whatever list of the obsolete texts is asked of
  any_told : (told : Option State) (R : List (List ℕ) → Type 0) → ((obsolete : List (List ℕ)) → R obsolete) → IfTold told (λ s. (obsolete : List (List ℕ)) → Are obsolete s → R obsolete)
  any_told None R any = tt
  any_told (Some s) R any = λ obsolete _. any obsolete

  one_told : (told : Option State) (R : List (List ℕ) → Type 0) (found : List (List ℕ)) → IfTold told (Are found) → R found → IfTold told (λ s. (obsolete : List (List ℕ)) → Are obsolete s → R obsolete)
  one_told None R found are holds = tt
  one_told (Some s) R found are holds = λ obsolete is. subst R (one_list is_primary (names_of (files_of (s.folder folder))) found obsolete are is) holds

  pub tidy_exact : (refusal : Option DiskRefusal) → Tidies seen left_since folder is_primary refusal a b → WithObsolete (seen a).told folder is_primary (λ obsolete. Runs seen left_since (tidy_calls folder obsolete) refusal a b)
  tidy_exact refusal (inl early) = any_told (seen a).told (λ obsolete. Runs seen left_since (tidy_calls folder obsolete) refusal a b)
      (λ obsolete. subst (λ (r : Option DiskRefusal). Runs seen left_since (tidy_calls folder obsolete) r a b) (sym early.1)
      (runs_stop seen left_since front (purge_calls folder obsolete) early.0 a b (refused refusal early.0 early.1 early.2)))
  tidy_exact refusal (inr all) = one_told (seen a).told (λ obsolete. Runs seen left_since (tidy_calls folder obsolete) refusal a b) all.1 (are_told all.0 all.1 all.2 all.3) all.5

  -- other refusals than a failure come before any change
  pub tidy_before : (refusal : Option DiskRefusal) → Tidies seen left_since folder is_primary refusal a b → (reason : DiskRefusal) → refusal ≡ Some reason → reason ≢ Failed → IfBothTold (seen a) (seen b) folder IsAsBefore
  tidy_before refusal (inl early) reason is other = quiet_before folder seen left_since front early.0 a b (λ temporary. refl) (refused refusal early.0 early.1 early.2)
  tidy_before refusal (inr all) reason is other = absurd (other (all.4 reason is))

  changes_of : (refusal : Option DiskRefusal) → Tidies seen left_since folder is_primary refusal a b → (obsolete : List (List ℕ)) → Runs seen left_since (tidy_calls folder obsolete) refusal a b → Changes seen left_since folder (map Remove obsolete) refusal a b
  changes_of refusal tidies obsolete run = changes_run seen left_since folder (tidy_calls folder obsolete) (map Remove obsolete) (makes_tidy folder obsolete) a b refusal now only earlier run (tidy_before refusal tidies)

  pub tidy_changes : (refusal : Option DiskRefusal) → Tidies seen left_since folder is_primary refusal a b → WithObsolete (seen a).told folder is_primary (λ obsolete. Changes seen left_since folder (map Remove obsolete) refusal a b)
  tidy_changes refusal tidies =
      told_map (seen a).told (λ s. (obsolete : List (List ℕ)) → Are obsolete s → Runs seen left_since (tidy_calls folder obsolete) refusal a b)
      (λ s. (obsolete : List (List ℕ)) → Are obsolete s → Changes seen left_since folder (map Remove obsolete) refusal a b)
      (tidy_exact refusal tidies) (λ s exact obsolete are. changes_of refusal tidies obsolete (exact obsolete are))

  pub tidy_keeps : (refusal : Option DiskRefusal) → Tidies seen left_since folder is_primary refusal a b → KeepsNormal seen left_since folder is_primary a b
  tidy_keeps refusal (inl early) =
      let run = refused refusal early.0 early.1 early.2 in
      let before = quiet_before folder seen left_since front early.0 a b (λ temporary. refl) run in
      keeps is_primary (λ _. ⊤) [] (keeps_none is_primary) seen left_since folder a b (Some early.0) (always (seen a).told) now earlier
      (changes_run seen left_since folder front [] (makes_none folder) a b (Some early.0) now only earlier run (λ reason is other. before))
  tidy_keeps refusal (inr all) = keeps is_primary (λ files. AreObsolete is_primary (names_of files) all.1) (map Remove all.1) (keeps_removed is_primary all.1) seen left_since folder a b refusal (are_told all.0 all.1 all.2 all.3) now earlier (changes_of refusal (inr all) all.1 all.5)

  -- ---- where all was done

  not_refused : (refusal : Option DiskRefusal) (reason : DiskRefusal) → refusal ≡ None → refusal ≡ Some reason → ⊥
  not_refused refusal reason none is = cc

  pub tidy_done : (refusal : Option DiskRefusal) → Tidies seen left_since folder is_primary refusal a b → refusal ≡ None → IfBothTold (seen a) (seen b) folder (IsTidied is_primary)
  tidy_done refusal (inl early) none = absurd (not_refused refusal early.0 none early.1)
  tidy_done refusal (inr all) none =
      all_stand seen left_since folder a b (map Remove all.1) refusal (λ before. AreObsolete is_primary (names_of (files_of before)) all.1) (IsTidied is_primary) none (changes_of refusal (inr all) all.1 all.5) (are_told all.0 all.1 all.2 all.3)
      (tidied is_primary all.1)

  pub tidy_stable : (refusal : Option DiskRefusal) → Tidies seen left_since folder is_primary refusal a b → refusal ≡ None → IfBothTold (seen a) (seen b) folder IsMadeStable
  tidy_stable refusal (inl early) none = absurd (not_refused refusal early.0 none early.1)
  tidy_stable refusal (inr all) none =
      let ends = tidy_ends folder all.1 in
      stable_run seen left_since folder a b ends.0 (map Remove all.1) refusal
      (subst (λ (l : List Call). Runs seen left_since l None a b) ends.1 (subst (λ (r : Option DiskRefusal). Runs seen left_since (tidy_calls folder all.1) r a b) none all.5))
      (changes_of refusal (inr all) all.1 all.5)

-- no other folder is changed
pub tidy_others : {D : Type 0} (seen : D → Seen) (left_since : D → Past) (folder : List ℕ) (is_primary : Bool) (a b : D)
    → ((name : List ℕ) (image : List File) → IfTold (seen a).told (λ s. IsImage (s.folder name) image → left_since a (seen a).moment name image))
    → ((since later : ℕ) (name : List ℕ) (image : List File) → since ≤ later → left_since a later name image → left_since a since name image)
    → (refusal : Option DiskRefusal) → Tidies seen left_since folder is_primary refusal a b → Keeps seen left_since (λ name. name ≢ folder) a b
tidy_others seen left_since folder is_primary a b now earlier refusal (inl early) =
    keeps_run seen left_since (λ name. name ≢ folder) (ListNames folder ∷ SyncDir folder ∷ []) (λ name differs temporary. refl) a b now earlier refusal early.2
tidy_others seen left_since folder is_primary a b now earlier refusal (inr all) =
    keeps_run seen left_since (λ name. name ≢ folder) (tidy_calls folder all.1) (λ name differs. tidy_alone folder name differs all.1) a b now earlier refusal all.5

-- and none at all where it is refused otherwise than by a failure
pub tidy_unmade : {D : Type 0} (seen : D → Seen) (left_since : D → Past) (folder : List ℕ) (is_primary : Bool) (a b : D)
    → ((name : List ℕ) (image : List File) → IfTold (seen a).told (λ s. IsImage (s.folder name) image → left_since a (seen a).moment name image))
    → ((since later : ℕ) (name : List ℕ) (image : List File) → since ≤ later → left_since a later name image → left_since a since name image)
    → (refusal : Option DiskRefusal) → Tidies seen left_since folder is_primary refusal a b → (reason : DiskRefusal) → refusal ≡ Some reason → reason ≢ Failed → Keeps seen left_since (λ _. ⊤) a b
tidy_unmade seen left_since folder is_primary a b now earlier refusal (inl early) reason is other =
    keeps_run seen left_since (λ _. ⊤) (ListNames folder ∷ SyncDir folder ∷ []) (λ name _ temporary. refl) a b now earlier refusal early.2
tidy_unmade seen left_since folder is_primary a b now earlier refusal (inr all) reason is other = absurd (other (all.4 reason is))
