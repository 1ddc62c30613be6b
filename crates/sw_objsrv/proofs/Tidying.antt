-- What tidying the folders of places, one after the other, keeps.
use Rattle.std.proofs.Common.{◌≡◌, ◌≢◌, inl, inr, ⊎_elim, ℕ, ◌≤◌, Contains, List, [], ◌∷◌, ◌++◌, Option, Some, None, refl, sym, ◌∙◌, ap, subst, arith, Bool}
use Rattle.std.specs.Prelude.{⊤}
use Rattle.sw_words.specs.Counts.{one_more}
use Rattle.sw_disk.specs.Calls.{Call, ListFolders}
use Rattle.sw_disk.specs.Runs.{Past, Runs, Seen}
use Rattle.sw_disk.specs.declared.refusal.DiskRefusal.{DiskRefusal}
use Rattle.sw_disk.specs.declared.refusal.DiskRefusal.TheVariants as refusal
use Rattle.sw_hashpath.specs.Place.{IsPlace, PlaceModel, folder_of}
use Rattle.sw_diskfile.specs.Calls.{tidy_calls}
use Rattle.sw_diskfile.specs.Changes.{Keeps}
use Rattle.sw_diskfile.specs.Normal.{Tidies}
use Rattle.sw_diskfile.proofs.Directories.{same_or_other}
use Rattle.sw_diskfile.proofs.Lists.{Contains-first, Contains-later}
use Rattle.sw_diskfile.proofs.Outcomes.{keeps_run}
use Rattle.sw_diskfile.proofs.Tidied.{tidy_others}
use Rattle.sw_ring.specs.Cluster.{ClusterModel}
use Rattle.sw_message.specs.Message.{is_primary}
use Rattle.sw_objsrv.specs.Mounting.{IsFolderOf, TidiesEach, mount_fault}
use Rattle.sw_objsrv.specs.declared.fault.MountFault.{MountFault}
use Rattle.sw_objsrv.specs.declared.fault.MountFault.TheVariants.{Failed}
use Rattle.sw_objsrv.proofs.Keeping.{IsDisk, KeepsFolder, folder_kept, folder_more, folder_self, folder_tidied, keeps_fewer, keeps_more, keeps_self}
use Rattle.sw_hashpath.proofs.Folders.{one_place}

mount_failed : (reason : DiskRefusal) → mount_fault reason ≡ Failed → reason ≡ refusal.Failed
mount_failed refusal.Failed is = refl
mount_failed refusal.NoMemory is = absurd (cc)
mount_failed (refusal.Full need free) is = absurd (cc)

module _ {D : Type 0} (seen : D → Seen) (left_since : D → Past) (cluster : ClusterModel) (device : ℕ) where
  -- ---- more of them

  pub each_more : (front back : List (List ℕ)) (fault : Option MountFault) (a b c : D) → TidiesEach seen left_since cluster device front None a b → TidiesEach seen left_since cluster device back fault b c
      → TidiesEach seen left_since cluster device (front ++ back) fault a c
  each_more [] back fault a b c first second = subst (λ (d : D). TidiesEach seen left_since cluster device back fault d c) first.1 second
  each_more (folder ∷ front) back fault a b c (inl other) second = inl (other.0, each_more front back fault a b c other.1 second)
  each_more (folder ∷ front) back fault a b c (inr found) second = inr (
    found.0,
    found.1,
    ⊎_elim
        (λ done. inl (done.0, done.1, each_more front back fault done.0 b c done.2 second))
        (λ stopped. ⊎_elim (λ want. let is = want.0 in absurd (cc)) (λ refused. let is = refused.1 in absurd (cc)) stopped)
        found.2,
  )

  pub each_stopped : (front back : List (List ℕ)) (fault : MountFault) (a b : D) → TidiesEach seen left_since cluster device front (Some fault) a b → TidiesEach seen left_since cluster device (front ++ back) (Some fault) a b
  each_stopped [] back fault a b first = let is = first.0 in absurd (cc)
  each_stopped (folder ∷ front) back fault a b (inl other) = inl (other.0, each_stopped front back fault a b other.1)
  each_stopped (folder ∷ front) back fault a b (inr found) = inr (
    found.0,
    found.1,
    ⊎_elim
        (λ done. inl (done.0, done.1, each_stopped front back fault done.0 b done.2))
        (λ stopped. inr stopped)
        found.2,
  )

  -- ---- what one leaves

  pub run_of : (folder : List ℕ) (primary : Bool) (reason : Option DiskRefusal) (a b : D) → Tidies seen left_since folder primary reason a b → (calls : List Call) × Runs seen left_since calls reason a b
  run_of folder primary reason a b (inl early) = (_, early.2)
  run_of folder primary reason a b (inr all) = (tidy_calls folder all.1, all.5)

  -- the folders of places keep their normal form, and a failure counts one
  pub record Carries (fault : Option MountFault) (old new : D) : Type 0 where
    pub later : (seen old).moment ≤ (seen new).moment
    pub places : (place : PlaceModel) → IsPlace cluster.part_power place → KeepsFolder seen left_since (is_primary cluster device place) (folder_of place) old new
    pub failed : fault ≡ Some Failed → (seen new).faults ≡ one_more (seen old).faults
    pub quiet : fault ≢ Some Failed → (seen new).faults ≡ (seen old).faults

  module _ (tells : Bool) (laws : IsDisk seen left_since tells) where
    carries_self : (a : D) → Carries None a a
    carries_self a = record {
      later = omega arith;
      places = λ place is. folder_self seen left_since tells laws (is_primary cluster device place) (folder_of place) a;
      failed = λ is. absurd (cc);
      quiet = λ _. refl;
    }

    pub carries_more : (fault : Option MountFault) (a b c : D) → Carries None a b → Carries fault b c → Carries fault a c
    carries_more fault a b c first second =
        let quiet : (seen b).faults ≡ (seen a).faults = first.quiet (λ is. cc) in
        record {
          later = omega (arith, first.later, second.later);
          places = λ place is. folder_more seen left_since tells laws (is_primary cluster device place) (folder_of place) a b c first.later (first.places place is) (second.places place is);
          failed = λ is. second.failed is ∙ ap one_more quiet;
          quiet = λ is. second.quiet is ∙ quiet;
        }

    -- what calls leave that a refusal stopped
    carries_run : (calls : List Call) (reason : Option DiskRefusal) (fault : Option MountFault) (a b : D) → (fault ≡ Some Failed → reason ≡ Some refusal.Failed) → (reason ≡ Some refusal.Failed → fault ≡ Some Failed) → Runs seen left_since calls reason a b
        → ((place : PlaceModel) → IsPlace cluster.part_power place → KeepsFolder seen left_since (is_primary cluster device place) (folder_of place) a b) → Carries fault a b
    carries_run calls reason fault a b there back run places = record {
      later = run.later;
      places = places;
      failed = λ is. run.failed (there is);
      quiet = λ is. run.quiet (λ failed. is (back failed));
    }

    others_kept : (folder : List ℕ) (primary : Bool) (reason : Option DiskRefusal) (a b : D) → Tidies seen left_since folder primary reason a b → Keeps seen left_since (λ name. name ≢ folder) a b
    others_kept folder primary reason a b tidies = tidy_others seen left_since folder primary a b (laws.now a) (λ since later name image. laws.earlier a since later name image) reason tidies

    -- once the folder of a place was tidied
    places_kept : (place : PlaceModel) (folder : List ℕ) (reason : Option DiskRefusal) (a b : D) → IsFolderOf cluster place folder → Tidies seen left_since folder (is_primary cluster device place) reason a b
        → (other : PlaceModel) → IsPlace cluster.part_power other → KeepsFolder seen left_since (is_primary cluster device other) (folder_of other) a b
    places_kept place folder reason a b is tidies other is_other = ⊎_elim
        (λ same.
        let one : place ≡ other = one_place cluster.part_power place other is.0 is_other (sym is.1 ∙ sym same.1) in
        subst (λ (p : PlaceModel). KeepsFolder seen left_since (is_primary cluster device p) (folder_of p) a b) one
        (subst (λ (f : List ℕ). KeepsFolder seen left_since (is_primary cluster device place) f a b) is.1
        (folder_tidied seen left_since tells laws (is_primary cluster device place) folder a b reason tidies)))
        (λ differ. folder_kept seen left_since tells laws (is_primary cluster device other) (folder_of other) (λ name. name ≢ folder) a b differ.1 (others_kept folder (is_primary cluster device place) reason a b tidies))
        (same_or_other (folder_of other) folder)

    carries_tidied : (place : PlaceModel) (folder : List ℕ) (reason : Option DiskRefusal) (fault : Option MountFault) (a b : D) → (fault ≡ Some Failed → reason ≡ Some refusal.Failed) → (reason ≡ Some refusal.Failed → fault ≡ Some Failed)
        → IsFolderOf cluster place folder → Tidies seen left_since folder (is_primary cluster device place) reason a b → Carries fault a b
    carries_tidied place folder reason fault a b there back is tidies =
        let run = run_of folder (is_primary cluster device place) reason a b tidies in
        carries_run run.0 reason fault a b there back run.1 (places_kept place folder reason a b is tidies)

    pub carries_each : (folders : List (List ℕ)) (fault : Option MountFault) (a b : D) → TidiesEach seen left_since cluster device folders fault a b → Carries fault a b
    carries_each [] fault a b none = subst (λ (d : D). Carries fault a d) (sym none.1) (subst (λ (f : Option MountFault). Carries f a a) (sym none.0) (carries_self a))
    carries_each (folder ∷ folders) fault a b (inl other) = carries_each folders fault a b other.1
    carries_each (folder ∷ folders) fault a b (inr found) = ⊎_elim
        (λ done. carries_more fault a done.0 b
        (carries_tidied found.0 folder None None a done.0 (λ is. absurd (cc)) (λ is. absurd (cc)) found.1 done.1)
        (carries_each folders fault done.0 b done.2))
        (λ stopped. ⊎_elim
        (λ want. carries_tidied found.0 folder None fault a b (λ is. absurd (let want_is = want.0 in cc)) (λ is. absurd (cc)) found.1 want.1)
        (λ refused. carries_tidied found.0 folder (Some refused.0) fault a b
        (λ is. ap (λ (r : DiskRefusal). Some r) (mount_failed refused.0 (let reason_is = refused.1 in cc)))
        (λ is. refused.1 ∙ ap (λ (r : DiskRefusal). Some (mount_fault r)) (let reason_is : refused.0 ≡ refusal.Failed = cc in reason_is))
        found.1 refused.2)
        stopped)
        found.2

    -- ---- the folders that are not among them

    pub keeps_each : (These : List ℕ → Type 0) (folders : List (List ℕ)) (fault : Option MountFault) (a b : D) → ((name : List ℕ) (place : PlaceModel) → These name → IsFolderOf cluster place name → Contains folders name → ⊥)
        → TidiesEach seen left_since cluster device folders fault a b → Keeps seen left_since These a b
    keeps_each These [] fault a b none each = subst (λ (d : D). Keeps seen left_since These a d) (sym each.1) (keeps_self seen left_since tells laws These a)
    keeps_each These (folder ∷ folders) fault a b none (inl other) = keeps_each These folders fault a b (λ name place these is has. none name place these is (Contains-later folder folders name has)) other.1
    keeps_each These (folder ∷ folders) fault a b none (inr found) =
        let primary = is_primary cluster device found.0 in
        let here = λ (name : List ℕ) (these : These name) (same : name ≡ folder). none name found.0 these (subst (IsFolderOf cluster found.0) (sym same) found.1) (subst (Contains (folder ∷ folders)) (sym same) (Contains-first folder folders)) in
        let kept = λ (reason : Option DiskRefusal) (c : D) (tidies : Tidies seen left_since folder primary reason a c). keeps_fewer seen left_since tells laws (λ name. name ≢ folder) These a c here (others_kept folder primary reason a c tidies) in
        ⊎_elim
        (λ done. keeps_more seen left_since tells laws These a done.0 b (run_of folder primary None a done.0 done.1).1.later (kept None done.0 done.1)
        (keeps_each These folders fault done.0 b (λ name place these is has. none name place these is (Contains-later folder folders name has)) done.2))
        (λ stopped. ⊎_elim (λ want. kept None b want.1) (λ refused. kept (Some refused.0) b refused.2) stopped)
        found.2

    -- ---- the listing of folders

    pub listing_keeps : (reason : Option DiskRefusal) (a b : D) → Runs seen left_since (ListFolders ∷ []) reason a b → Keeps seen left_since (λ _. ⊤) a b
    listing_keeps reason a b run = keeps_run seen left_since (λ _. ⊤) (ListFolders ∷ []) (λ name _ temporary. refl) a b (laws.now a) (λ since later name image. laws.earlier a since later name image) reason run

    listing_places : (reason : Option DiskRefusal) (a b : D) → Runs seen left_since (ListFolders ∷ []) reason a b → (place : PlaceModel) → IsPlace cluster.part_power place → KeepsFolder seen left_since (is_primary cluster device place) (folder_of place) a b
    listing_places reason a b run = λ place is. folder_kept seen left_since tells laws (is_primary cluster device place) (folder_of place) (λ _. ⊤) a b tt (listing_keeps reason a b run)

    pub carries_listing : (a b : D) → Runs seen left_since (ListFolders ∷ []) None a b → Carries None a b
    carries_listing a b run = carries_run (ListFolders ∷ []) None None a b (λ is. absurd (cc)) (λ is. absurd (cc)) run (listing_places None a b run)

    pub carries_refused : (reason : DiskRefusal) (a b : D) → Runs seen left_since (ListFolders ∷ []) (Some reason) a b → Carries (Some (mount_fault reason)) a b
    carries_refused reason a b run = carries_run (ListFolders ∷ []) (Some reason) (Some (mount_fault reason)) a b
        (λ is. ap (λ (r : DiskRefusal). Some r) (mount_failed reason (cc)))
        (λ is. ap (λ (r : DiskRefusal). Some (mount_fault r)) (let reason_is : reason ≡ refusal.Failed = cc in reason_is))
        run (listing_places (Some reason) a b run)
