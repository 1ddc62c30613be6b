-- What mounting the places of a disk keeps and gives.
use Rattle.std.proofs.Common.{◌≡◌, inl, inr, ℕ, Bool, Contains, List, [], ◌∷◌, Option, Some, None, sym, subst}
use Rattle.std.specs.Prelude.{⊤}
use Rattle.sw_disk.specs.Answers.{AreFolders}
use Rattle.sw_disk.specs.Calls.{ListFolders}
use Rattle.sw_disk.specs.Folder.{files_of}
use Rattle.sw_disk.specs.Runs.{IfTold, Past, Runs, Seen}
use Rattle.sw_hashpath.specs.Place.{PlaceModel, folder_of}
use Rattle.sw_hashdir.specs.declared.floor.Floor.{Floor}
use Rattle.sw_suffix.specs.Table.{floor_at}
use Rattle.sw_diskfile.specs.Changes.{Keeps}
use Rattle.sw_diskfile.specs.Normal.{HaveOneNormalForm, IsNormalForm}
use Rattle.sw_disk.proofs.Chains.{told_map}
use Rattle.sw_ring.specs.Cluster.{ClusterModel}
use Rattle.sw_message.specs.Message.{is_primary}
use Rattle.sw_objsrv.specs.Folder.{AreInOrder, IsInOrder}
use Rattle.sw_objsrv.specs.Mounting.{IsFolderOf, IsOther, MountCalls, Mounts, TidiesEach}
use Rattle.sw_objsrv.specs.declared.fault.MountFault.{MountFault}
use Rattle.sw_objsrv.proofs.Keeping.{IsDisk, keeps_fewer, keeps_more}
use Rattle.sw_objsrv.proofs.MountedFloors.{HaveFloors, floors_all, order_normal}
use Rattle.sw_objsrv.proofs.Tidying.{Carries, carries_each, carries_listing, carries_more, carries_refused, keeps_each, listing_keeps}
use Rattle.sw_objsrv.proofs.Told.{both_and}

module _ {D : Type 0} (seen : D → Seen) (left_since : D → Past) (cluster : ClusterModel) (device : ℕ) (tells : Bool) (laws : IsDisk seen left_since tells) where
  carried : (fault : Option MountFault) (a b : D) → MountCalls seen left_since cluster device fault a b → Carries seen left_since cluster device fault a b
  carried fault a b (inl refused) = subst (λ (f : Option MountFault). Carries seen left_since cluster device f a b) (sym refused.1) (carries_refused seen left_since cluster device tells laws refused.0 a b refused.2)
  carried fault a b (inr each) =
      carries_more seen left_since cluster device tells laws fault a each.2 b (carries_listing seen left_since cluster device tells laws a each.2 each.3) (carries_each seen left_since cluster device tells laws each.0 fault each.2 b each.4)

  -- the folders that are not among these
  kept_by : (These : List ℕ → Type 0) (listed : List (List ℕ)) (fault : Option MountFault) (a between b : D) → ((name : List ℕ) (place : PlaceModel) → These name → IsFolderOf cluster place name → Contains listed name → ⊥)
      → Runs seen left_since (ListFolders ∷ []) None a between → TidiesEach seen left_since cluster device listed fault between b → Keeps seen left_since These a b
  kept_by These listed fault a between b none run each =
      keeps_more seen left_since tells laws These a between b run.later (keeps_fewer seen left_since tells laws (λ _. ⊤) These a between (λ name these. tt) (listing_keeps seen left_since cluster device tells laws None a between run))
      (keeps_each seen left_since cluster device tells laws These listed fault between b none each)

  others : (fault : Option MountFault) (a b : D) → MountCalls seen left_since cluster device fault a b → Keeps seen left_since (IsOther cluster) a b
  others fault a b (inl refused) = keeps_fewer seen left_since tells laws (λ _. ⊤) (IsOther cluster) a b (λ name other. tt) (listing_keeps seen left_since cluster device tells laws (Some refused.0) a b refused.2)
  others fault a b (inr each) = kept_by (IsOther cluster) each.0 fault a each.2 b (λ name place other is has. other place is) each.3 each.4

  -- the places are in order once the folders that were listed are
  pub all_in_order : (listed : List (List ℕ)) (floors : List (PlaceModel × Floor)) (a between b : D) → IfTold (seen a).told (λ state. AreFolders state listed) → Runs seen left_since (ListFolders ∷ []) None a between
      → TidiesEach seen left_since cluster device listed None between b → HaveFloors cluster device listed floors (seen b).told → IfTold (seen b).told (AreInOrder cluster device floors)
  all_in_order listed floors a between b are run each have =
      floors_all cluster device seen left_since tells laws listed floors a b are have (kept_by (λ name. Contains listed name → ⊥) listed None a between b (λ name place other is has. other has) run each)

  pub mounts : (fault : Option MountFault) (floors : List (PlaceModel × Floor)) (a b : D) → MountCalls seen left_since cluster device fault a b → (fault ≡ None → IfTold (seen b).told (AreInOrder cluster device floors)) → Mounts seen left_since cluster device fault a b
  mounts fault floors a b calls in_order =
      let carries = carried fault a b calls in
      record {
        calls = calls;
        stands = λ place is. (carries.places place is).stands;
        leaves = λ some place is. (carries.places place is).leaves some;
        mounted = λ none place is.
            let primary = is_primary cluster device place in
            both_and (folder_of place) (seen a).told (seen b).told (λ before after. HaveOneNormalForm primary (files_of before) (files_of after)) (λ before after. IsNormalForm primary (files_of before) (files_of after) × (after.pending ≡ []))
            (IsInOrder primary (floor_at place floors)) (λ before after. order_normal primary (floor_at place floors) before after) (carries.places place is).stands
            (told_map (seen b).told (AreInOrder cluster device floors) (λ state. IsInOrder primary (floor_at place floors) (state.folder (folder_of place))) (in_order none) (λ state order. order place is));
        synced = λ place is. (carries.places place is).synced;
        others = others fault a b calls;
        failed = carries.failed;
        quiet = carries.quiet;
      }
