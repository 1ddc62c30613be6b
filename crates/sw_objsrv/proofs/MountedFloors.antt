-- The floors of places whose folders are in order.
use Rattle.std.proofs.Common.{◌≡◌, ◌≢◌, ◌⊎◌, inl, inr, ⊎_elim, ℕ, true≢false, Bool, Contains, List, [], ◌∷◌, ◌++◌, Option, Some, None, refl, sym, ◌∙◌, subst}
use Rattle.sw_disk.specs.Answers.{AreFolders, IsBusy, names_of}
use Rattle.sw_disk.specs.Folder.{Change, File, Folder, files_of}
use Rattle.sw_disk.specs.Runs.{IfTold, IsTelling, Past, Seen}
use Rattle.sw_disk.specs.State.{State}
use Rattle.sw_hashpath.specs.Place.{IsPlace, PlaceModel, folder_of}
use Rattle.sw_hashpath.specs.FileName.{file_name_text}
use Rattle.sw_hashpath.specs.declared.file_name.FileName.{FileName}
use Rattle.sw_hashdir.specs.Directory.{HasFloorAt, IsFloor}
use Rattle.sw_hashdir.specs.declared.floor.Floor.{Floor}
use Rattle.sw_hashdir.specs.declared.floor.FloorKind.{FloorKind}
use Rattle.sw_hashdir.specs.declared.floor.FloorKind.TheVariants as kind
use Rattle.sw_suffix.specs.Table.{floor_at}
use Rattle.sw_diskfile.specs.Changes.{IsAsBefore, IsMadeStable, Keeps}
use Rattle.sw_diskfile.specs.Names.{IsDirectoryOf}
use Rattle.sw_diskfile.specs.Normal.{HaveOneNormalForm, IsNormalForm, IsTidied}
use Rattle.sw_diskfile.proofs.Directories.{same_or_other}
use Rattle.sw_diskfile.proofs.Lists.{Contains-none}
use Rattle.sw_ring.specs.Cluster.{ClusterModel}
use Rattle.sw_message.specs.Message.{is_primary}
use Rattle.sw_objsrv.specs.Folder.{AreInOrder, IsInOrder}
use Rattle.sw_objsrv.specs.Mounting.{IsFolderOf}
use Rattle.sw_objsrv.proofs.InOrder.{order_kept, order_tidied}
use Rattle.sw_objsrv.proofs.Keeping.{IsDisk}
use Rattle.sw_objsrv.proofs.Purging.{in_order_normal}
use Rattle.sw_objsrv.proofs.Told.{Both, after_told, told_too}
use Rattle.std.proofs.lemmas.List.Elements.{Contains-append_left, Contains-push, Contains-push_cases}

-- ---- one folder

-- it is in order once it was tidied
pub tidied_told : (tells : Bool) (primary : Bool) (names : List FileName) (floor : Option Floor) (folder : List ℕ) (a b : Option State) → IsTelling tells a → IsTelling tells b → IsFloor names floor
    → IfTold a (λ before. IsDirectoryOf (before.folder folder) names) → Both folder a b (IsTidied primary) → Both folder a b IsMadeStable → IfTold b (λ after. IsInOrder primary floor (after.folder folder))
tidied_told tells primary names floor folder a None one two is_floor directory tidied stable = tt
tidied_told tells primary names floor folder None (Some y) one two is_floor directory tidied stable = absurd (true≢false (sym (told_too tells (Some y) None two one refl)))
tidied_told tells primary names floor folder (Some x) (Some y) one two is_floor directory tidied stable = order_tidied primary floor names (x.folder folder) (y.folder folder) directory is_floor tidied stable.0

-- it is its own normal form, and so that of each folder with one normal form
pub order_normal : (primary : Bool) (floor : Option Floor) (before after : Folder) → HaveOneNormalForm primary (files_of before) (files_of after) → IsInOrder primary floor after → IsNormalForm primary (files_of before) (files_of after) × (after.pending ≡ [])
order_normal primary floor before after one order = ((one (files_of after)).1 (in_order_normal primary floor after order), order.nothing_pending)

-- an empty one has no floor
empty_order : (primary : Bool) (folder : Folder) → files_of folder ≡ [] → folder.pending ≡ [] → IsInOrder primary None folder
empty_order primary folder none nothing = record {
  nothing_pending = nothing;
  names = [];
  directory = λ name. (
    λ has. absurd (Contains-none name has),
    λ there. absurd (Contains-none (file_name_text name) (subst (λ (files : List File). Contains (names_of files) (file_name_text name)) none there.1)),
  );
  none_obsolete = λ name obsolete. Contains-none name obsolete.0;
  floor_is = λ other has. floor_none other.stamp other.kind has;
}
  where
    floor_none : (stamp : ℕ) (k : FloorKind) → HasFloorAt [] stamp k → ⊥
    floor_none stamp kind.Durable has = Contains-none _ has.1
    floor_none stamp kind.Tombstone has = Contains-none _ has

busy_or_empty : (folder : Folder) → IsBusy folder ⊎ ((files_of folder ≡ []) × (folder.pending ≡ []))
busy_or_empty folder = either (files_of folder) folder.pending
  where
    either : (files : List File) (pending : List Change) → (((files ≡ []) × (pending ≡ [])) → ⊥) ⊎ ((files ≡ []) × (pending ≡ []))
    either [] [] = inr (refl, refl)
    either [] (change ∷ pending) = inl (λ both. let is = both.1 in cc)
    either (file ∷ files) pending = inl (λ both. let is = both.0 in cc)

-- ---- the folders of places

-- the folders of the places among these are in order, with the floors of a table, in which no other place has one
pub record HaveFloors (cluster : ClusterModel) (device : ℕ) (folders : List (List ℕ)) (floors : List (PlaceModel × Floor)) (told : Option State) : Type 0 where
  pub order : (place : PlaceModel) → IsPlace cluster.part_power place → Contains folders (folder_of place) → IfTold told (λ state. IsInOrder (is_primary cluster device place) (floor_at place floors) (state.folder (folder_of place)))
  pub none : (place : PlaceModel) → IsPlace cluster.part_power place → (Contains folders (folder_of place) → ⊥) → floor_at place floors ≡ None

module _ (cluster : ClusterModel) (device : ℕ) where
  pub floors_none : (told : Option State) → HaveFloors cluster device [] [] told
  floors_none told = record {
    order = λ place is has. absurd (Contains-none (folder_of place) has);
    none = λ place is other. refl;
  }

  module _ {D : Type 0} (seen : D → Seen) (left_since : D → Past) (tells : Bool) (laws : IsDisk seen left_since tells) (a b : D) where
    abbrev At : List ℕ → PlaceModel → Option Floor → State → Type 0
    At folder place floor state = IsInOrder (is_primary cluster device place) floor (state.folder folder)

    still : (folder : List ℕ) (place : PlaceModel) (floor : Option Floor) (These : List ℕ → Type 0) → These folder → Keeps seen left_since These a b → IfTold (seen a).told (At folder place floor) → IfTold (seen b).told (At folder place floor)
    still folder place floor These these kept order =
        after_told folder tells (seen a).told (seen b).told IsAsBefore (IsInOrder (is_primary cluster device place) floor) (IsInOrder (is_primary cluster device place) floor) (laws.telling a) (laws.telling b)
        (order_kept (is_primary cluster device place) floor) (kept.stands folder these) order

    -- one more
    pub floors_more : (folders : List (List ℕ)) (folder : List ℕ) (old new : List (PlaceModel × Floor)) → Keeps seen left_since (λ name. name ≢ folder) a b → HaveFloors cluster device folders old (seen a).told
        → ((place : PlaceModel) → IsFolderOf cluster place folder → IfTold (seen b).told (At folder place (floor_at place new)))
        → ((place : PlaceModel) → (IsFolderOf cluster place folder → ⊥) → floor_at place new ≡ floor_at place old)
        → HaveFloors cluster device (folders ++ folder ∷ []) new (seen b).told
    floors_more folders folder old new kept before here others = record {
      order = λ place is has. ⊎_elim
          (λ same. subst (λ (f : List ℕ). IfTold (seen b).told (At f place (floor_at place new))) (sym same.1) (here place (is, sym same.1)))
          (λ differ.
          let among = ⊎_elim (λ earlier. earlier) (λ is_here. absurd (differ.1 (sym is_here))) (Contains-push_cases folders folder (folder_of place) has) in
          let floor = others place (λ is_here. differ.1 (sym is_here.1)) in
          still (folder_of place) place (floor_at place new) (λ name. name ≢ folder) differ.1 kept
          (subst (λ (f : Option Floor). IfTold (seen a).told (At (folder_of place) place f)) (sym floor) (before.order place is among)))
          (same_or_other (folder_of place) folder);
      none = λ place is other.
          others place (λ is_here. other (subst (Contains (folders ++ folder ∷ [])) is_here.1 (Contains-push folders folder)))
          ∙ before.none place is (λ has. other (Contains-append_left folders (folder ∷ []) (folder_of place) has));
    }

  -- all of them, since the folders that were not listed are empty
  module _ {D : Type 0} (seen : D → Seen) (left_since : D → Past) (tells : Bool) (laws : IsDisk seen left_since tells) (listed : List (List ℕ)) (floors : List (PlaceModel × Floor)) where
    all_told : (a b : Option State) → IsTelling tells a → IsTelling tells b → IfTold a (λ state. AreFolders state listed) → HaveFloors cluster device listed floors b
        → ((name : List ℕ) → (Contains listed name → ⊥) → Both name a b IsAsBefore) → IfTold b (AreInOrder cluster device floors)
    all_told a None one two are have kept = tt
    all_told None (Some y) one two are have kept = absurd (true≢false (sym (told_too tells (Some y) None two one refl)))
    all_told (Some x) (Some y) one two are have kept = λ place is. ⊎_elim
        (λ busy. have.order place is ((are.busy (folder_of place)).1 busy))
        (λ empty.
        let unlisted : Contains listed (folder_of place) → ⊥ = λ has. (are.busy (folder_of place)).0 has empty in
        let same = kept (folder_of place) unlisted in
        subst (λ (floor : Option Floor). IsInOrder (is_primary cluster device place) floor (y.folder (folder_of place))) (sym (have.none place is unlisted))
        (empty_order (is_primary cluster device place) (y.folder (folder_of place)) (same.files ∙ empty.0) (same.pending empty.1)))
        (busy_or_empty (x.folder (folder_of place)))

    pub floors_all : (a b : D) → IfTold (seen a).told (λ state. AreFolders state listed) → HaveFloors cluster device listed floors (seen b).told → Keeps seen left_since (λ name. Contains listed name → ⊥) a b → IfTold (seen b).told (AreInOrder cluster device floors)
    floors_all a b are have kept = all_told (seen a).told (seen b).told (laws.telling a) (laws.telling b) are have kept.stands
