-- Folders of places that are in order, and that stay so.
use Rattle.std.proofs.Common.{ℕ, Bool, List, [], Option, sym, subst, ◌≡◌, ◌≢◌, inl, ⊎_elim, true, false, ◌∷◌, Some, None, Global, String, refl, ap, true≢false}
use Rattle.sw_disk.specs.Answers.{names_of}
use Rattle.sw_disk.specs.Folder.{File, Folder, files_of}
use Rattle.sw_disk.specs.State.{State}
use Rattle.sw_hashpath.specs.Place.{PlaceModel, folder_of, IsPlace}
use Rattle.sw_hashdir.specs.Directory.{IsDirectory, IsFloor}
use Rattle.sw_hashdir.specs.declared.floor.Floor.{Floor}
use Rattle.sw_diskfile.specs.Changes.{AreSynced, IsAsBefore, IsSettled, IfBothTold, IsMadeStable, Keeps}
use Rattle.sw_diskfile.proofs.Changed.{image_stable}
use Rattle.sw_diskfile.proofs.Synced.{survive_exactly}
use Rattle.sw_suffix.specs.Table.{floor_at}
use Rattle.sw_ring.specs.Cluster.{ClusterModel}
use Rattle.sw_message.specs.Message.{is_primary}
use Rattle.sw_objsrv.specs.Folder.{AreInOrder, HaveSameFloors, IsInOrder, StaysInOrder, HaveSameOtherFloors}
use Rattle.std.specs.Prelude.{⊤}
use Rattle.sw_disk.specs.Runs.{IfTold, IsTelling, Seen, Past}
use Rattle.sw_disk.proofs.Chains.{told_map}
use Rattle.sw_hashpath.specs.declared.file_name.FileName.{FileName}
use Rattle.sw_hashpath.specs.declared.file_name.FileName.TheVariants.{Data}
use Rattle.sw_hashdir.specs.Obsolete.{IsObsolete, IsWithout}
use Rattle.sw_diskfile.specs.Names.{DropsName, IsDirectoryOf}
use Rattle.sw_diskfile.specs.Normal.{IsTidied}
use Rattle.sw_diskfile.proofs.Kept.{always}
use Rattle.sw_diskfile.proofs.Normal.{none_left}
use Rattle.sw_diskfile.proofs.Obsoletes.{obsolete_same, one_directory}
use Rattle.sw_diskfile.proofs.Outcomes.{both_map}
use Rattle.sw_objsrv.specs.Changing.{LeavesOrder}
use Rattle.sw_hashpath.proofs.Folders.{one_place}
use Rattle.sw_objsrv.proofs.Told.{Both, both_each, both_told, has_told, told_after, told_both, told_still}
use Rattle.sw_diskfile.proofs.Directories.{same_or_other}
use Rattle.sw_hashdir.proofs.Laws.{twin_more}

-- ---- one folder

-- a folder that is as before
pub order_kept : (is_primary : Bool) (floor : Option Floor) (before after : Folder) → IsAsBefore before after → IsInOrder is_primary floor before → IsInOrder is_primary floor after
order_kept is_primary floor before after same order = record {
  nothing_pending = same.pending order.nothing_pending;
  names = order.names;
  directory = subst (λ (files : List File). IsDirectory (names_of files) order.names) (sym same.files) order.directory;
  none_obsolete = order.none_obsolete;
  floor_is = order.floor_is;
}

-- one that was tidied, where nothing is pending
pub order_tidied : (is_primary : Bool) (floor : Option Floor) (names : List FileName) (before after : Folder) → IsDirectoryOf before names → IsFloor names floor → IsTidied is_primary before after → after.pending ≡ [] → IsInOrder is_primary floor after
order_tidied is_primary floor names before after directory is_floor tidied none =
    let left = none_left is_primary tidied.obsolete (files_of before) tidied.are in
    let later = subst (λ (files : List File). IsDirectory (names_of files) left.names) (sym tidied.removed) left.directory in
    record {
      nothing_pending = none;
      names = left.names;
      directory = later;
      none_obsolete = λ name. tidied.none left.names name later;
      floor_is = tidied.floor names left.names floor directory later is_floor;
    }

-- a crash leaves it as it is
pub order_settled : (is_primary : Bool) (floor : Option Floor) (folder : Folder) → IsInOrder is_primary floor folder → AreSynced (files_of folder) → IsSettled folder
order_settled is_primary floor folder order synced = λ image left. survive_exactly (files_of folder) image synced (image_stable [] folder image order.nothing_pending left)

-- ---- what a purge leaves of a folder in which nothing was pending

module _ {D : Type 0} (seen : D → Seen) (folder : List ℕ) (a b : D) where
  pending_itself : (told : Option State) → IfTold told (λ s. (s.folder folder).pending ≡ []) → IfTold told (λ s. IfTold told (λ t. (t.folder folder).pending ≡ []))
  pending_itself None none = tt
  pending_itself (Some s) none = none

  none_pending : (obsolete : List (String Global)) → IfTold (seen a).told (λ s. (s.folder folder).pending ≡ []) → (obsolete ≢ [] → IfBothTold (seen a) (seen b) folder IsMadeStable) → (obsolete ≡ [] → b ≡ a)
      → IfBothTold (seen a) (seen b) folder (λ before after. after.pending ≡ [])
  none_pending [] none stable nothing =
      subst (λ (o : Option State). IfTold (seen a).told (λ s. IfTold o (λ t. (t.folder folder).pending ≡ []))) (ap (λ (d : D). (seen d).told) (sym (nothing refl))) (pending_itself (seen a).told none)
  none_pending (name ∷ names) none stable nothing =
      both_map (seen a) (seen b) folder (λ _. ⊤) IsMadeStable (λ before after. after.pending ≡ []) (λ before after _ is. is.0) (always (seen a).told) (stable (λ is. cc))

  pub order_purged : (tells : Bool) → IsTelling tells (seen a).told → IsTelling tells (seen b).told → (is_primary : Bool) (obsolete : List (String Global)) (names : List FileName) (floor : Option Floor)
      → IfTold (seen a).told (λ s. IsDirectoryOf (s.folder folder) names) → IfTold (seen a).told (λ s. (s.folder folder).pending ≡ []) → IfBothTold (seen a) (seen b) folder (IsTidied is_primary)
      → (obsolete ≢ [] → IfBothTold (seen a) (seen b) folder IsMadeStable) → (obsolete ≡ [] → b ≡ a) → IsFloor names floor → IfTold (seen b).told (λ s. IsInOrder is_primary floor (s.folder folder))
  order_purged tells first second is_primary obsolete names floor directory none tidied stable nothing is_floor =
      told_after tells (seen a).told (seen b).told first second
      (λ s t. IsDirectoryOf (s.folder folder) names × IsTidied is_primary (s.folder folder) (t.folder folder) × ((t.folder folder).pending ≡ []))
      (λ t. IsInOrder is_primary floor (t.folder folder))
      (both_told (seen a).told (seen b).told (λ s. IsDirectoryOf (s.folder folder) names) (λ s t. IsTidied is_primary (s.folder folder) (t.folder folder)) (λ s t. (t.folder folder).pending ≡ []) directory tidied (none_pending obsolete none stable nothing))
      (λ s t is. order_tidied is_primary floor names (s.folder folder) (t.folder folder) is.0 is_floor is.1 is.2)

-- ---- once a file was removed at a handoff

none_obsolete_left : (gone : FileName) (names rest : List FileName) → IsWithout gone names rest → ((name : FileName) → IsObsolete false names name → ⊥) → (name : FileName) → IsObsolete false rest name → ⊥
none_obsolete_left gone names rest without none name is = none name (
  ((without name).0 is.0).0,
  ⊎_elim (λ twin. inl (twin_more names rest (λ stamp index has. ((without (Data stamp index true)).0 has).0) name twin)) (λ below. absurd (true≢false (sym below.0))) is.1,
)

module _ {D : Type 0} (seen : D → Seen) (folder : List ℕ) (names : List FileName) (tells : Bool) where
  pub order_left : (a b : D) → IsTelling tells (seen a).told → IsTelling tells (seen b).told → (gone : FileName) (rest : List FileName) (floor : Option Floor) → IsWithout gone names rest → IsFloor rest floor
      → IfTold (seen a).told (λ s. IsDirectoryOf (s.folder folder) names) → IfBothTold (seen a) (seen b) folder (DropsName gone) → IfBothTold (seen a) (seen b) folder IsMadeStable → LeavesOrder folder names floor (seen a).told (seen b).told
  order_left a b first second gone rest floor without is_floor directory drops stable none =
      let Before = λ (s : State). IsDirectoryOf (s.folder folder) names × ((name : FileName) → IsObsolete false names name → ⊥) in
      told_after tells (seen a).told (seen b).told first second
      (λ s t. Before s × DropsName gone (s.folder folder) (t.folder folder) × IsMadeStable (s.folder folder) (t.folder folder)) (λ t. IsInOrder false floor (t.folder folder))
      (both_told (seen a).told (seen b).told Before (λ s t. DropsName gone (s.folder folder) (t.folder folder)) (λ s t. IsMadeStable (s.folder folder) (t.folder folder))
      (told_both (seen a).told (λ s. IsDirectoryOf (s.folder folder) names) (λ s. (name : FileName) → IsObsolete false names name → ⊥) directory none) drops stable)
      (λ s t is. record {
        nothing_pending = is.2.0;
        names = rest;
        directory = is.1 names rest is.0.0 without;
        none_obsolete = none_obsolete_left gone names rest without is.0.1;
        floor_is = is_floor;
      })

  -- from before the look on
  pub order_removed : (a b c : D) → IsTelling tells (seen a).told → IsTelling tells (seen b).told → (floor later : Option Floor) → IfTold (seen a).told (λ s. IsDirectoryOf (s.folder folder) names)
      → LeavesOrder folder names later (seen b).told (seen c).told → StaysInOrder false folder floor later (seen a).told (seen c).told
  order_removed a b c first second floor later directory leaves order =
      leaves (told_still tells (seen a).told (seen b).told first second ((name : FileName) → IsObsolete false names name → ⊥)
      (told_map (seen a).told (λ s. IsDirectoryOf (s.folder folder) names × IsInOrder false floor (s.folder folder)) (λ s. (name : FileName) → IsObsolete false names name → ⊥)
      (told_both (seen a).told (λ s. IsDirectoryOf (s.folder folder) names) (λ s. IsInOrder false floor (s.folder folder)) directory order)
      (λ s is name obsolete. is.1.none_obsolete name (obsolete_same names is.1.names (one_directory (names_of (files_of (s.folder folder))) names is.1.names is.0 is.1.directory) false name obsolete))))

-- ---- the folders of all places

module _ (cluster : ClusterModel) (device : ℕ) (floors later : List (PlaceModel × Floor)) where
  abbrev pub StayInOrder : (old new : Option State) → Type 0
  StayInOrder old new = IfTold old (AreInOrder cluster device floors) → IfTold new (AreInOrder cluster device later)

  -- one that is as before, with the same floor
  place_kept : (place : PlaceModel) (before after : State) → floor_at place later ≡ floor_at place floors → IsAsBefore (before.folder (folder_of place)) (after.folder (folder_of place))
      → IsInOrder (is_primary cluster device place) (floor_at place floors) (before.folder (folder_of place)) → IsInOrder (is_primary cluster device place) (floor_at place later) (after.folder (folder_of place))
  place_kept place before after same kept order =
      let primary = is_primary cluster device place in
      subst (λ (floor : Option Floor). IsInOrder primary floor (after.folder (folder_of place))) (sym same)
      (order_kept primary (floor_at place floors) (before.folder (folder_of place)) (after.folder (folder_of place)) kept order)

  -- where no folder was changed
  pub orders_kept : (tells : Bool) (old new : Option State) → IsTelling tells old → IsTelling tells new → HaveSameFloors later floors → ((folder : List ℕ) → Both folder old new IsAsBefore) → StayInOrder old new
  orders_kept tells old new telling now same kept order =
      told_after tells old new telling now (λ before after. AreInOrder cluster device floors before × ((name : List ℕ) → IsAsBefore (before.folder name) (after.folder name))) (AreInOrder cluster device later)
      (has_told old new (AreInOrder cluster device floors) (λ before after. (name : List ℕ) → IsAsBefore (before.folder name) (after.folder name)) order
      (both_each old new (λ (name : List ℕ) before after. IsAsBefore (before.folder name) (after.folder name)) kept))
      (λ before after both place is_place. place_kept place before after (same place) (both.1 (folder_of place)) (both.0 place is_place))

  -- where only the folder of one place was
  pub others_kept : (place : PlaceModel) → IsPlace cluster.part_power place → HaveSameOtherFloors place later floors → (tells : Bool) (old new : Option State) → IsTelling tells old → IsTelling tells new
      → StaysInOrder (is_primary cluster device place) (folder_of place) (floor_at place floors) (floor_at place later) old new
      → ((folder : List ℕ) → folder ≢ folder_of place → Both folder old new IsAsBefore) → StayInOrder old new
  others_kept place is_place others tells None new telling now stays kept order =
      told_after tells None new telling now (λ before after. AreInOrder cluster device later after) (AreInOrder cluster device later) tt (λ before after orders. orders)
  others_kept place is_place others tells (Some before) None telling now stays kept order = tt
  others_kept place is_place others tells (Some before) (Some after) telling now stays kept order = λ other is_other. ⊎_elim
      (λ same.
      subst (λ (here : PlaceModel). IsInOrder (is_primary cluster device here) (floor_at here later) (after.folder (folder_of here)))
      (one_place cluster.part_power place other is_place is_other (sym same.1)) (stays (order place is_place)))
      (λ apart. place_kept other before after (others other (λ same. apart.1 (ap folder_of same))) (kept (folder_of other) apart.1) (order other is_other))
      (same_or_other (folder_of other) (folder_of place))

-- after calls that leave all folders as they were
module _ {D : Type 0} (seen : D → Seen) (left_since : D → Past) (tells : Bool) (telling : (disk : D) → IsTelling tells (seen disk).told) (cluster : ClusterModel) (device : ℕ)
    (floors later : List (PlaceModel × Floor)) (old new : D) where
  pub orders_stay : HaveSameFloors later floors → Keeps seen left_since (λ _. ⊤) old new → StayInOrder cluster device floors later (seen old).told (seen new).told
  orders_stay same keeps = orders_kept cluster device floors later tells (seen old).told (seen new).told (telling old) (telling new) same (λ folder. keeps.stands folder tt)
