-- What a disk can do: how many bytes are free of it, what a mount makes of it, and what it may hold.
use Rattle.std.proofs.Common.{◌≡◌, ◌⊎◌, inl, inr, ℕ, ◌-◌, Contains, List, refl, sym, subst, sum_by}
use Rattle.std.specs.List.{slice_index_or}
use Rattle.sw_disk.specs.Folder.{File}
use Rattle.sw_hashpath.specs.Place.{IsPlace, PlaceModel, folder_of}
use Rattle.sw_hashpath.proofs.Folders.{one_place}
use Rattle.sw_diskfile.specs.Normal.{IsNormalForm}
use Rattle.sw_diskfile.proofs.Lists.{IsBefore, IsBefore-never}
use Rattle.sw_ring.specs.Cluster.{ClusterModel}
use Rattle.sw_message.specs.Message.{is_primary}
use Rattle.sw_message.specs.Step.{Folders}
use Rattle.sw_diskfile.proofs.NormalForms.{normal_form}
use Rattle.sw_law_scene.specs.Devices.{IsFree, size_of}
use Rattle.sw_law_scene.specs.Disks.{AreOfPlaces, Disk, IsFoundOn, IsLeftOf, IsMounted, IsOfNoPlace, IsSide, Sure, Undecided}
use Rattle.sw_law_possible.proofs.Orders.{ascending_texts}
use Rattle.sw_law_possible.proofs.Places.{all_folders, place_or_none}

-- ---- room

-- so many bytes are free of a device whose files are in the folders of places
pub free_of : (cluster : ClusterModel) (capacity : ℕ) (folders : Folders) → AreOfPlaces cluster folders → (room : ℕ) × IsFree capacity folders room
free_of cluster capacity folders of_places =
    let all = all_folders cluster.part_power in
    let names = ascending_texts all.0 in (
      capacity - sum_by (λ name. size_of (folders name)) names.0,
      record {
        names = names.0;
        distinct = λ i j d less within same. IsBefore-never (slice_index_or names.0 j d) (subst (λ text. IsBefore text (slice_index_or names.0 j d)) same (names.1.ascend i j d less within));
        others = λ name not. of_places name (λ place right is. not ((names.1.same name).1 (subst (Contains all.0) (sym is) (all.1 place right))));
        room_is = refl;
      },
    )

-- ---- mounts

module _ (cluster : ClusterModel) (device : ℕ) (before : Folders) where
  -- a folder of a place is in normal form, and any other as it was
  abbrev mounted_by : (name : List ℕ) → ((place : PlaceModel) × IsPlace cluster.part_power place × (folder_of place ≡ name)) ⊎ IsOfNoPlace cluster name → List File
  mounted_by name (inl of) = (normal_form (is_primary cluster device of.0) (before name)).0
  mounted_by name (inr none) = before name

  normal_by : (place : PlaceModel) → IsPlace cluster.part_power place → (which : ((other : PlaceModel) × IsPlace cluster.part_power other × (folder_of other ≡ folder_of place)) ⊎ IsOfNoPlace cluster (folder_of place))
      → IsNormalForm (is_primary cluster device place) (before (folder_of place)) (mounted_by (folder_of place) which)
  normal_by place right (inl of) =
      let same = one_place cluster.part_power of.0 place of.1 right of.2 in
      subst (λ (p : PlaceModel). IsNormalForm (is_primary cluster device p) (before (folder_of place)) (normal_form (is_primary cluster device of.0) (before (folder_of place))).0) same
      (normal_form (is_primary cluster device of.0) (before (folder_of place))).1
  normal_by place right (inr none) = absurd (none place right refl)

  other_by : (name : List ℕ) → IsOfNoPlace cluster name → (which : ((place : PlaceModel) × IsPlace cluster.part_power place × (folder_of place ≡ name)) ⊎ IsOfNoPlace cluster name) → mounted_by name which ≡ before name
  other_by name none (inl of) = absurd (none of.0 of.1 (sym of.2))
  other_by name none (inr also) = refl

  -- each device mounts its disk
  pub mounted : (after : Folders) × IsMounted cluster device before after
  mounted = (
    λ name. mounted_by name (place_or_none cluster name),
    record { normal = λ place right. normal_by place right (place_or_none cluster (folder_of place)); others = λ name none. other_by name none (place_or_none cluster name) },
  )

-- ---- what it may hold

-- a disk holds some folders
pub side_of : (disk : Disk) → (side : Folders) × IsSide disk side
side_of (Sure folders) = (folders, refl)
side_of (Undecided before after) = (before, inl refl)

-- and a device that is up works on some
pub found_of : (cluster : ClusterModel) (device : ℕ) (disk : Disk) → (found : Folders) × IsFoundOn cluster device disk found
found_of cluster device (Sure folders) = (folders, refl)
found_of cluster device (Undecided before after) = let is = mounted cluster device before in (is.0, inl is.1)

-- what it holds a crash may leave
pub left_of : (cluster : ClusterModel) (device : ℕ) (These : Folders → Type 0) (image : Folders) → These image → IsLeftOf cluster device These image
left_of cluster device These image these = record {
  normal = λ place right. (image, these, λ normal. ((λ is. is), (λ is. is)));
  files = λ place file right has. (image, these, has);
  others = λ name none. (image, these, refl);
}
