-- What always holds of the folders of a node's places, once it is mounted.
use Rattle.std.specs.Prelude.{◌≡◌, ◌≢◌, ℕ, Bool, List, [], Option}
use Rattle.sw_disk.specs.Folder.{Folder}
use Rattle.sw_disk.specs.Runs.{IfTold}
use Rattle.sw_disk.specs.State.{State}
use Rattle.sw_hashpath.specs.Place.{IsPlace, PlaceModel, folder_of}
use Rattle.sw_hashpath.specs.declared.file_name.FileName.{FileName}
use Rattle.sw_hashdir.specs.Directory.{IsFloor}
use Rattle.sw_hashdir.specs.Obsolete.{IsObsolete}
use Rattle.sw_hashdir.specs.declared.floor.Floor.{Floor}
use Rattle.sw_suffix.specs.Table.{floor_at}
use Rattle.sw_diskfile.specs.Names.{IsDirectoryOf}
use Rattle.sw_ring.specs.Cluster.{ClusterModel}
use Rattle.sw_message.specs.Message.{is_primary}

-- no change of names is pending, nothing is obsolete, and this is the floor
pub record IsInOrder (primary : Bool) (floor : Option Floor) (folder : Folder) : Type 0 where
  pub nothing_pending : folder.pending ≡ []
  pub names : List FileName
  pub directory : IsDirectoryOf folder names
  pub none_obsolete : (name : FileName) → IsObsolete primary names name → ⊥
  pub floor_is : IsFloor names floor

-- the folder of each place is in order, and the floors are those of a table
abbrev pub AreInOrder : ClusterModel → ℕ → List (PlaceModel × Floor) → State → Type 0
AreInOrder cluster device floors state =
    (place : PlaceModel) → IsPlace cluster.part_power place → IsInOrder (is_primary cluster device place) (floor_at place floors) (state.folder (folder_of place))

-- each place has the same floor
abbrev pub HaveSameFloors : (floors others : List (PlaceModel × Floor)) → Type 0
HaveSameFloors floors others = (place : PlaceModel) → floor_at place floors ≡ floor_at place others

-- the folder stays in order, with this floor and then that one
abbrev pub StaysInOrder : Bool → List ℕ → (floor later : Option Floor) → (old new : Option State) → Type 0
StaysInOrder primary folder floor later old new =
    IfTold old (λ before. IsInOrder primary floor (before.folder folder)) → IfTold new (λ after. IsInOrder primary later (after.folder folder))

-- each other place has the same floor
abbrev pub HaveSameOtherFloors : PlaceModel → (floors others : List (PlaceModel × Floor)) → Type 0
HaveSameOtherFloors place floors others = (other : PlaceModel) → other ≢ place → floor_at other floors ≡ floor_at other others
