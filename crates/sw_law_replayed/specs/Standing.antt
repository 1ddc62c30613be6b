-- What a node's disk holds after the history of its device.
use Rattle.std.specs.Prelude.{◌≡◌, ℕ, Bool, true, false, List}
use Rattle.sw_disk.specs.Runs.{IfTold, Seen}
use Rattle.sw_hashpath.specs.Place.{IsPlace, PlaceModel, folder_of}
use Rattle.sw_diskfile.specs.Normal.{HaveOneNormalForm}
use Rattle.sw_ring.specs.Cluster.{ClusterModel}
use Rattle.sw_message.specs.Message.{is_primary}
use Rattle.sw_message.specs.Step.{Folders}
use Rattle.sw_objsrv.specs.Handling.{folders_of}
use Rattle.sw_objsrv.specs.Node.{NodeModel}
use Rattle.sw_law_scene.specs.Devices.{capacity_of}
use Rattle.sw_law_scene.specs.Disks.{IsOfNoPlace, IsSide, Sure, Undecided}
use Rattle.sw_view.specs.History.{Replays}
use Rattle.sw_view.specs.declared.event.Event.{Event}

-- In the folder of each place these files and those of a side have one normal form, and in any other folder they are the same.
pub record IsLike (cluster : ClusterModel) (device : ℕ) (side folders : Folders) : Type 0 where
  pub normal : (place : PlaceModel) → IsPlace cluster.part_power place → HaveOneNormalForm (is_primary cluster device place) (side (folder_of place)) (folders (folder_of place))
  pub others : (name : List ℕ) → IsOfNoPlace cluster name → folders name ≡ side name

-- The folders are what the history replays to; while a mount is due they are like one of the sides of that.
abbrev pub StandsFor : ClusterModel → (device : ℕ) → List Event → (is_due : Bool) → Folders → Type 0
StandsFor cluster device events false folders = Replays cluster device events (Sure folders)
StandsFor cluster device events true folders =
    (before after side : Folders) × Replays cluster device events (Undecided before after) × IsSide (Undecided before after) side × IsLike cluster device side folders

-- What the disk of a node holds stands for the history, and it has the capacity of the device, where it tells.
pub record IsReplayed {D : Type 0} (cluster : ClusterModel) (seen : D → Seen) (events : List Event) (node : NodeModel D) : Type 0 where
  pub folders : IfTold (seen node.disk).told (λ state. StandsFor cluster node.device events node.is_due (folders_of state))
  pub capacity : IfTold (seen node.disk).told (λ state. state.capacity ≡ capacity_of cluster node.device)
