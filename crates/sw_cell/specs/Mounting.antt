-- How the disks of a cluster's devices are mounted, in the order of the devices, and what comes back where one fails.
use Rattle.std.specs.Prelude.{◌≡◌, ◌⊎◌, ⊤, false, ℕ, List, [], ◌∷◌, Some, None}
use Rattle.std.specs.List.{AllZip}
use Rattle.sw_disk.specs.Runs.{IfTold, Past, Seen}
use Rattle.sw_ring.specs.Cluster.{ClusterModel}
use Rattle.sw_ring.specs.declared.device.Device.{Device}
use Rattle.sw_objsrv.specs.Mounting.{Mounts}
use Rattle.sw_objsrv.specs.Node.{IsNode, NodeModel}
use Rattle.sw_objsrv.specs.declared.fault.MountFault.TheVariants.{Failed}
use Rattle.sw_law_replayed.specs.Keeping.{IsEmptyFor}
use Rattle.sw_law_replayed.specs.Standing.{IsReplayed}
use Rattle.sw_view.specs.declared.event.Event.TheVariants.{Mounted}
use Rattle.sw_cell.specs.declared.mounting.CellsFault.{CellsFault}
use Rattle.sw_cell.specs.declared.mounting.CellsFault.TheVariants.{Mount, NoMemory}

-- a disk for each device, which, where it tells, is empty and has the device's capacity
abbrev pub AreEmpty : {D : Type 0} → (D → Seen) → ClusterModel → List D → Type 0
AreEmpty {D} seen cluster disks = AllZip (λ (device : Device) (disk : D). IfTold (seen disk).told (IsEmptyFor cluster device.id)) cluster.devices disks

-- The node of a device, which mounted a disk that was empty: that is all that happened.
pub record HasBegun {D : Type 0} (seen : D → Seen) (cluster : ClusterModel) (device : Device) (node : NodeModel D) : Type 0 where
  pub is_node : IsNode cluster seen node
  pub device_is : node.device ≡ device.id
  pub mounted : node.is_due ≡ false
  pub replayed : IsReplayed cluster seen (Mounted ∷ []) node

-- one for each device
abbrev pub HaveBegun : {D : Type 0} → (D → Seen) → ClusterModel → List (NodeModel D) → Type 0
HaveBegun seen cluster nodes = AllZip (HasBegun seen cluster) cluster.devices nodes

-- of these devices each mounted its own of these disks
abbrev pub HaveMounted : {D : Type 0} → (D → Seen) → (D → Past) → ClusterModel → List Device → (given : List D) → List (NodeModel D) → Type 0
HaveMounted seen left_since cluster [] [] [] = ⊤
HaveMounted seen left_since cluster (device ∷ devices) (disk ∷ given) (node ∷ nodes) = Mounts seen left_since cluster device.id None disk node.disk × HaveMounted seen left_since cluster devices given nodes
HaveMounted seen left_since cluster devices given nodes = ⊥

-- Each device's own disk was mounted for it.
pub record AreMounted {D : Type 0} (seen : D → Seen) (left_since : D → Past) (cluster : ClusterModel) (given : List D) : Type 0 where
  pub nodes : List (NodeModel D)
  pub mounted : HaveMounted seen left_since cluster cluster.devices given nodes

-- The disk of each of these devices was mounted, up to the one that failed, and those behind it are as they were given.
abbrev pub FailsAt : {D : Type 0} → (D → Seen) → (D → Past) → ClusterModel → (failed : ℕ) → List Device → (given back : List D) → Type 0
FailsAt seen left_since cluster failed (device ∷ devices) (disk ∷ disks) (came ∷ others) =
    ((device.id ≡ failed) × Mounts seen left_since cluster device.id (Some Failed) disk came × (others ≡ disks))
    ⊎ (Mounts seen left_since cluster device.id None disk came × FailsAt seen left_since cluster failed devices disks others)
FailsAt seen left_since cluster failed devices given back = ⊥

-- Why the disks were not mounted, and which came back.
abbrev pub IsRefusal : {D : Type 0} → (D → Seen) → (D → Past) → ClusterModel → List D → CellsFault D → Type 0
IsRefusal seen left_since cluster given (Mount device back) = FailsAt seen left_since cluster device cluster.devices given back.items
IsRefusal seen left_since cluster given NoMemory = ⊤
