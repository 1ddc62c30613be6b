-- What a node's disk holds goes on standing for the history of its device.
use Rattle.std.specs.Prelude.{◌≡◌, ℕ, true, false, List, [], ◌∷◌, Option, Some, None}
use Rattle.sw_disk.specs.Folder.{files_of}
use Rattle.sw_disk.specs.Runs.{IfTold, Past, Seen}
use Rattle.sw_disk.specs.State.{State}
use Rattle.sw_ring.specs.Cluster.{ClusterModel}
use Rattle.sw_message.specs.Message.{IsPlaceOf, place_in}
use Rattle.sw_message.specs.Step.{Folders}
use Rattle.sw_message.specs.declared.message.Msg.{Msg}
use Rattle.sw_message.specs.declared.reply.Reply.{Reply}
use Rattle.sw_message.specs.declared.reply.Reply.TheVariants.{DiskFault, NoMemory}
use Rattle.sw_objsrv.specs.Mounting.{Mounts}
use Rattle.sw_objsrv.specs.Node.{Handled as NodeHandled, IsNode, NodeModel, Remounts}
use Rattle.sw_objsrv.specs.declared.fault.MountFault.{MountFault}
use Rattle.sw_objsrv.specs.declared.fault.MountFault.TheVariants as fault
use Rattle.sw_law_scene.specs.Devices.{IsDeviceStep, capacity_of}
use Rattle.sw_law_scene.specs.Disks.{Disk, Sure}
use Rattle.sw_view.specs.History.{Replays}
use Rattle.sw_view.specs.declared.event.Event.{Event}
use Rattle.sw_view.specs.declared.event.Event.TheVariants.{Faulted, Handled, Mounted, Replaced}
use Rattle.sw_law_replayed.specs.Standing.{IsReplayed}

-- the history once the device has handled a message, or failed at it; where memory was wanted nothing happened
abbrev pub handled_events : Msg → Reply → List Event → List Event
handled_events msg DiskFault events = Faulted msg ∷ events
handled_events msg NoMemory events = events
handled_events msg reply events = Handled msg reply ∷ events

-- the history once it has mounted its places before a message, or failed at that
abbrev pub mounted_events : Msg → Option MountFault → List Event → List Event
mounted_events msg None events = Mounted ∷ events
mounted_events msg (Some fault.Failed) events = Faulted msg ∷ events
mounted_events msg (Some fault.NoMemory) events = events

-- on whatever the disk may hold after the history, the device has a step for the message
abbrev pub HasStep : ClusterModel → (device : ℕ) → List Event → Msg → Type 0
HasStep cluster device events msg =
    (folders : Folders) → Replays cluster device events (Sure folders) → (reply : Reply) × (after : Folders) × IsDeviceStep cluster device msg reply folders after

-- where a mounted node handles a message
abbrev pub KeepsHandled : {D : Type 0} → (D → Seen) → (D → Past) → Type 0
KeepsHandled {D} seen left_since =
    (cluster : ClusterModel) (events : List Event) (msg : Msg) (reply : Reply) (old new : NodeModel D) → IsNode cluster seen old → old.is_due ≡ false → IsPlaceOf cluster (place_in msg)
    → HasStep cluster old.device events msg → IsReplayed cluster seen events old → NodeHandled seen left_since cluster msg reply old new
    → IsReplayed cluster seen (handled_events msg reply events) new

-- where a node mounts its places again, before it handles a message
abbrev pub KeepsRemounted : {D : Type 0} → (D → Seen) → (D → Past) → Type 0
KeepsRemounted {D} seen left_since =
    (cluster : ClusterModel) (events : List Event) (msg : Msg) (fault : Option MountFault) (old new : NodeModel D) → old.is_due ≡ true
    → IsReplayed cluster seen events old → Remounts seen left_since cluster fault old new → IsReplayed cluster seen (mounted_events msg fault events) new

-- no folder has a file, and the disk has the capacity of the device
pub record IsEmptyFor (cluster : ClusterModel) (device : ℕ) (state : State) : Type 0 where
  pub empty : (name : List ℕ) → files_of (state.folder name) ≡ []
  pub capacity : state.capacity ≡ capacity_of cluster device

-- where an empty disk was mounted, at the beginning of the history or in the place of another disk
abbrev pub BeginsReplayed : {D : Type 0} → (D → Seen) → (D → Past) → Type 0
BeginsReplayed {D} seen left_since =
    (cluster : ClusterModel) (disk : D) (node : NodeModel D) → IfTold (seen disk).told (IsEmptyFor cluster node.device) → node.is_due ≡ false
    → Mounts seen left_since cluster node.device None disk node.disk
    → IsReplayed cluster seen (Mounted ∷ []) node
    × ((events : List Event) (before : Disk) (loss : ℕ) → Replays cluster node.device events before → IsReplayed cluster seen (Replaced loss ∷ events) node)
