-- What contracts see of a node, and how it handles a message.
use Rattle.std.specs.Prelude.{◌≡◌, ◌≢◌, ◌⊎◌, ℕ, ◌≤◌, Bool, true, false, List, Option, Some, None, Result, ⊤}
use Rattle.sw_words.specs.Counts.{one_more}
use Rattle.sw_disk.specs.Folder.{File, files_of}
use Rattle.sw_disk.specs.Runs.{IfTold, LeavesOnly, Past, Seen}
use Rattle.sw_disk.specs.State.{State, free_of}
use Rattle.sw_disk.specs.Used.{IsAccounted}
use Rattle.sw_disk.specs.declared.refusal.DiskRefusal.{DiskRefusal}
use Rattle.sw_hashpath.specs.Place.{PlaceModel, folder_of}
use Rattle.sw_hashdir.specs.declared.floor.Floor.{Floor}
use Rattle.sw_diskfile.specs.Changes.{AreSynced, Keeps}
use Rattle.sw_ring.specs.Cluster.{ClusterModel, KeepsRules}
use Rattle.sw_message.specs.Message.{IsMember, place_in}
use Rattle.sw_message.specs.Step.{IsNodeStep}
use Rattle.sw_message.specs.declared.message.Msg.{Msg}
use Rattle.sw_message.specs.declared.reply.Reply.{Reply}
use Rattle.sw_message.specs.declared.reply.Reply.TheVariants.{Committed, Deleted, DiskFault, NoMemory, Removed, Synced}
use Rattle.sw_objsrv.specs.Folder.{AreInOrder, HaveSameFloors}
use Rattle.sw_objsrv.specs.Handling.{IsAnswered, IsBeforeOrAfter, folders_of, reply_of}
use Rattle.sw_objsrv.specs.Mounting.{Mounts}
use Rattle.sw_objsrv.specs.declared.fault.MountFault.{MountFault}
use Rattle.sw_objsrv.specs.declared.fault.MountFault.TheVariants as fault

pub record NodeModel (D : Type 0) : Type 0 where
  pub disk : D
  pub device : ℕ
  -- the partitions' power, and the floor of each place that has one
  pub power : ℕ
  pub floors : List (PlaceModel × Floor)
  -- it mounts again before it handles a message
  pub is_due : Bool

-- what always holds of a node of a cluster
pub record IsNode {D : Type 0} (cluster : ClusterModel) (seen : D → Seen) (node : NodeModel D) : Type 0 where
  pub rules : KeepsRules cluster
  pub power_is : node.power ≡ cluster.part_power
  pub member : IsMember cluster node.device
  pub in_order : node.is_due ≡ false → IfTold (seen node.disk).told (AreInOrder cluster node.device node.floors)
  -- the bytes that are used are those of all files
  pub accounted : node.is_due ≡ false → IfTold (seen node.disk).told IsAccounted

-- where the bytes that are used were those of all files, they are
abbrev pub StaysAccounted : Seen → Seen → Type 0
StaysAccounted old new = IfTold old.told IsAccounted → IfTold new.told IsAccounted

-- a fact of what a disk held and holds, where it tells
abbrev pub IfBothStates : Seen → Seen → (State → State → Type 0) → Type 0
IfBothStates old new P = IfTold old.told (λ before. IfTold new.told (λ after. P before after))

-- replies that are no failure, and answers by the table
abbrev pub IsByTable : Reply → Type 0
IsByTable reply = (reply ≢ DiskFault) × (reply ≢ NoMemory)

-- replies after which the folders are as before: all but a failure and the four that tell of a change that is made
abbrev pub IsUnchanging : Reply → Type 0
IsUnchanging DiskFault = ⊥
IsUnchanging Synced = ⊥
IsUnchanging Committed = ⊥
IsUnchanging (Deleted existed) = ⊥
IsUnchanging Removed = ⊥
IsUnchanging other = ⊤

-- the files of the folder of a place were on the disk, all of their bytes
abbrev pub IfSynced : Seen → List ℕ → (State → Type 0) → Type 0
IfSynced seen folder P = IfTold seen.told (λ state. AreSynced (files_of (state.folder folder)) → P state)

-- A mounted node handles a message.
pub record Handled {D : Type 0} (seen : D → Seen) (left_since : D → Past) (cluster : ClusterModel) (message : Msg) (reply : Reply) (old new : NodeModel D) : Type 0 where
  -- its device calls, by the table
  pub answered : (result : Result Reply DiskRefusal) × (reply ≡ reply_of result) × IsAnswered seen left_since cluster old.device old.floors message result old.disk new.disk
  -- the step of a node, unless the disk failed or memory was wanted
  pub step : IsByTable reply → IfBothStates (seen old.disk) (seen new.disk) (λ before after. IsNodeStep cluster old.device (free_of before) message (folders_of before) (folders_of after) reply)
  -- after a reply that changes nothing the folders are as before, and so is what a crash leaves
  pub kept : IsUnchanging reply → Keeps seen left_since (λ name. ⊤) old.disk new.disk × HaveSameFloors new.floors old.floors
  -- after a failure the folder of the place is as before or as after, but for what is obsolete
  pub undecided : (place : PlaceModel) → place_in message ≡ Some place → IfBothStates (seen old.disk) (seen new.disk) (λ before after.
      IsBeforeOrAfter cluster old.device (free_of before) message place (folders_of before) (files_of (after.folder (folder_of place))))
  -- what a crash since some moment before this call may have left there, it may have left without the call, or it is before or after the step
  pub crash : (place : PlaceModel) → place_in message ≡ Some place → IfSynced (seen old.disk) (folder_of place) (λ before. (t : ℕ) (image : List File) →
      t ≤ (seen old.disk).moment → left_since new.disk t (folder_of place) image →
      left_since old.disk t (folder_of place) image ⊎ IsBeforeOrAfter cluster old.device (free_of before) message place (folders_of before) image)
  -- so what a crash leaves at any moment within the call is before or after the step
  pub crash_within : (place : PlaceModel) → place_in message ≡ Some place → IfSynced (seen old.disk) (folder_of place) (λ before.
      LeavesOnly left_since new.disk (seen old.disk).moment (folder_of place) (IsBeforeOrAfter cluster old.device (free_of before) message place (folders_of before)))
  pub synced : (place : PlaceModel) → place_in message ≡ Some place → IfBothStates (seen old.disk) (seen new.disk) (λ before after.
      AreSynced (files_of (before.folder (folder_of place))) → AreSynced (files_of (after.folder (folder_of place))))
  -- no other folder is changed
  pub others : Keeps seen left_since (λ name. (place : PlaceModel) → place_in message ≡ Some place → name ≢ folder_of place) old.disk new.disk
  -- only a failure makes it mount again, and counts
  pub is_due : new.is_due ≡ true → reply ≡ DiskFault
  pub due : reply ≡ DiskFault → new.is_due ≡ true
  pub failed : reply ≡ DiskFault → (seen new.disk).faults ≡ one_more (seen old.disk).faults
  pub quiet : reply ≢ DiskFault → (seen new.disk).faults ≡ (seen old.disk).faults
  pub accounted : StaysAccounted (seen old.disk) (seen new.disk)
  pub device : new.device ≡ old.device

-- what a remount leaves of a node
pub record Remounts {D : Type 0} (seen : D → Seen) (left_since : D → Past) (cluster : ClusterModel) (fault : Option MountFault) (old new : NodeModel D) : Type 0 where
  pub mounts : Mounts seen left_since cluster old.device fault old.disk new.disk
  pub is_due : fault ≡ None → new.is_due ≡ false
  pub due : (reason : MountFault) → fault ≡ Some reason → new.is_due ≡ true
  pub accounted : StaysAccounted (seen old.disk) (seen new.disk)
  pub device : new.device ≡ old.device

abbrev pub mount_reply : MountFault → Reply
mount_reply fault.Failed = DiskFault
mount_reply fault.NoMemory = NoMemory

-- A node handles a message; where a remount is due, that comes first.
abbrev pub HandlesWhenMounted : {D : Type 0} → (D → Seen) → (D → Past) → ClusterModel → Msg → Reply → NodeModel D → NodeModel D → Type 0
HandlesWhenMounted {D} seen left_since cluster message reply old new =
    ((old.is_due ≡ false) × Handled seen left_since cluster message reply old new)
    ⊎ ((old.is_due ≡ true) × (
    ((between : NodeModel D) × Remounts seen left_since cluster None old between × IsNode cluster seen between × Handled seen left_since cluster message reply between new)
    ⊎ ((reason : MountFault) × Remounts seen left_since cluster (Some reason) old new × (reply ≡ mount_reply reason))))
