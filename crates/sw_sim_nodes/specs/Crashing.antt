-- A device that stops within the handling of a message: what its disk holds after so many device calls and a crash.
use Rattle.std.specs.Prelude.{◌≡◌, ◌≢◌, ◌⊎◌, ℕ, ◌+◌, ◌==◌, Bool, true, false, ◌||◌, List, [], max, min, nat_lt, slice_get, slice_set, take, map, None, Some}
use Rattle.sw_words.specs.Counts.{last_count}
use Rattle.sw_disk.specs.Calls.{Call, Do}
use Rattle.sw_disk.specs.Folder.{File, Folder, all_changed}
use Rattle.sw_disk.specs.State.{State, run}
use Rattle.sw_hashpath.specs.Place.{PlaceModel, folder_of}
use Rattle.sw_memdisk.specs.Log.{crashed_file}
use Rattle.sw_memdisk.specs.Memory.{LeftBy, crashed, seen_of}
use Rattle.sw_ring.specs.Cluster.{ClusterModel}
use Rattle.sw_ring.specs.Ring.{is_among}
use Rattle.sw_message.specs.Step.{Folders, IsFound}
use Rattle.sw_message.specs.Table.{Found, Handling, IsHandled}
use Rattle.sw_message.specs.declared.message.Msg.{Msg}
use Rattle.sw_message.specs.declared.message.Msg.TheVariants as message
use Rattle.sw_message.specs.declared.reply.Reply.{Reply}
use Rattle.sw_message.specs.declared.reply.Reply.TheVariants.{DiskFault, NoMemory, NoSpace}
use Rattle.sw_objsrv.specs.Node.{HandlesWhenMounted, IsNode}
use Rattle.sw_law_scene.specs.Devices.{IsFree, capacity_of}
use Rattle.sw_law_scene.specs.Disks.{IsHeldWithin, IsLeftOf, Sure}
use Rattle.sw_sim_nodes.specs.Nodes.{MemNode, NodesModel, devices_of}

-- a disk with these files, and nothing pending; of the rest no change of names speaks
abbrev pub disk_of : Folders → State
disk_of folders = record { capacity = 0; used = 0; schedule = None; temporary = None; folder = λ name. record { stable = folders name; pending = [] } }

-- A crash keeps so many of a folder's pending changes of names, at most all; bytes that were not synced are zeros.
abbrev pub crashed_files : ℕ → Folder → List File
crashed_files pick folder = map crashed_file (all_changed (take pick folder.pending) folder.stable)

-- the device calls of a handling that are done: where the disk is full, that which writes is refused
abbrev pub calls_done : Reply → List Call → List Call
calls_done (NoSpace need free) calls = take 1 calls
calls_done other calls = calls

-- The message is handled by a row of the table, but after so many device calls, or at its end, the disk crashes.
pub record IsCutShort (cluster : ClusterModel) (device : ℕ) (msg : Msg) (place : PlaceModel) (calls pick : ℕ) (before after : Folders) : Type 0 where
  pub room : ℕ
  pub free : IsFree (capacity_of cluster device) before room
  pub found : Found
  pub is_found : IsFound (before (folder_of place)) room found
  pub handling : Handling
  pub handled : IsHandled cluster device found msg handling
  pub left : (name : List ℕ) → after name ≡ crashed_files pick ((run (map Do (take calls (calls_done handling.reply handling.calls))) (disk_of before)).folder name)

-- the files in each folder are the same
abbrev pub IsUnchanged : (before after : Folders) → Type 0
IsUnchanged before after = (name : List ℕ) → after name ≡ before name

-- what is left: nothing changes within a message that only reads
abbrev pub IsCut : ClusterModel → (device : ℕ) → Msg → (calls pick : ℕ) → (before after : Folders) → Type 0
IsCut cluster device (message.PutFrag place stamp index bytes) calls pick before after = IsCutShort cluster device (message.PutFrag place stamp index bytes) place calls pick before after
IsCut cluster device (message.Commit place stamp index) calls pick before after = IsCutShort cluster device (message.Commit place stamp index) place calls pick before after
IsCut cluster device (message.Delete place stamp) calls pick before after = IsCutShort cluster device (message.Delete place stamp) place calls pick before after
IsCut cluster device (message.Remove place stamp index) calls pick before after = IsCutShort cluster device (message.Remove place stamp index) place calls pick before after
IsCut cluster device other calls pick before after = IsUnchanged before after

-- A device that was up stopped within the handling of a message; the others are as they were.
pub record Crashes (before : NodesModel) (device : ℕ) (msg : Msg) (calls pick : ℕ) (after : NodesModel) : Type 0 where
  pub cut : IsCut before.cluster device msg calls pick (devices_of before.nodes device) (devices_of after.nodes device)
  -- but for what is obsolete, each folder is as before or as after the step
  pub left : IsLeftOf before.cluster device (IsHeldWithin before.cluster device msg (Sure (devices_of before.nodes device))) (devices_of after.nodes device)
  pub others : (other : ℕ) → other ≢ device → (name : List ℕ) → devices_of after.nodes other name ≡ devices_of before.nodes other name
  pub down : (other : ℕ) → is_among after.down other ≡ (is_among before.down other || other == device)
  pub after_is : after ≡ record before { nodes = after.nodes; down = after.down }

-- ---- one node

-- A node whose disk has a fuse of so many device calls, at least one: the first call of a handling only lists, so what a disk holds before
-- that call it holds behind it.
abbrev pub fused : ℕ → MemNode → MemNode
fused calls node = record node { disk = record node.disk { last = Some (min (node.disk.calls + max calls 1) last_count) } }

-- Whether a handling that replied so was cut short by its fuse, or was done: memory was there, and the disk failed only where its calls were
-- used up.
abbrev pub cut_of : Reply → (is_used_up : Bool) → Bool
cut_of NoMemory is_used_up = false
cut_of DiskFault is_used_up = is_used_up
cut_of other is_used_up = true

-- A node handled a message over a disk with such a fuse, the disk lost power, and the node is due for a mount.
pub record IsCrashedNode (cluster : ClusterModel) (msg : Msg) (calls pick : ℕ) (is_cut : Bool) (old new : MemNode) : Type 0 where
  pub reply : Reply
  pub between : MemNode
  pub handles : HandlesWhenMounted seen_of LeftBy cluster msg reply (fused calls old) between
  pub new_is : new ≡ record between { disk = crashed pick between.disk; is_due = true }
  pub is_node : IsNode cluster seen_of new
  pub cut_is : is_cut ≡ cut_of reply (nat_lt (old.disk.calls + max calls 1) between.disk.calls)

-- that is one of these nodes, and the others are as they were
pub record IsCrashedAt (cluster : ClusterModel) (slot : ℕ) (msg : Msg) (calls pick : ℕ) (is_cut : Bool) (before after : List MemNode) : Type 0 where
  pub old : MemNode
  pub new : MemNode
  pub at : slice_get before slot ≡ Some old
  pub crashes : IsCrashedNode cluster msg calls pick is_cut old new
  pub others : after ≡ slice_set before slot new

-- Memory was wanted for a crash: the node of the device was not cut short, since it replied so, or its disk failed though its calls were not
-- used up.
pub record WantsWithin (before : NodesModel) (device : ℕ) (msg : Msg) (calls pick : ℕ) (after : NodesModel) : Type 0 where
  pub slot : ℕ
  pub crashed : IsCrashedAt before.cluster slot msg calls pick false before.nodes after.nodes
  pub mine : crashed.old.device ≡ device

-- or it was wanted for the list of the devices that are down, and nothing else was done
abbrev pub WantsMemory : NodesModel → (device : ℕ) → Msg → (calls pick : ℕ) → (after : NodesModel) → Type 0
WantsMemory before device msg calls pick after = (after ≡ record before { is_wanting = true }) ⊎ WantsWithin before device msg calls pick after
