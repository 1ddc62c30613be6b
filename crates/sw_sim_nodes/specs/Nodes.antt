-- What contracts see of the nodes of a cluster, and how one of them handles a message.
use Rattle.std.specs.Prelude.{◌≡◌, ◌≢◌, ℕ, ◌==◌, Bool, true, false, not, ◌&&◌, ◌||◌, List, [], find, map, slice_get, slice_set, Option, Some, None}
use Rattle.std.specs.List.{All}
use Rattle.sw_words.specs.Counts.{one_more}
use Rattle.sw_diskfile.specs.Changes.{IsSettled}
use Rattle.sw_memdisk.specs.Memory.{LeftBy, MemDiskModel, seen_of, state_of}
use Rattle.sw_ring.specs.Cluster.{ClusterModel, KeepsRules, ids_of}
use Rattle.sw_ring.specs.Ring.{is_among}
use Rattle.sw_message.specs.Step.{Folders}
use Rattle.sw_message.specs.declared.message.Msg.{Msg}
use Rattle.sw_message.specs.declared.reply.Reply.{Reply}
use Rattle.sw_message.specs.declared.reply.Reply.TheVariants.{DiskFault, NoMemory}
use Rattle.sw_objsrv.specs.Handling.{folders_of}
use Rattle.sw_objsrv.specs.Node.{HandlesWhenMounted, IsNode, NodeModel, Remounts}
use Rattle.sw_objsrv.specs.declared.fault.MountFault.{MountFault}
use Rattle.sw_law_scene.specs.Devices.{Devices, IsHandledBy, capacity_of}
use Rattle.sw_law_scene.specs.Disks.{IsMounted}

-- a node on a disk in memory
abbrev pub MemNode : Type 0
MemNode = NodeModel MemDiskModel

pub record NodesModel : Type 0 where
  pub cluster : ClusterModel
  pub nodes : List MemNode
  -- the devices that are down
  pub down : List ℕ
  -- how many messages to these were lost
  pub lost : ℕ
  -- some node wanted memory
  pub is_wanting : Bool

-- the node of a device
abbrev pub node_of : List MemNode → ℕ → Option MemNode
node_of nodes id = find (λ (node : MemNode). node.device == id) nodes

-- the files in its folders
abbrev pub files_at : Option MemNode → Folders
files_at None name = []
files_at (Some node) name = folders_of (state_of node.disk) name

-- the folders of each device
abbrev pub devices_of : List MemNode → Devices
devices_of nodes id name = files_at (node_of nodes id) name

-- whatever a crash leaves of a disk's folders is what is there
abbrev pub IsSettledDisk : MemDiskModel → Type 0
IsSettledDisk disk = (name : List ℕ) → IsSettled ((state_of disk).folder name)

-- What always holds of them: there is a node for each device of the cluster, ascending by id, on a disk of the device's capacity; as
-- long as none wanted memory, none that is up has to mount again, and a crash would leave each disk as it is.
pub record AreNodes (nodes : NodesModel) : Type 0 where
  pub rules : KeepsRules nodes.cluster
  pub each : map (λ (node : MemNode). node.device) nodes.nodes ≡ ids_of nodes.cluster
  pub are : All (IsNode nodes.cluster seen_of) nodes.nodes
  pub capacities : All (λ (node : MemNode). node.disk.capacity ≡ capacity_of nodes.cluster node.device) nodes.nodes
  pub mounted : nodes.is_wanting ≡ false → All (λ (node : MemNode). is_among nodes.down node.device ≡ false → node.is_due ≡ false) nodes.nodes
  pub settled : nodes.is_wanting ≡ false → All (λ (node : MemNode). IsSettledDisk node.disk) nodes.nodes

-- the reply says that memory was wanted; that a disk failed it says only once its calls can't be counted any more
abbrev pub is_want : Reply → Bool
is_want NoMemory = true
is_want DiskFault = true
is_want other = false

-- one of these nodes handled a message, and the others are as they were
pub record IsHandledAt (cluster : ClusterModel) (slot : ℕ) (msg : Msg) (reply : Reply) (before after : List MemNode) : Type 0 where
  pub old : MemNode
  pub new : MemNode
  pub at : slice_get before slot ≡ Some old
  pub handles : HandlesWhenMounted seen_of LeftBy cluster msg reply old new
  pub is_node : IsNode cluster seen_of new
  pub others : after ≡ slice_set before slot new

-- one of these nodes was mounted again, or that was refused, and the others are as they were
pub record IsRemountedAt (cluster : ClusterModel) (slot : ℕ) (fault : Option MountFault) (before after : List MemNode) : Type 0 where
  pub old : MemNode
  pub new : MemNode
  pub at : slice_get before slot ≡ Some old
  pub remounts : Remounts seen_of LeftBy cluster fault old new
  pub is_node : IsNode cluster seen_of new
  pub others : after ≡ slice_set before slot new

-- The node of a device that is up handled a message, once. Unless some node wanted memory, that was the step of a node.
pub record CallsUp (before : NodesModel) (device : ℕ) (msg : Msg) (reply : Reply) (after : NodesModel) : Type 0 where
  pub up : is_among before.down device ≡ false
  pub slot : ℕ
  pub once : IsHandledAt before.cluster slot msg reply before.nodes after.nodes
  pub mine : once.old.device ≡ device
  pub handled : after.is_wanting ≡ false → IsHandledBy before.cluster device msg reply (devices_of before.nodes) (devices_of after.nodes)
  pub same_cluster : after.cluster ≡ before.cluster
  pub same_down : after.down ≡ before.down
  pub none_lost : after.lost ≡ before.lost
  pub wanting : after.is_wanting ≡ false → before.is_wanting ≡ false
  pub cause : before.is_wanting ≡ false → after.is_wanting ≡ is_want reply

-- The device is down, so the message was lost, and that is counted.
pub record CallsDown (before : NodesModel) (device : ℕ) (after : NodesModel) : Type 0 where
  pub down : is_among before.down device ≡ true
  pub after_is : after ≡ record before { lost = one_more before.lost }

abbrev pub Calls : NodesModel → (device : ℕ) → Msg → Option Reply → NodesModel → Type 0
Calls before device msg (Some reply) after = CallsUp before device msg reply after
Calls before device msg None after = CallsDown before device after

abbrev pub lost_in : NodesModel → ℕ
lost_in nodes = nodes.lost

-- ---- devices that stop, restart, and lose their disks

-- A device is down from now on.
pub record Stops (before : NodesModel) (device : ℕ) (after : NodesModel) : Type 0 where
  pub after_is : after ≡ record before { down = after.down }
  pub down : (other : ℕ) → is_among after.down other ≡ (is_among before.down other || other == device)

-- A device is up from now on. Where it was down, its folders were mounted; else they have what they had, as have those of the others.
pub record Restarts (before : NodesModel) (device : ℕ) (after : NodesModel) : Type 0 where
  pub after_is : after ≡ record before { nodes = after.nodes; down = after.down }
  pub mounted : is_among before.down device ≡ true → IsMounted before.cluster device (devices_of before.nodes device) (devices_of after.nodes device)
  pub same : is_among before.down device ≡ false → after.nodes ≡ before.nodes
  pub others : (other : ℕ) → other ≢ device → (name : List ℕ) → devices_of after.nodes other name ≡ devices_of before.nodes other name
  pub down : (other : ℕ) → is_among after.down other ≡ (is_among before.down other && not (other == device))

-- A device has an empty disk from now on, and is up or down as it was.
pub record Loses (before : NodesModel) (device : ℕ) (after : NodesModel) : Type 0 where
  pub after_is : after ≡ record before { nodes = after.nodes }
  pub empty : (name : List ℕ) → devices_of after.nodes device name ≡ []
  pub others : (other : ℕ) → other ≢ device → (name : List ℕ) → devices_of after.nodes other name ≡ devices_of before.nodes other name
