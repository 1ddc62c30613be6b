-- The folders of all devices, and how a device handles a message.
use Rattle.std.specs.Prelude.{◌≡◌, ◌≢◌, ℕ, ◌-◌, ◌==◌, List, [], Contains, find, length, sum_by, Option, Some, None}
use Rattle.std.specs.List.{AllPairs}
use Rattle.sw_disk.specs.Folder.{File}
use Rattle.sw_ring.specs.Cluster.{ClusterModel}
use Rattle.sw_ring.specs.declared.device.Device.{Device}
use Rattle.sw_message.specs.Step.{Folders, IsNodeStep}
use Rattle.sw_message.specs.declared.message.Msg.{Msg}
use Rattle.sw_message.specs.declared.reply.Reply.{Reply}

-- the folders of each device
abbrev pub Devices : Type 0
Devices = ℕ → Folders

-- the files in each folder are the same
abbrev pub AreSame : (before after : Devices) → Type 0
AreSame before after = (device : ℕ) (name : List ℕ) → after device name ≡ before device name

-- no folder has a file
abbrev pub no_folders : Folders
no_folders name = []

-- no device has a file
abbrev pub no_files : Devices
no_files device name = []

-- ---- room

abbrev pub capacity_in : Option Device → ℕ
capacity_in None = 0
capacity_in (Some device) = device.capacity

-- how many bytes the files of a device may have
abbrev pub capacity_of : ClusterModel → ℕ → ℕ
capacity_of cluster id = capacity_in (find (λ (device : Device). device.id == id) cluster.devices)

abbrev pub size_of : List File → ℕ
size_of files = sum_by (λ (file : File). length file.content.bytes) files

-- So many bytes are free: the capacity less the bytes of all files. These are in some folders, each once, outside which there is no
-- file.
pub record IsFree (capacity : ℕ) (folders : Folders) (room : ℕ) : Type 0 where
  pub names : List (List ℕ)
  pub distinct : AllPairs (λ a b. a ≢ b) names
  pub others : (name : List ℕ) → (Contains names name → ⊥) → folders name ≡ []
  pub room_is : room ≡ capacity - sum_by (λ name. size_of (folders name)) names

-- ---- handling

-- a device handles a message by the step of a node, with the room that its capacity leaves
pub record IsDeviceStep (cluster : ClusterModel) (device : ℕ) (msg : Msg) (reply : Reply) (before after : Folders) : Type 0 where
  pub room : ℕ
  pub free : IsFree (capacity_of cluster device) before room
  pub step : IsNodeStep cluster device room msg before after reply

-- a device does so, and the folders of all others stay
pub record IsHandledBy (cluster : ClusterModel) (device : ℕ) (msg : Msg) (reply : Reply) (before after : Devices) : Type 0 where
  pub handles : IsDeviceStep cluster device msg reply (before device) (after device)
  pub others : (other : ℕ) → other ≢ device → (name : List ℕ) → after other name ≡ before other name
