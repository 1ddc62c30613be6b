-- The scene of a world: its devices, every message that was ever made, and what was started and lost.
use Rattle.std.specs.Prelude.{◌≡◌, ◌≤◌, ℕ, ◌==◌, Bool, true, ◌&&◌, not, if◌then◌else◌, List, [], ◌∷◌, map, Contains, Option, None}
use Rattle.sw_ring.specs.Cluster.{ClusterModel, ids_of}
use Rattle.sw_ring.specs.Ring.{is_among}
use Rattle.sw_message.specs.Learnt.{Booked, Heard, Learnt, Marked}
use Rattle.sw_message.specs.declared.reply.Reply.{Reply}
use Rattle.sw_message.specs.declared.sent.Sent.{Sent}
use Rattle.sw_law_scene.specs.Devices.{no_folders}
use Rattle.sw_law_scene.specs.Disks.{Disk, Sure}

pub record DeviceState : Type 0 where
  pub disk : Disk
  pub is_up : Bool

-- A message that was made at a step: a request of an operation, or the reply to one. Operations are numbered from 1, and so are messages.
pub data Message : Type 0 where
  Request : (at operation : ℕ) → (sent : Sent) → Message
  Answer : (at operation : ℕ) → (sent : Sent) → (reply : Reply) → Message

-- a put and a delete with the step of their start, and a disk that was lost at a step
pub record StartedPut : Type 0 where
  pub booked : Booked
  pub start : ℕ

pub record StartedDelete : Type 0 where
  pub marked : Marked
  pub start : ℕ

pub record Loss : Type 0 where
  pub device : ℕ
  pub step : ℕ

pub record Scene : Type 0 where
  pub cluster : ClusterModel
  pub devices : ℕ → DeviceState
  pub messages : List Message
  pub book : List StartedPut
  pub marks : List StartedDelete
  pub losses : List Loss
  -- the last stamp that was drawn
  pub last : Option ℕ
  -- how many steps were made
  pub now : ℕ

abbrev pub empty_device : DeviceState
empty_device = record { disk = Sure no_folders; is_up = true }

abbrev pub empty_scene : ClusterModel → Scene
empty_scene cluster = record { cluster = cluster; devices = λ device. empty_device; messages = []; book = []; marks = []; losses = []; last = None; now = 0 }

-- ---- devices

abbrev pub is_up : Scene → ℕ → Bool
is_up scene device = is_among (ids_of scene.cluster) device && (scene.devices device).is_up

abbrev pub is_down : Scene → ℕ → Bool
is_down scene device = is_among (ids_of scene.cluster) device && not (scene.devices device).is_up

abbrev pub disk_of : Scene → ℕ → Disk
disk_of scene device = (scene.devices device).disk

abbrev pub with_device : ℕ → DeviceState → (ℕ → DeviceState) → ℕ → DeviceState
with_device device state devices other = if other == device then state else devices other

abbrev pub set_device : ℕ → DeviceState → Scene → Scene
set_device device state scene = record scene { devices = with_device device state scene.devices }

abbrev pub set_disk : ℕ → Disk → Scene → Scene
set_disk device disk scene = set_device device (record (scene.devices device) { disk = disk }) scene

-- ---- what is known

-- the replies among these messages
abbrev pub heard_in : List Message → List Heard
heard_in [] = []
heard_in (Request at operation sent ∷ messages) = heard_in messages
heard_in (Answer at operation sent reply ∷ messages) = record { device = sent.device; msg = sent.msg; reply = reply } ∷ heard_in messages

-- all that is known: the puts and deletes that were started, and every reply ever made
abbrev pub known_to : Scene → Learnt
known_to scene = record {
  book = map (λ (put : StartedPut). put.booked) scene.book;
  marks = map (λ (delete : StartedDelete). delete.marked) scene.marks;
  heard = heard_in scene.messages;
}

-- a device was lost at a step or later
abbrev pub IsLostSince : Scene → (device since : ℕ) → Type 0
IsLostSince scene device since = (loss : Loss) × Contains scene.losses loss × (loss.device ≡ device) × (since ≤ loss.step)
