-- What may happen to a scene, one step each.
use Rattle.std.specs.Prelude.{◌≡◌, ℕ, ◌+◌, true, false, max, List, [], ◌∷◌, ◌++◌, map, Option, Some, None}
use Rattle.sw_types.specs.Name.{NameModel}
use Rattle.sw_types.specs.Object.{ObjectModel}
use Rattle.sw_message.specs.Step.{Folders}
use Rattle.sw_message.specs.declared.reply.Reply.{Reply}
use Rattle.sw_message.specs.declared.reply.Reply.TheVariants as reply
use Rattle.sw_message.specs.declared.sent.Sent.{Sent}
use Rattle.sw_law_scene.specs.Devices.{IsDeviceStep, no_folders}
use Rattle.sw_law_scene.specs.Disks.{Disk, IsFailedBy, IsFoundOn, IsHeldWithin, IsLeftOf, IsMounted, IsSide, Sure}
use Rattle.sw_law_scene.specs.Scene.{Answer, Message, Request, Scene, disk_of, set_device, set_disk}

-- a step is made
abbrev pub ticked : Scene → Scene
ticked scene = record scene { now = scene.now + 1 }

-- ---- messages

-- an operation makes these requests, the first of them first
abbrev pub requests_of : (at operation : ℕ) → List Sent → List Message
requests_of at operation sents = map (λ (sent : Sent). Request at operation sent) sents

abbrev pub sends : ℕ → List Sent → Scene → Scene
sends operation sents scene = ticked (record scene { messages = scene.messages ++ requests_of scene.now operation sents })

-- a device replies to a request
abbrev pub replies : ℕ → Sent → Reply → Scene → Scene
replies operation sent reply scene = ticked (record scene { messages = scene.messages ++ Answer scene.now operation sent reply ∷ [] })

-- ---- stamps

-- the stamp of the next put or delete: what the clock shows, or one more than the last where that is greater
abbrev pub next_stamp : (clock : ℕ) → Option ℕ → ℕ
next_stamp clock None = clock
next_stamp clock (Some last) = max clock (last + 1)

abbrev pub books : ℕ → NameModel → ObjectModel → Scene → Scene
books stamp name object scene = record scene {
  last = Some stamp;
  book = scene.book ++ record { booked = record { stamp = stamp; name = name; object = object }; start = scene.now } ∷ [];
}

abbrev pub marks : ℕ → NameModel → Scene → Scene
marks stamp name scene = record scene {
  last = Some stamp;
  marks = scene.marks ++ record { marked = record { stamp = stamp; name = name }; start = scene.now } ∷ [];
}

-- ---- devices

-- The device of a request handles it, by the step of a node; where its disk is undecided it mounts first.
pub record Handles (scene : Scene) (operation : ℕ) (sent : Sent) (after : Scene) : Type 0 where
  pub found : Folders
  pub finds : IsFoundOn scene.cluster sent.device (disk_of scene sent.device) found
  pub reply : Reply
  pub folders : Folders
  pub step : IsDeviceStep scene.cluster sent.device sent.msg reply found folders
  pub after_is : after ≡ replies operation sent reply (set_disk sent.device (Sure folders) scene)

-- The disk of the device fails within that.
pub record Fails (scene : Scene) (operation : ℕ) (sent : Sent) (after : Scene) : Type 0 where
  pub disk : Disk
  pub failed : IsFailedBy scene.cluster sent.device sent.msg (disk_of scene sent.device) disk
  pub after_is : after ≡ replies operation sent reply.DiskFault (set_disk sent.device disk scene)

-- The device stops within that; what a crash leaves is on its disk.
pub record Crashes (scene : Scene) (sent : Sent) (after : Scene) : Type 0 where
  pub image : Folders
  pub left : IsLeftOf scene.cluster sent.device (IsHeldWithin scene.cluster sent.device sent.msg (disk_of scene sent.device)) image
  pub after_is : after ≡ ticked (set_device sent.device (record { disk = Sure image; is_up = false }) scene)

-- A device that is down stops again within a mount.
pub record CrashesMounting (scene : Scene) (device : ℕ) (after : Scene) : Type 0 where
  pub image : Folders
  pub left : IsLeftOf scene.cluster device (IsSide (disk_of scene device)) image
  pub after_is : after ≡ ticked (set_device device (record { disk = Sure image; is_up = false }) scene)

-- A device mounts its disk, and is up.
pub record Restarts (scene : Scene) (device : ℕ) (after : Scene) : Type 0 where
  pub side : Folders
  pub is_side : IsSide (disk_of scene device) side
  pub mounted : Folders
  pub is_mounted : IsMounted scene.cluster device side mounted
  pub after_is : after ≡ ticked (set_device device (record { disk = Sure mounted; is_up = true }) scene)

-- A device is down. Its disk is as it was: nothing is pending between two handlings.
abbrev pub stopped : ℕ → Scene → Scene
stopped device scene = ticked (set_device device (record (scene.devices device) { is_up = false }) scene)

-- The disk of a device is lost, and an empty one is in its place; it is up or down as it was.
abbrev pub lost : ℕ → Scene → Scene
lost device scene = ticked (record (set_disk device (Sure no_folders) scene) { losses = scene.losses ++ record { device = device; step = scene.now } ∷ [] })
