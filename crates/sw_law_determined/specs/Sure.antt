-- Scenes whose disks are all sure, and events that lead from them to one world alone.
use Rattle.std.specs.Prelude.{◌≡◌, ℕ, ⊤}
use Rattle.sw_message.specs.Step.{Folders}
use Rattle.sw_law_scene.specs.Disks.{Sure}
use Rattle.sw_law_scene.specs.Scene.{Scene, disk_of}
use Rattle.sw_core.specs.Event.{Crash, CrashMount, Event, Fault}

-- no disk is undecided
abbrev pub AreSure : Scene → Type 0
AreSure scene = (device : ℕ) → (folders : Folders) × (disk_of scene device ≡ Sure folders)

-- no disk fails within the event
abbrev pub KeepsSure : Event → Type 0
KeepsSure (Fault message) = ⊥
KeepsSure event = ⊤

-- and no device stops within it
abbrev pub IsDetermined : Event → Type 0
IsDetermined (Fault message) = ⊥
IsDetermined (Crash message) = ⊥
IsDetermined (CrashMount device) = ⊥
IsDetermined event = ⊤
