-- A crash within the handling of a message, as a script tells it.
use Rattle.std.specs.Prelude.{◌≡◌, ℕ, true, Some}
use Rattle.sw_message.specs.Step.{Folders}
use Rattle.sw_message.specs.declared.sent.Sent.{Sent}
use Rattle.sw_law_scene.specs.Disks.{Sure}
use Rattle.sw_law_scene.specs.Scene.{Request, disk_of, is_up}
use Rattle.sw_core.specs.Event.{Crash, Happens}
use Rattle.sw_core.specs.World.{World, numbered}
use Rattle.sw_sim_nodes.specs.Crashing.{IsCut}

-- A device that is up stops within the handling of a message: its disk is cut short after so many calls, and keeps so many changes of
-- names.
pub record IsCutWithin (before : World) (message calls pick : ℕ) (after : World) : Type 0 where
  pub happens : Happens (Crash message) before after
  pub cut : (at number : ℕ) (sent : Sent) (folders image : Folders) → numbered before.scene.messages message ≡ Some (Request at number sent) → is_up before.scene sent.device ≡ true → disk_of before.scene sent.device ≡ Sure folders
      → disk_of after.scene sent.device ≡ Sure image → IsCut before.scene.cluster sent.device sent.msg calls pick folders image
