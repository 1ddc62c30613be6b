-- What one basic event may do to a world.
use Rattle.std.specs.Prelude.{◌≡◌, ℕ, false, Contains, Some, None}
use Rattle.sw_message.specs.Transcript.{after_answer}
use Rattle.sw_message.specs.declared.reply.Reply.{Reply}
use Rattle.sw_message.specs.declared.sent.Sent.{Sent}
use Rattle.sw_law_scene.specs.Scene.{Answer, Scene}
use Rattle.sw_core.specs.Event.{Begins, Proceeds}
use Rattle.sw_operation.specs.Operating.{Begun}
use Rattle.sw_core.specs.World.{Operating, World, numbered}
use Rattle.sw_law_scene.specs.SceneMove.{DeviceMove, Notes}

pub data WorldMove (before : World) : World → Type 0 where
  -- no operation goes on; the clock shows what it did, or is set
  Moved : (scene : Scene) (clock : ℕ) → DeviceMove before.scene scene → WorldMove before (record before { scene = scene; clock = clock })
  -- one that is not over goes on with a reply that was made for it, or gives a message up
  Answered : (at number : ℕ) (sent : Sent) (reply : Reply) → Contains before.scene.messages (Answer at number sent reply) → (operation : Operating) → numbered before.operations number ≡ Some operation
      → operation.is_over ≡ false → (after : World) → Proceeds before number operation (after_answer operation.past sent.ticket (Some reply)) after → WorldMove before after
  GaveUp : (number ticket : ℕ) (operation : Operating) → numbered before.operations number ≡ Some operation → operation.is_over ≡ false → (after : World) → Proceeds before number operation (after_answer operation.past ticket None) after → WorldMove before after
  -- one begins, as which a put or a delete may be noted
  Began : (begun : Begun) (scene : Scene) → Notes before.clock before.scene scene → (after : World) → Begins begun scene before after → WorldMove before after
