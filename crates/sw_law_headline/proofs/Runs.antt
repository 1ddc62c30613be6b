-- Each operation stays timely whatever happens, one event or many.
use Rattle.std.proofs.Common.{◌≡◌, ℕ, List, Option, Some, None}
use Rattle.sw_ring.specs.Cluster.{ClusterModel}
use Rattle.sw_message.specs.Transcript.{after_answer}
use Rattle.sw_message.specs.declared.reply.Reply.{Reply}
use Rattle.sw_core.specs.Event.{Event, IsRun, Proceeds}
use Rattle.sw_core.specs.Sound.{IsSoundWorld, Stands}
use Rattle.sw_core.specs.World.{Operating, World, numbered}
use Rattle.sw_core.proofs.Numbered.{none-numbered}
use Rattle.sw_core.proofs.Telling.{answered-stands, given_up-stands}
use Rattle.sw_core.specs.WorldMove.{Answered, Began, GaveUp, Moved, WorldMove}
use Rattle.sw_core.proofs.Carried.{run-carried}
use Rattle.sw_law_scene.proofs.Moved.{moved-follows}
use Rattle.sw_law_headline.specs.Timed.{IsTimely}
use Rattle.sw_law_headline.proofs.Beginning.{begins-timely}
use Rattle.sw_law_headline.proofs.Going.{proceeds-timely}
use Rattle.sw_law_headline.proofs.Later.{AreTimely, scene-timely}
use Rattle.sw_law_headline.proofs.Telling.{told-ready}

module _ (cluster : ClusterModel) (world : World) (sound : IsSoundWorld cluster world) (timely : AreTimely world) where
  -- an operation is told an answer
  tells : (number : ℕ) (operation : Operating) → numbered world.operations number ≡ Some operation → (ticket : ℕ) (answer : Option Reply)
      → (Stands world.scene number operation → Stands world.scene number (record operation { past = after_answer operation.past ticket answer }))
      → (after : World) → Proceeds world number operation (after_answer operation.past ticket answer) after → AreTimely after
  tells number operation is ticket answer stand = proceeds-timely world timely number operation (after_answer operation.past ticket answer)
      (told-ready world.scene sound.scene number operation (timely number operation is) ticket answer (stand (sound.operations number operation is)))

  -- whatever happens
  moves : (after : World) → WorldMove world after → AreTimely after
  moves _ (Moved scene clock move) = scene-timely world timely scene (moved-follows world.scene scene move)
  moves _ (Answered at number sent reply has operation is waits after goes) =
      tells number operation is sent.ticket (Some reply) (λ stands. answered-stands world.scene number operation stands sound.scene at sent reply has) after goes
  moves _ (GaveUp number ticket operation is waits after goes) = tells number operation is ticket None (λ stands. given_up-stands world.scene number operation stands ticket) after goes
  moves _ (Began begun scene notes after goes) = begins-timely cluster world sound timely after begun scene notes goes

-- each operation of the world of a run
pub run-timely : (cluster : ClusterModel) (events : List Event) (world : World) (number : ℕ) (operation : Operating) → IsRun cluster events world → numbered world.operations number ≡ Some operation → IsTimely world.scene number operation
run-timely cluster events world number operation run is =
    run-carried cluster AreTimely (λ before after sound still timely move. moves cluster before sound timely after move) (λ other one there. absurd (none-numbered other one there)) events world run number operation is
