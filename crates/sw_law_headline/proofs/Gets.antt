-- A get of a world of a run: its machine, and when its messages were made.
use Rattle.std.proofs.Common.{◌≡◌, ℕ, ◌≤◌, Contains, List, Some, subst}
use Rattle.sw_ring.specs.Cluster.{ClusterModel}
use Rattle.sw_message.specs.Transcript.{IsRun as IsRunOf}
use Rattle.sw_message.specs.declared.sent.Sent.{Sent}
use Rattle.sw_get.specs.Get as gets
use Rattle.sw_law_scene.specs.Scene.{Scene}
use Rattle.sw_law_scene.specs.Sound.{IsSoundScene}
use Rattle.sw_core.specs.Event.{Event, IsRun}
use Rattle.sw_operation.specs.Operating.{IsGetOf}
use Rattle.sw_core.specs.Sound.{Stands}
use Rattle.sw_core.specs.World.{Operating, World, numbered}
use Rattle.sw_core.proofs.Happening.{run-sound}
use Rattle.sw_law_rounds.specs.Timed.{IsTimed}
use Rattle.sw_law_headline.specs.Timed.{IsTimely}
use Rattle.sw_law_headline.proofs.Runs.{run-timely as times_hold}
use Rattle.sw_law_alone.proofs.Gets.{get_run}
use Rattle.sw_law_rounds.proofs.Handed.{gave-at}
use Rattle.sw_law_rounds.proofs.Timing.{gave-made}

-- an operation of a number is a get of a sound scene, whose messages were made in the order of its transcript
pub record IsGot (scene : Scene) (number : ℕ) (operation : Operating) (begun : gets.Begun) : Type 0 where
  pub cluster : begun.cluster ≡ scene.cluster
  pub valid : gets.IsBegun begun
  pub run : IsRunOf (gets.IsNext begun) operation.past
  pub sound : IsSoundScene scene
  pub stands : Stands scene number operation
  pub timely : IsTimely scene number operation

-- each get of a world of a run is so
pub is-got : (cluster : ClusterModel) (events : List Event) (world : World) → IsRun cluster events world → (number : ℕ) (operation : Operating) → numbered world.operations number ≡ Some operation
    → (begun : gets.Begun) → IsGetOf operation.begun begun → IsGot world.scene number operation begun
is-got cluster events world run number operation there begun get =
    let sound = run-sound cluster events world run in
    let stands = sound.operations number operation there in
    let is = get_run world.scene.cluster operation.past begun operation.begun stands.cluster stands.valid stands.run get in
    record { cluster = is.0; valid = is.1; run = is.2; sound = sound.scene; stands = stands; timely = times_hold cluster events world number operation run there }

-- none of its messages was made before its start
pub since-start : (scene : Scene) (number : ℕ) (operation : Operating) (begun : gets.Begun) (got : IsGot scene number operation begun) (turns : List gets.Turn) → gets.AreTurns begun operation.past turns → (sent : Sent)
    → Contains turns (gets.Sends sent) → operation.start ≤ got.timely.asked_at sent.ticket
since-start scene number operation begun got turns are sent has =
    let at = gave-at begun operation.past turns are sent has in
    let timed = subst (λ steps. IsTimed scene.messages number got.timely.asked_at steps scene.now) at.2 got.timely.timed in
    let made = gave-made scene.messages number got.timely.asked_at at.0 sent at.1 scene.now timed in
    (got.stands.requests (got.timely.asked_at sent.ticket) sent made.1).0
