-- An operation that a later event starts begins no earlier than the step of the world before.
use Rattle.std.proofs.Common.{◌≡◌, ⊎_elim, ℕ, ◌+◌, ◌≤◌, ◌<◌, List, [], ◌∷◌, ◌++◌, length, Some, sym, ap, subst, ◌∙◌, arith}
use Rattle.sw_message.specs.Transcript.{Step}
use Rattle.sw_law_scene.specs.Scene.{Scene}
use Rattle.sw_law_scene.proofs.Growth.{Follows, sends-grows}
use Rattle.sw_core.specs.Event.{Event, Lead, Proceeds, begins}
use Rattle.sw_operation.specs.Operating.{Begun}
use Rattle.sw_core.specs.World.{Operating, World, numbered}
use Rattle.sw_core.proofs.Numbered.{numbered-within, pushed-cases, pushed-last, replaced-cases}
use Rattle.sw_core.specs.WorldMove.{Answered, Began, GaveUp, Moved, WorldMove}
use Rattle.sw_core.proofs.Carried.{led}
use Rattle.sw_law_scene.proofs.Moved.{moved-follows, noted-follows}

-- a step has come, and each operation of a number above a limit started at it or later
record IsLater (limit step : ℕ) (world : World) : Type 0 where
  pub now : step ≤ world.scene.now
  pub starts : (number : ℕ) (operation : Operating) → numbered world.operations number ≡ Some operation → limit < number → step ≤ operation.start

module _ (limit step : ℕ) where
  -- an operation goes on
  proceeds : (world : World) → IsLater limit step world → (number : ℕ) (operation : Operating) → numbered world.operations number ≡ Some operation → (past : List Step) (after : World)
      → Proceeds world number operation past after → IsLater limit step after
  proceeds world later number operation is past after goes =
      let same_start : goes.later.start ≡ operation.start = ap (λ (one : Operating). one.start) goes.goes_on.same in
      subst (IsLater limit step) (sym goes.after_is) (record {
        now = omega (arith, later.now, (sends-grows world.scene number goes.sents).now);
        starts = λ other one there above. ⊎_elim
            (λ this.
            subst (λ (start : ℕ). step ≤ start) (sym same_start ∙ ap (λ (it : Operating). it.start) this.1)
            (later.starts number operation is (subst (λ (n : ℕ). limit < n) this.0 above)))
            (λ old. later.starts other one old.1 above)
            (replaced-cases number goes.later world.operations other one there);
      })

  module _ (world : World) (later : IsLater limit step world) where
    -- a scene that follows is no earlier
    no_earlier : (scene : Scene) → Follows world.scene scene → step ≤ scene.now
    no_earlier scene follows = omega (arith, later.now, follows.grows.now)

    -- one begins
    one_more : (begun : Begun) (scene : Scene) → Follows world.scene scene → IsLater limit step (record world { scene = scene; operations = world.operations ++ begins begun world ∷ [] })
    one_more begun scene follows = record {
      now = no_earlier scene follows;
      starts = λ number operation there above. ⊎_elim
          (λ old. later.starts number operation old above)
          (λ new. subst (λ (start : ℕ). step ≤ start) (ap (λ (it : Operating). it.start) new.1) later.now)
          (pushed-cases world.operations (begins begun world) number operation there);
    }

    -- whatever happens
    moves : (after : World) → WorldMove world after → IsLater limit step after
    moves _ (Moved scene clock move) = record { now = no_earlier scene (moved-follows world.scene scene move); starts = later.starts }
    moves _ (Answered at number sent reply has operation is waits after goes) = proceeds world later number operation is _ after goes
    moves _ (GaveUp number ticket operation is waits after goes) = proceeds world later number operation is _ after goes
    moves _ (Began begun scene notes after goes) =
        proceeds _ (one_more begun scene (noted-follows world.scene world.clock scene notes)) (length world.operations + 1) (begins begun world) (pushed-last world.operations (begins begun world)) [] after goes

-- an operation of a greater number than there were
pub started-later : (before : World) (events : List Event) (after : World) (number : ℕ) (operation : Operating) → Lead before events after → numbered after.operations number ≡ Some operation → length before.operations < number
    → before.scene.now ≤ operation.start
started-later before events after number operation lead there above =
    let limit = length before.operations in
    let step = before.scene.now in
    let none_yet : IsLater limit step before = record { now = omega arith; starts = λ other one is more. absurd (omega (arith, more, numbered-within before.operations other one is)) } in
    (led (IsLater limit step) (λ one other later move. moves limit step one later other move) before events after none_yet lead).starts number operation there above
