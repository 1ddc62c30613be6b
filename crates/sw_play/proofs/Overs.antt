-- An operation that is over stays as it is, whatever happens.
use Rattle.std.proofs.Common.{◌≡◌, ◌≢◌, ℕ, zero, suc, ◌+◌, true, false, List, [], ◌∷◌, ◌++◌, length, Some, refl, sym, ap, subst, ◌∙◌, arith}
use Rattle.std.proofs.lemmas.Option.{none-some, same_Some}
use Rattle.sw_message.specs.Transcript.{Step}
use Rattle.sw_core.specs.Event.{Proceeds, begins}
use Rattle.sw_core.specs.World.{Operating, World, numbered, with_numbered}
use Rattle.sw_core.proofs.Numbered.{numbered-within}
use Rattle.sw_core.specs.WorldMove.{Answered, Began, GaveUp, Moved, WorldMove}
use Rattle.sw_core.proofs.Happened.{happens-moves}
use Rattle.sw_sim_world.specs.ScriptedWorld.{AreSteps, ScriptedWorld, Step as AStep}

-- ---- lists

module _ {A : Type 0} where
  -- another item of a number leaves the others
  pub replaced_other : (number : ℕ) (new : A) (items : List A) (other : ℕ) → other ≢ number → numbered (with_numbered number new items) other ≡ numbered items other
  replaced_other number new [] other differs = refl
  replaced_other zero new (first ∷ items) other differs = refl
  replaced_other (suc zero) new (first ∷ items) zero differs = refl
  replaced_other (suc zero) new (first ∷ items) (suc zero) differs = absurd (differs refl)
  replaced_other (suc zero) new (first ∷ items) (suc (suc place)) differs = refl
  replaced_other (suc (suc number)) new (first ∷ items) zero differs = refl
  replaced_other (suc (suc number)) new (first ∷ items) (suc zero) differs = refl
  replaced_other (suc (suc number)) new (first ∷ items) (suc (suc place)) differs = replaced_other (suc number) new items (suc place) (λ same. differs (omega (arith, same)))

  -- and so does one more
  pub pushed_old : (items : List A) (last : A) (number : ℕ) (item : A) → numbered items number ≡ Some item → numbered (items ++ last ∷ []) number ≡ Some item
  pushed_old items last zero item is = absurd (none-some item is)
  pushed_old [] last (suc place) item is = absurd (none-some item is)
  pushed_old (first ∷ items) last (suc zero) item is = is
  pushed_old (first ∷ items) last (suc (suc place)) item is = pushed_old items last (suc place) item is

-- ---- events

module _ (number : ℕ) (operation : Operating) (over : operation.is_over ≡ true) where
  abbrev IsThere : World → Type 0
  IsThere world = numbered world.operations number ≡ Some operation

  -- another operation goes on
  proceeds : (before : World) → IsThere before → (other : ℕ) (one : Operating) (past : List Step) (after : World) → number ≢ other → Proceeds before other one past after → IsThere after
  proceeds before there other one past after differs goes = subst IsThere (sym goes.after_is) (replaced_other other goes.later before.operations number differs ∙ there)

  module _ (before : World) (there : IsThere before) where
    -- one that is not over is another one
    another : (other : ℕ) (one : Operating) → numbered before.operations other ≡ Some one → one.is_over ≡ false → number ≢ other
    another other one is waits same = let itself : operation ≡ one = same_Some operation one (sym there ∙ ap (numbered before.operations) same ∙ is) in absurd (cc)

    -- whatever happens
    moves : (after : World) → WorldMove before after → IsThere after
    moves _ (Moved scene clock move) = there
    moves _ (Answered at other sent reply has one is waits after goes) = proceeds before there other one _ after (another other one is waits) goes
    moves _ (GaveUp other ticket one is waits after goes) = proceeds before there other one _ after (another other one is waits) goes
    moves _ (Began begun scene notes after goes) =
        proceeds _ (pushed_old before.operations (begins begun before) number operation there) (length before.operations + 1) (begins begun before) [] after
        (λ same. absurd (omega (arith, same, numbered-within before.operations number operation there))) goes

  -- ---- steps

  pub over_stays : (before : ScriptedWorld) (steps : List AStep) (after : ScriptedWorld) → AreSteps before steps after → IsThere before.world → IsThere after.world
  over_stays before [] after same there = subst (λ (one : ScriptedWorld). IsThere one.world) (sym same) there
  over_stays before (step ∷ steps) after (first, rest) there = over_stays step.after steps after rest (moves before.world there step.after.world (happens-moves before.world step.after.world step.event first.happens))
