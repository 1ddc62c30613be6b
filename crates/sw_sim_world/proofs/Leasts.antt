-- The least of the messages that wait is delivered, again and again: those above a number, which are of one sort, where none waits below.
use Rattle.std.proofs.Common.{◌≡◌, inl, ⊎_elim, ℕ, ◌<◌, ◌≤◌, Contains, List, [], ◌∷◌, ◌++◌, length, Some, refl, sym, ap, subst, ◌∙◌, arith}
use Rattle.std.specs.Prelude.{⊤}
use Rattle.std.proofs.lemmas.Bool.{cases_lt}
use Rattle.std.proofs.lemmas.List.Elements.{Contains-append_right}
use Rattle.sw_law_scene.specs.Scene.{Message}
use Rattle.sw_core.specs.Event.{Deliver, Event, Happens}
use Rattle.sw_core.specs.World as worlds
use Rattle.sw_sim_world.specs.Leading.{DeliversFrom}
use Rattle.sw_sim_world.specs.ScriptedWorld.{AreSteps, IsAny, IsLeast, IsOwn, NoneWaits, ScriptedWorld, Step, Waits, delivered_by, operation_of}
use Rattle.sw_sim_world.specs.Unfolding.{DeliversAll, RunsOut}
use Rattle.sw_sim_world.proofs.Messages.{Adds, delivered-adds, message-cases, more-messages}

-- each step delivers the least of a sort
abbrev pub Leasts : (Such : Message → Type 0) → (before : ScriptedWorld) → List Step → Type 0
Leasts Such before [] = ⊤
Leasts Such before (step ∷ steps) = (message : ℕ) × IsLeast Such before message × (step.event ≡ Deliver message) × Leasts Such step.after steps

-- none of a sort waits up to a number
abbrev pub NoneUpTo : (Such : Message → Type 0) → (from : ℕ) → ScriptedWorld → Type 0
NoneUpTo Such from scripted = (message : ℕ) → message ≤ from → Waits Such scripted message → ⊥

-- as messages are added, none that was made before waits
pub none-still : (Such : Message → Type 0) (from number : ℕ) (before after : ScriptedWorld) → Adds number before.world after.world → from ≤ length before.world.scene.messages → ((message : ℕ) → Contains before.delivered message → Contains after.delivered message)
    → NoneUpTo Such from before → NoneUpTo Such from after
none-still Such from number before after adds within kept none message below waits = ⊎_elim
    (λ old. none message below (record { posted = waits.posted; there = old; such = waits.such; fresh = λ has. waits.fresh (kept message has) }))
    (λ new. absurd (omega (arith, new.0, below, within)))
    (message-cases number before.world after.world adds message waits.posted waits.there)

-- what is delivered stays so
pub delivered-later : (before after : ScriptedWorld) (message : ℕ) → after.delivered ≡ message ∷ before.delivered → (other : ℕ) → Contains before.delivered other → Contains after.delivered other
delivered-later before after message same other has = subst (λ (numbers : List ℕ). Contains numbers other) (sym same) (Contains-append_right (message ∷ []) before.delivered other has)

-- what is so once they were delivered
pub record AreDelivered (Such : Message → Type 0) (Holds : ScriptedWorld → Type 0) (before : ScriptedWorld) (steps : List Step) (now : ScriptedWorld) : Type 0 where
  pub leasts : Leasts Such before steps
  pub none : NoneWaits Such now
  pub holds : Holds now
  pub as_many : length now.world.operations ≡ length before.world.operations

-- one of a sort that waits is one that waits
any-waits : (Such : Message → Type 0) (scripted : ScriptedWorld) (message : ℕ) → Waits Such scripted message → Waits IsAny scripted message
any-waits Such scripted message waits = record { posted = waits.posted; there = waits.there; such = refl; fresh = waits.fresh }

module _ (Such : Message → Type 0) (Holds : ScriptedWorld → Type 0) (from : ℕ) (such : (scripted : ScriptedWorld) → Holds scripted → (message : ℕ) (posted : Message) → worlds.numbered scripted.world.scene.messages message ≡ Some posted → from < message → Such posted)
    (keeps : (before after : ScriptedWorld) (posted : Message) → Holds before → Such posted → Adds (operation_of posted) before.world after.world → Holds after) where
  -- what holds once those above the number were delivered, none of which waits below
  pub delivered-so : (steps : List Step) (before now : ScriptedWorld) → Holds before → from ≤ length before.world.scene.messages → NoneUpTo Such from before → AreSteps before steps now → DeliversFrom from before steps
      → AreDelivered Such Holds before steps now
  delivered-so [] before now holds within none same nothing = subst (AreDelivered Such Holds before []) (sym same) (record {
    leasts = tt;
    none = λ message waits. ⊎_elim (λ above. nothing message above (any-waits Such before message waits)) (λ below. none message below waits) (cases_lt from message);
    holds = holds;
    as_many = refl;
  })
  delivered-so (step ∷ steps) before now holds within none (is_step, are) (message, least, event_is, others) =
      let posted = least.waits.posted in
      let mine = such before holds message posted least.waits.there least.above in
      let adds = delivered-adds before.world step.after.world message posted least.waits.there (subst (λ (event : Event). Happens event before.world step.after.world) event_is is_step.happens) in
      let delivered : step.after.delivered ≡ message ∷ before.delivered = is_step.delivered ∙ ap (λ (event : Event). delivered_by event before.delivered) event_is in
      let later = delivered-so steps step.after now (keeps before step.after posted holds mine adds) (omega (arith, within, more-messages (operation_of posted) before.world step.after.world adds))
      (none-still Such from (operation_of posted) before step.after adds within (delivered-later before step.after message delivered) none) are others in
      record {
        leasts = (
          message,
          record {
            waits = record { posted = posted; there = least.waits.there; such = mine; fresh = least.waits.fresh };
            least = λ other below waits. ⊎_elim (λ above. least.least other above below (any-waits Such before other waits)) (λ not_above. none other not_above waits) (cases_lt from other);
          },
          event_is,
          later.leasts,
        );
        none = later.none;
        holds = later.holds;
        as_many = later.as_many ∙ adds.as_many;
      }

-- ---- what that is of a line

-- of all messages that is a line that delivers all
pub delivers-all : (steps : List Step) (before now : ScriptedWorld) → AreSteps before steps now → Leasts IsAny before steps → NoneWaits IsAny now → DeliversAll before steps
delivers-all [] before now same leasts none = subst (NoneWaits IsAny) same none
delivers-all (step ∷ steps) before now are leasts none = (leasts.0, leasts.1, leasts.2, delivers-all steps step.after now are.1 leasts.3 none)

-- of those of an operation it is how that runs out
pub runs-on : (number : ℕ) (steps : List Step) (before now : ScriptedWorld) → AreSteps before steps now → Leasts (IsOwn number) before steps → (rest : List Step) → RunsOut number now [] rest → RunsOut number before [] (steps ++ rest)
runs-on number [] before now same leasts rest runs = subst (λ (scripted : ScriptedWorld). RunsOut number scripted [] rest) same runs
runs-on number (step ∷ steps) before now are leasts rest runs = inl (leasts.0, leasts.1, leasts.2, runs-on number steps step.after now are.1 leasts.3 rest runs)
