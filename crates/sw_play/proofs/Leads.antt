-- Steps lead by their events.
use Rattle.std.proofs.Common.{List, [], ◌∷◌, ap}
use Rattle.sw_core.specs.Event.{Lead}
use Rattle.sw_sim_world.specs.ScriptedWorld.{AreSteps, ScriptedWorld, Step, events_in}

pub steps-lead : (before : ScriptedWorld) (steps : List Step) (after : ScriptedWorld) → AreSteps before steps after → Lead before.world (events_in steps) after.world
steps-lead before [] after same = ap (λ (one : ScriptedWorld). one.world) same
steps-lead before (step ∷ steps) after (first, rest) = (step.after.world, first.happens, steps-lead step.after steps after rest)
