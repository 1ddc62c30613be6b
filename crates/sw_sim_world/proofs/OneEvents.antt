-- Lines of one basic event, or of none, that end no operation.
use Rattle.std.proofs.Common.{◌≡◌, true, false, true≢false, List, [], ◌∷◌, None, refl, sym, subst, ◌∙◌}
use Rattle.std.specs.List.{AllZip}
use Rattle.sw_core.specs.Event as core
use Rattle.sw_core.specs.World.{Operating}
use Rattle.sw_script.specs.declared.event.Event.{Event}
use Rattle.sw_sim_world.specs.declared.told.Told.{Told}
use Rattle.sw_sim_world.specs.Doing.{event_fault, is_drawing}
use Rattle.sw_sim_world.specs.Leading.{DoesIt}
use Rattle.sw_sim_world.specs.ScriptedWorld.{IsStep, ScriptedWorld}
use Rattle.sw_sim_world.specs.Standing.{StandsFor, WorldModel}
use Rattle.sw_sim_world.specs.Unfolding.{Ended, Tells, TellsEnd, TellsShown, Unfolds, ended_from, told_sent}
use Rattle.sw_sim_world.proofs.Ended.{none_ended}
use Rattle.sw_sim_world.proofs.Stretches.{step_of}

module _ (line : Event) (before : ScriptedWorld) (fine : event_fault before line ≡ None) (draws_none : is_drawing line ≡ false) (told : Told) where
  -- a basic event of which nothing is told
  pub one-event : (event : core.Event) (after : ScriptedWorld) (left : WorldModel) → IsStep before (step_of event after) → Unfolds line before (step_of event after ∷ []) after → told_sent line before after ≡ [] → TellsShown line before []
      → after.world.operations ≡ before.world.operations → told ≡ record { sent = []; ends = []; shown = [] } → StandsFor left after → DoesIt line before told left
  one-event event after left is_step unfolds no_sent no_shown same none stands = record {
    steps = step_of event after ∷ [];
    after = after;
    fine = fine;
    spare = λ spent. absurd (true≢false (sym spent.0 ∙ draws_none));
    does = record {
      unfolds = unfolds;
      steps = (is_step, refl);
      tells = subst (λ (given : Told). Tells line before (step_of event after ∷ []) after given) (sym none) (record {
        sent = sym no_sent;
        ends = ([], [], refl, no_ends, refl);
        shown = no_shown;
      });
    };
    stands = stands;
  }
    where
      no_ends : AllZip TellsEnd (ended_from 1 before.world.operations after.world.operations) []
      no_ends = subst (λ (operations : List Operating). AllZip TellsEnd (ended_from 1 before.world.operations operations) []) (sym same)
          (subst (λ (ended : List Ended). AllZip TellsEnd ended []) (sym (none_ended 1 before.world.operations)) tt)

  -- no event, and something is shown
  pub no-event : (left : WorldModel) → Unfolds line before [] before → told_sent line before before ≡ told.sent → told.ends ≡ [] → TellsShown line before told.shown → StandsFor left before → DoesIt line before told left
  no-event left unfolds sent no_ends shown stands = record {
    steps = [];
    after = before;
    fine = fine;
    spare = λ spent. absurd (true≢false (sym spent.0 ∙ draws_none));
    does = record { unfolds = unfolds; steps = refl; tells = record { sent = sym sent; ends = no_ends; shown = shown } };
    stands = stands;
  }
