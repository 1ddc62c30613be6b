-- Lines that start an operation, and may take it to its end, are done, or are at fault.
use Rattle.std.proofs.Common.{◌≡◌, ⊎_elim, ℕ, suc, ◌+◌, ◌≤◌, ◌↔◌, Bool, true≢false, if◌then◌else◌, Contains, List, [], ◌∷◌, ◌++◌, drop, length, map, slice_get, Some, None, Result, Err, IfErr, refl, sym, ap, ap₂, subst, ◌∙◌, append-nil, arith}
use Rattle.std.proofs.lemmas.Option.{slice_get_within}
use Rattle.sw_message.specs.declared.sent.Sent.{Sent}
use Rattle.sw_core.specs.Event.{Start, Starts}
use Rattle.sw_core.specs.World as worlds
use Rattle.sw_script.specs.declared.event.Event.TheVariants as event
use Rattle.sw_script.specs.declared.event.Job.{Job}
use Rattle.sw_script.specs.declared.event.Job.TheVariants as job
use Rattle.sw_script.specs.declared.fault.LineFault.TheVariants.{NoDevice}
use Rattle.sw_sim_exchange.specs.declared.lines.EndLine.{EndLine}
use Rattle.sw_sim_exchange.specs.declared.lines.SentLine.{SentLine}
use Rattle.sw_sim_exchange.specs.declared.lines.SentLine.TheVariants as told
use Rattle.sw_sim_exchange.specs.Letters.{letter_of, lines_from}
use Rattle.sw_sim_exchange.specs.declared.letter.Letter.{Letter}
use Rattle.sw_sim_world.specs.Doing.{IsSpent, job_fault}
use Rattle.sw_sim_world.specs.Leading.{DoesIt, FaultsBy, LeadsBy, LeadsByOne, MayBeDone}
use Rattle.sw_sim_world.specs.ScriptedWorld.{ScriptedWorld, count_of}
use Rattle.sw_sim_world.specs.Standing.{IsKeptOf, StandsFor, WorldModel}
use Rattle.sw_sim_world.specs.Unfolding.{RunsOut, job_of}
use Rattle.sw_sim_world.specs.declared.fault.StepFault.{StepFault}
use Rattle.sw_sim_world.specs.declared.fault.StepFault.TheVariants.{NoMemory, NoSuchDevice, NoSuchMessage, NoSuchOperation, StampsSpent}
use Rattle.sw_sim_world.proofs.MadeLines.{lines-made}
use Rattle.sw_sim_world.proofs.Slots.{behind-cases, mapped, zip-length}
use Rattle.sw_sim_world.proofs.Stretches.{step_of}

-- ---- faults

-- the line of a job that starts is not at fault
starts-fine : (before : ScriptedWorld) (one : Job) (after : worlds.World) → Starts (job_of one) before.world after → job_fault before.world.scene.cluster one ≡ None
starts-fine before (job.Put name object) after starts = refl
starts-fine before (job.Get name) after starts = refl
starts-fine before (job.Head name) after starts = refl
starts-fine before (job.Delete name) after starts = refl
starts-fine before (job.Recon device name) after starts = ap (λ (is : Bool). if is then None else Some NoDevice) starts.0

-- and a stamp is left for it
starts-spare : (before : ScriptedWorld) (one : Job) (after : worlds.World) → Starts (job_of one) before.world after → IsSpent before (event.Start one) → ⊥
starts-spare before (job.Put name object) after starts spent = omega (arith, starts.0, spent.1)
starts-spare before (job.Get name) after starts spent = true≢false (sym spent.0)
starts-spare before (job.Head name) after starts spent = true≢false (sym spent.0)
starts-spare before (job.Delete name) after starts spent = omega (arith, starts.0, spent.1)
starts-spare before (job.Recon device name) after starts spent = true≢false (sym spent.0)

-- so it may be done
pub start-may : (before : ScriptedWorld) (one : Job) (new : WorldModel) (first ends : List EndLine) → LeadsByOne (Start (job_of one)) before new first ends → MayBeDone before (event.Start one)
start-may before one new first ends leads = (starts-fine before one leads.after.world leads.is_step.happens, starts-spare before one leads.after.world leads.is_step.happens)

-- one that was not begun was not run
run-faults : (old new : WorldModel) (before : ScriptedWorld) (one : Job) (fault : StepFault) → FaultsBy (event.Start one) before fault old new → FaultsBy (event.Run one) before fault old new
run-faults old new before one NoSuchMessage is = is
run-faults old new before one NoSuchDevice is = is
run-faults old new before one NoSuchOperation is = is
run-faults old new before one StampsSpent is = is
run-faults old new before one NoMemory is = is

-- so the fault that came out of it is one of the run
pub not-run : {Answered : Type 0} (old new : WorldModel) (before : ScriptedWorld) (one : Job) (result : Result Answered StepFault) (fault cause : StepFault) → result ≡ Err fault → fault ≡ cause → FaultsBy (event.Start one) before cause old new
    → IfErr result (λ given. FaultsBy (event.Run one) before given old new)
not-run old new before one result fault cause is same faults =
    subst (λ (outcome : Result _ StepFault). IfErr outcome (λ given. FaultsBy (event.Run one) before given old new)) (sym (is ∙ ap Err same)) (run-faults old new before one cause faults)

module _ (model : WorldModel) (before : ScriptedWorld) (stands : StandsFor model before) (number : ℕ) (number_is : number ≡ suc (length model.operations)) where
  -- its number is the next
  as-counted : number ≡ count_of before + 1
  as-counted = omega (arith, number_is, zip-length IsKeptOf model.operations before.world.operations stands.operations)

  -- ---- lines that are done

  -- a start
  pub start-does : (one : Job) (new : WorldModel) (ends : List EndLine) → LeadsByOne (Start (job_of one)) before new [] ends
      → DoesIt (event.Start one) before (record { sent = told.Started number ∷ lines_from (suc (length model.letters)) (drop (length model.letters) new.letters); ends = ends; shown = [] }) new
  start-does one new ends leads = record {
    steps = step_of (Start (job_of one)) leads.after ∷ [];
    after = leads.after;
    fine = starts-fine before one leads.after.world leads.is_step.happens;
    spare = starts-spare before one leads.after.world leads.is_step.happens;
    does = record {
      unfolds = refl;
      steps = (leads.is_step, refl);
      tells = record {
        sent = ap₂ (λ (n : ℕ) (lines : List SentLine). told.Started n ∷ lines) as-counted (lines-made model new before leads.after stands leads.stands (λ message has.
            stands.within message (subst (λ (numbers : List ℕ). Contains numbers message) leads.is_step.delivered has)));
        ends = (leads.mine, [], leads.told ∙ sym (append-nil leads.mine), leads.ends, refl);
        shown = refl;
      };
    };
    stands = leads.stands;
  }

  -- and a start that ran out
  pub run-does : (one : Job) (middle new : WorldModel) (first ends : List EndLine) (leads : LeadsByOne (Start (job_of one)) before middle [] first) → LeadsBy (RunsOut number leads.after []) leads.after new first ends
      → DoesIt (event.Run one) before (record { sent = []; ends = ends; shown = [] }) new
  run-does one middle new first ends leads later = record {
    steps = step_of (Start (job_of one)) leads.after ∷ later.steps;
    after = later.after;
    fine = starts-fine before one leads.after.world leads.is_step.happens;
    spare = starts-spare before one leads.after.world leads.is_step.happens;
    does = record {
      unfolds = (refl, subst (λ (n : ℕ). RunsOut n leads.after [] later.steps) as-counted later.unfolded);
      steps = (leads.is_step, later.are_steps);
      tells = record {
        sent = refl;
        ends = (leads.mine, later.mine, later.told ∙ ap (λ (earlier : List EndLine). earlier ++ later.mine) leads.told, leads.ends, later.ends);
        shown = refl;
      };
    };
    stands = later.stands;
  }

  -- ---- its letters

  -- those behind the letters of before are its own
  pub own-letters : (sents : List Sent) (letters : List Letter) → letters ≡ model.letters ++ map (letter_of number) sents
      → (slot : ℕ) (letter : Letter) → slice_get letters slot ≡ Some letter → (letter.operation ≡ number) ↔ (length model.letters ≤ slot)
  own-letters sents letters same slot letter is = ⊎_elim
      (λ old. (
        (λ mine. absurd (omega (arith, mine, number_is, (stands.numbers slot letter old).1))),
        (λ behind. absurd (omega (arith, behind, slice_get_within model.letters slot letter old))),
      ))
      (λ new.
      let from = mapped (letter_of number) sents new.0 letter new.2 in
      ((λ mine. omega (arith, new.1)), (λ behind. ap (λ (that : Letter). that.operation) (sym from.2))))
      (behind-cases model.letters (map (letter_of number) sents) slot letter (subst (λ (all : List Letter). slice_get all slot ≡ Some letter) same is))
