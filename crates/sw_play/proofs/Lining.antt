-- The event of a line, done or not.
use Rattle.std.proofs.Common.{◌≡◌, inr, List, Some, Result, Ok, Err, ℕ, refl, subst, sym, ◌∙◌}
use Rattle.std.specs.Prelude.{IfErr, OnOk, ⊤}
use Rattle.sw_script.specs.Line.{event_of}
use Rattle.sw_script.specs.declared.event.Event.{Event}
use Rattle.sw_sim_world.specs.Leading.{FaultsBy}
use Rattle.sw_play.specs.Lines.{DoesLine, StopsEvent, StopsLine, TellsEvent, stop_of}
use Rattle.sw_sim_world.specs.ScriptedWorld.{ScriptedWorld}
use Rattle.sw_sim_world.specs.Standing.{WorldModel}
use Rattle.sw_sim_world.specs.declared.fault.StepFault.{StepFault}
use Rattle.sw_sim_world.specs.declared.fault.StepFault.TheVariants as step
use Rattle.sw_play.specs.declared.playing.LineStop.{LineStop}
use Rattle.sw_play.specs.declared.playing.LineStop.TheVariants.{Fault, Spent, NoMemory}

-- ---- an event that a world does not do

module _ (before : ScriptedWorld) (event : Event) (old new : WorldModel) where
  stops_by : (fault : StepFault) → FaultsBy event before fault old new → StopsEvent before event (stop_of fault) old new
  stops_by step.NoSuchMessage faults = faults
  stops_by step.NoSuchDevice faults = faults
  stops_by step.NoSuchOperation faults = faults
  stops_by step.StampsSpent faults = faults
  stops_by step.NoMemory faults = faults

  pub stops_event : (fault : StepFault) (stop : LineStop) → stop ≡ stop_of fault → FaultsBy event before fault old new → StopsEvent before event stop old new
  stops_event fault stop is faults = subst (λ (one : LineStop). StopsEvent before event one old new) (sym is) (stops_by fault faults)

stop_wants : (fault : StepFault) → stop_of fault ≡ NoMemory → fault ≡ step.NoMemory
stop_wants step.NoSuchMessage wants = absurd (cc)
stop_wants step.NoSuchDevice wants = absurd (cc)
stop_wants step.NoSuchOperation wants = absurd (cc)
stop_wants step.StampsSpent wants = absurd (cc)
stop_wants step.NoMemory wants = refl

pub wants_memory : (fault : StepFault) (stop : LineStop) → stop ≡ stop_of fault → stop ≡ NoMemory → fault ≡ step.NoMemory
wants_memory fault stop is wants = stop_wants fault (sym is ∙ wants)

-- ---- the line of an event

module _ (before : ScriptedWorld) (line : List ℕ) (event : Event) (read : event_of line ≡ Ok (Some event)) (old new : WorldModel) where
  -- what its event does
  pub event_line : (text more : List ℕ) (result : Result ⊤ LineStop) → OnOk result (TellsEvent before event new text more) → OnOk result (DoesLine before line new text more)
  event_line text more (Ok done) does = (Some event, read, does)
  event_line text more (Err stop) does = tt

  -- or why it stops
  pub event_stop : (result : Result ⊤ LineStop) → IfErr result (λ stop. StopsEvent before event stop old new) → IfErr result (λ stop. StopsLine before line stop old new)
  event_stop (Ok done) stops = tt
  event_stop (Err (Fault fault)) stops = inr (event, read, stops)
  event_stop (Err Spent) stops = (event, read, stops)
  event_stop (Err NoMemory) stops = (event, read)
