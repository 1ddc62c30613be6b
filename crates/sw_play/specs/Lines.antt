-- What one line of a script does to a world and to the text of what is told.
use Rattle.std.specs.Prelude.{◌≡◌, ◌⊎◌, ℕ, List, ◌++◌, Option, Some, None, Ok, Err}
use Rattle.sw_script.specs.Line.{event_of}
use Rattle.sw_script.specs.declared.event.Event.{Event}
use Rattle.sw_script.specs.declared.fault.LineFault.TheVariants.{NoDevice, NoMessage, NoOperation}
use Rattle.sw_sim_text.specs.Text.{told_text}
use Rattle.sw_sim_world.specs.declared.told.Told.{Told}
use Rattle.sw_sim_world.specs.Leading.{DoesIt, MayBeDone}
use Rattle.sw_sim_world.specs.ScriptedWorld.{ScriptedWorld}
use Rattle.sw_sim_world.specs.Standing.{StandsFor, WorldModel}
use Rattle.sw_sim_world.specs.Doing.{IsSpent, event_fault}
use Rattle.sw_sim_world.specs.declared.fault.StepFault.{StepFault}
use Rattle.sw_sim_world.specs.declared.fault.StepFault.TheVariants as step
use Rattle.sw_play.specs.declared.playing.LineStop.{LineStop}
use Rattle.sw_play.specs.declared.playing.LineStop.TheVariants.{Fault, Spent, NoMemory}

-- why a script stops at a line whose event a world does not do
abbrev pub stop_of : StepFault → LineStop
stop_of step.NoSuchMessage = Fault NoMessage
stop_of step.NoSuchDevice = Fault NoDevice
stop_of step.NoSuchOperation = Fault NoOperation
stop_of step.StampsSpent = Spent
stop_of step.NoMemory = NoMemory

-- an event was done, and what is told of it was added
pub record TellsEvent (before : ScriptedWorld) (event : Event) (left : WorldModel) (old new : List ℕ) : Type 0 where
  pub told : Told
  pub does : DoesIt event before told left
  pub text : new ≡ old ++ told_text told

-- the event of a line was, if it tells one
abbrev pub DoesOrBlank : Option Event → (before : ScriptedWorld) → (left : WorldModel) → (old new : List ℕ) → Type 0
DoesOrBlank None before left old new = StandsFor left before × (new ≡ old)
DoesOrBlank (Some event) before left old new = TellsEvent before event left old new

abbrev pub DoesLine : (before : ScriptedWorld) → (line : List ℕ) → (left : WorldModel) → (old new : List ℕ) → Type 0
DoesLine before line left old new = (event : Option Event) × (event_of line ≡ Ok event) × DoesOrBlank event before left old new

-- an event was not done: its line is faulty, the stamps are spent, or it has neither fault and memory was wanted
abbrev pub StopsEvent : (before : ScriptedWorld) → Event → LineStop → (old new : WorldModel) → Type 0
StopsEvent before event (Fault fault) old new = (event_fault before event ≡ Some fault) × (new ≡ old)
StopsEvent before event Spent old new = (event_fault before event ≡ None) × IsSpent before event × (new ≡ old)
StopsEvent before event NoMemory old new = MayBeDone before event

-- nor was that of a line, or the line tells none; memory is wanted only for a line that tells one
abbrev pub StopsLine : (before : ScriptedWorld) → List ℕ → LineStop → (old new : WorldModel) → Type 0
StopsLine before line (Fault fault) old new =
    ((event_of line ≡ Err fault) × (new ≡ old)) ⊎ ((event : Event) × (event_of line ≡ Ok (Some event)) × StopsEvent before event (Fault fault) old new)
StopsLine before line Spent old new = (event : Event) × (event_of line ≡ Ok (Some event)) × StopsEvent before event Spent old new
StopsLine before line NoMemory old new = (event : Event) × (event_of line ≡ Ok (Some event))
