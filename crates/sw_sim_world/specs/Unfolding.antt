-- The basic events of each form of a line, and what is told of them.
use Rattle.std.specs.Prelude.{◌≡◌, ◌⊎◌, ℕ, ◌+◌, Bool, true, not, ◌&&◌, if◌then◌else◌, List, [], ◌∷◌, ◌++◌, drop, length, map, Some, None, option_to_list}
use Rattle.std.specs.List.{AllZip}
use Rattle.sw_hashpath.specs.Place.{folder_of}
use Rattle.sw_ring.specs.Cluster.{place_of_name}
use Rattle.sw_message.specs.Step.{Folders}
use Rattle.sw_message.specs.declared.sent.Sent.{Sent}
use Rattle.sw_law_scene.specs.Disks.{Sure}
use Rattle.sw_law_scene.specs.Scene.{Answer, Message, Request, disk_of, is_up}
use Rattle.sw_core.specs.Event as core
use Rattle.sw_core.specs.World.{Operating, numbered}
use Rattle.sw_operation.specs.Ends.{IsEndOf}
use Rattle.sw_sim_nodes.specs.Crashing.{IsCut}
use Rattle.sw_script.specs.declared.event.Event.{Event}
use Rattle.sw_script.specs.declared.event.Event.TheVariants as event
use Rattle.sw_script.specs.declared.event.Job.{Job}
use Rattle.sw_script.specs.declared.event.Job.TheVariants as job
use Rattle.sw_sim_exchange.specs.Kinds.{answer_kind, request_kind}
use Rattle.sw_sim_exchange.specs.declared.lines.EndLine.{EndLine}
use Rattle.sw_sim_exchange.specs.declared.lines.SentLine.{SentLine}
use Rattle.sw_sim_exchange.specs.declared.lines.SentLine.TheVariants as told
use Rattle.sw_sim_world.specs.declared.told.ShowLine.{ShowLine}
use Rattle.sw_sim_world.specs.declared.told.Told.{Told}
use Rattle.sw_sim_world.specs.ScriptedWorld.{IsAny, IsLeast, IsOver, IsOwn, NoneWaits, ScriptedWorld, Step, count_of, events_in, open_tickets}
use Rattle.sw_sim_world.specs.Show.{IsShown}

-- what is started
abbrev pub job_of : Job → core.Job
job_of (job.Put name object) = core.Put name object
job_of (job.Get name) = core.Get name
job_of (job.Head name) = core.Head name
job_of (job.Delete name) = core.Delete name
job_of (job.Recon device name) = core.Recon device name

-- ---- basic events

-- the least message that waits is delivered, until none does
abbrev pub DeliversAll : (before : ScriptedWorld) → List Step → Type 0
DeliversAll before [] = NoneWaits IsAny before
DeliversAll before (step ∷ steps) = (message : ℕ) × IsLeast IsAny before message × (step.event ≡ core.Deliver message) × DeliversAll step.after steps

-- An operation's own messages are delivered, the least that waits first, until none does. Then it gives up, ticket by ticket, those that
-- have no reply; and so on, until it is over and none waits.
abbrev pub RunsOut : (number : ℕ) → (before : ScriptedWorld) → (tickets : List ℕ) → List Step → Type 0
RunsOut number before [] [] = IsOver number before × NoneWaits (IsOwn number) before
RunsOut number before (ticket ∷ tickets) [] = ⊥
RunsOut number before (ticket ∷ tickets) (step ∷ steps) = (step.event ≡ core.GiveUp number ticket) × RunsOut number step.after tickets steps
RunsOut number before [] (step ∷ steps) =
    ((message : ℕ) × IsLeast (IsOwn number) before message × (step.event ≡ core.Deliver message) × RunsOut number step.after [] steps)
    ⊎ (NoneWaits (IsOwn number) before × (ticket : ℕ) × (tickets : List ℕ) × (open_tickets number before ≡ ticket ∷ tickets)
    × (step.event ≡ core.GiveUp number ticket) × RunsOut number step.after tickets steps)

-- an operation starts and runs out
abbrev pub StartsAndRunsOut : Job → (before : ScriptedWorld) → List Step → Type 0
StartsAndRunsOut job before [] = ⊥
StartsAndRunsOut job before (step ∷ steps) = (step.event ≡ core.Start (job_of job)) × RunsOut (count_of before + 1) step.after [] steps

-- The device of a request is up: its disk is cut short after so many calls, and keeps so many changes.
pub record IsCutAt (before : ScriptedWorld) (message calls pick : ℕ) (after : ScriptedWorld) : Type 0 where
  pub cut : (at number : ℕ) (sent : Sent) (folders image : Folders) → numbered before.world.scene.messages message ≡ Some (Request at number sent) → is_up before.world.scene sent.device ≡ true →
      disk_of before.world.scene sent.device ≡ Sure folders → disk_of after.world.scene sent.device ≡ Sure image → IsCut before.world.scene.cluster sent.device sent.msg calls pick folders image

-- the basic events of a line
abbrev pub Unfolds : Event → (before : ScriptedWorld) → List Step → (after : ScriptedWorld) → Type 0
Unfolds (event.Run job) before steps after = StartsAndRunsOut job before steps
Unfolds (event.Start job) before steps after = events_in steps ≡ core.Start (job_of job) ∷ []
Unfolds (event.Deliver message) before steps after = events_in steps ≡ core.Deliver message ∷ []
Unfolds event.All before steps after = DeliversAll before steps
Unfolds (event.Crash message calls pick) before steps after = (events_in steps ≡ core.Crash message ∷ []) × IsCutAt before message calls pick after
Unfolds (event.Stop device) before steps after = events_in steps ≡ core.Stop device ∷ []
Unfolds (event.Restart device) before steps after = events_in steps ≡ core.Restart device ∷ []
Unfolds (event.Lose device) before steps after = events_in steps ≡ core.Lose device ∷ []
Unfolds (event.GiveUp number) before steps after = events_in steps ≡ map (core.GiveUp number) (open_tickets number before)
Unfolds (event.SetClock stamp) before steps after = events_in steps ≡ core.SetClock stamp ∷ []
Unfolds (event.Show device name) before steps after = steps ≡ []

-- ---- what is told

-- a message that was made
abbrev pub sent_line : (number : ℕ) → Message → List SentLine
sent_line number (Request at operation sent) = map (told.Request number operation sent.device) (option_to_list (request_kind sent.msg))
sent_line number (Answer at operation sent reply) = map (told.Answered number operation sent.device) (option_to_list (answer_kind reply))

abbrev pub sent_lines : (number : ℕ) → List Message → List SentLine
sent_lines number [] = []
sent_lines number (posted ∷ messages) = sent_line number posted ++ sent_lines (number + 1) messages

-- those that were made since
abbrev pub made_lines : (before after : ScriptedWorld) → List SentLine
made_lines before after = sent_lines (length before.world.scene.messages + 1) (drop (length before.world.scene.messages) after.world.scene.messages)

-- the short forms, and `all`, tell ends only
abbrev pub told_sent : Event → (before after : ScriptedWorld) → List SentLine
told_sent (event.Start job) before after = told.Started (count_of before + 1) ∷ made_lines before after
told_sent (event.Deliver message) before after = made_lines before after
told_sent (event.GiveUp number) before after = made_lines before after
told_sent other before after = []

-- an operation that is over, and its number
pub record Ended : Type 0 where
  pub number : ℕ
  pub operation : Operating

abbrev pub ended_if : Bool → ℕ → Operating → List Ended
ended_if is_new number operation = if is_new then record { number = number; operation = operation } ∷ [] else []

-- those that are over and were not; the first has this number
abbrev pub ended_from : (number : ℕ) → (before after : List Operating) → List Ended
ended_from number before [] = []
ended_from number [] (operation ∷ operations) = ended_if operation.is_over number operation ++ ended_from (number + 1) [] operations
ended_from number (old ∷ olds) (operation ∷ operations) = ended_if (operation.is_over && not old.is_over) number operation ++ ended_from (number + 1) olds operations

abbrev pub TellsEnd : Ended → EndLine → Type 0
TellsEnd ended line = (line.operation ≡ ended.number) × IsEndOf ended.operation.begun ended.operation.past line.end

-- the ends of operations are told, step by step
abbrev pub TellsEnds : (before : ScriptedWorld) → List Step → List EndLine → Type 0
TellsEnds before [] ends = ends ≡ []
TellsEnds before (step ∷ steps) ends = (mine others : List EndLine) × (ends ≡ mine ++ others)
    × AllZip TellsEnd (ended_from 1 before.world.operations step.after.world.operations) mine × TellsEnds step.after steps others

-- a device's directory of a name is shown
abbrev pub TellsShown : Event → (before : ScriptedWorld) → List ShowLine → Type 0
TellsShown (event.Show device name) before shown =
    (folders : Folders) × (disk_of before.world.scene device ≡ Sure folders) × IsShown device (folders (folder_of (place_of_name before.world.scene.cluster name))) shown
TellsShown other before shown = shown ≡ []

pub record Tells (told_event : Event) (before : ScriptedWorld) (steps : List Step) (after : ScriptedWorld) (told : Told) : Type 0 where
  pub sent : told.sent ≡ told_sent told_event before after
  pub ends : TellsEnds before steps told.ends
  pub shown : TellsShown told_event before told.shown
