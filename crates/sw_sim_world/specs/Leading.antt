-- How calls of a world lead it on.
use Rattle.std.specs.Prelude.{◌≡◌, ◌≤◌, ◌<◌, ℕ, true, List, [], ◌∷◌, ◌++◌, map, Option, Some, None}
use Rattle.std.specs.List.{AllZip}
use Rattle.sw_types.specs.Stamp.{greatest_stamp}
use Rattle.sw_archive.specs.Put.{IsPut}
use Rattle.sw_ring.specs.Cluster.{ClusterModel, place_of_name}
use Rattle.sw_message.specs.Message.{IsMember, is_primary}
use Rattle.sw_law_scene.specs.Moves.{next_stamp}
use Rattle.sw_core.specs.Event as core
use Rattle.sw_operation.specs.Operating.{Begun, Delete, Get, Head, Put, recon_of}
use Rattle.sw_script.specs.declared.event.Event.{Event}
use Rattle.sw_script.specs.declared.event.Job.{Job}
use Rattle.sw_script.specs.declared.event.Job.TheVariants as job
use Rattle.sw_script.specs.declared.fault.LineFault.TheVariants.{NoDevice, NoMessage, NoOperation}
use Rattle.sw_sim_exchange.specs.declared.lines.EndLine.{EndLine}
use Rattle.sw_sim_world.specs.declared.told.Told.{Told}
use Rattle.sw_sim_world.specs.ScriptedWorld.{AreSteps, IsAny, IsStep, ScriptedWorld, Step, Waits, events_in, open_tickets}
use Rattle.sw_sim_world.specs.Standing.{StandsFor, WorldModel}
use Rattle.sw_sim_world.specs.Doing.{DoesEvent, IsSpent, draws, event_fault, job_fault}
use Rattle.sw_sim_world.specs.Unfolding.{TellsEnd, TellsEnds, ended_from}
use Rattle.sw_sim_world.specs.declared.fault.StepFault.{StepFault}
use Rattle.sw_sim_world.specs.declared.fault.StepFault.TheVariants.{NoMemory, NoSuchDevice, NoSuchMessage, NoSuchOperation, StampsSpent}

-- a basic event happened, and the ends of it were added
pub record LeadsByOne (event : core.Event) (before : ScriptedWorld) (left : WorldModel) (old new : List EndLine) : Type 0 where
  pub after : ScriptedWorld
  pub is_step : IsStep before (record { event = event; after = after })
  pub mine : List EndLine
  pub told : new ≡ old ++ mine
  pub ends : AllZip TellsEnd (ended_from 1 before.world.operations after.world.operations) mine
  pub stands : StandsFor left after

-- some did, of this kind
pub record LeadsBy (Unfolded : List Step → Type 0) (before : ScriptedWorld) (left : WorldModel) (old new : List EndLine) : Type 0 where
  pub steps : List Step
  pub after : ScriptedWorld
  pub are_steps : AreSteps before steps after
  pub unfolded : Unfolded steps
  pub mine : List EndLine
  pub told : new ≡ old ++ mine
  pub ends : TellsEnds before steps mine
  pub stands : StandsFor left after

-- ---- several basic events

-- the message that waits and is the least of those above a number
pub record IsLeastFrom (from : ℕ) (scripted : ScriptedWorld) (message : ℕ) : Type 0 where
  pub above : from < message
  pub waits : Waits IsAny scripted message
  pub least : (other : ℕ) → from < other → other < message → Waits IsAny scripted other → ⊥

-- it is delivered, until none waits
abbrev pub DeliversFrom : (from : ℕ) → (before : ScriptedWorld) → List Step → Type 0
DeliversFrom from before [] = (message : ℕ) → from < message → Waits IsAny before message → ⊥
DeliversFrom from before (step ∷ steps) = (message : ℕ) × IsLeastFrom from before message × (step.event ≡ core.Deliver message) × DeliversFrom from step.after steps

-- an operation gives up each ticket that is open
abbrev pub GivesUpOpen : (number : ℕ) → (before : ScriptedWorld) → List Step → Type 0
GivesUpOpen number before steps = events_in steps ≡ map (core.GiveUp number) (open_tickets number before)

-- ---- beginnings

-- what a job is begun with in a world with this clock and this last stamp, and which is the last then
abbrev pub IsBegunBy : ClusterModel → (clock : ℕ) → (last : Option ℕ) → Job → Begun → (later : Option ℕ) → Type 0
IsBegunBy cluster clock last (job.Put name object) begun later =
    (next_stamp clock last ≤ greatest_stamp) × IsPut cluster.policy (next_stamp clock last) name object
    × (begun ≡ Put (record { cluster = cluster; stamp = next_stamp clock last; name = name; object = object })) × (later ≡ Some (next_stamp clock last))
IsBegunBy cluster clock last (job.Delete name) begun later =
    (next_stamp clock last ≤ greatest_stamp)
    × (begun ≡ Delete (record { cluster = cluster; stamp = next_stamp clock last; name = name })) × (later ≡ Some (next_stamp clock last))
IsBegunBy cluster clock last (job.Get name) begun later = (begun ≡ Get (record { cluster = cluster; name = name })) × (later ≡ last)
IsBegunBy cluster clock last (job.Head name) begun later = (begun ≡ Head (record { cluster = cluster; name = name })) × (later ≡ last)
IsBegunBy cluster clock last (job.Recon device name) begun later =
    IsMember cluster device × (begun ≡ recon_of (is_primary cluster device (place_of_name cluster name)) cluster device name) × (later ≡ last)

-- why a job is not begun; the world is as before, unless memory was wanted
abbrev pub IsNotBegun : ClusterModel → (clock : ℕ) → (last : Option ℕ) → Job → StepFault → (old new : WorldModel) → Type 0
IsNotBegun cluster clock last job NoSuchDevice old new = (job_fault cluster job ≡ Some NoDevice) × (new ≡ old)
IsNotBegun cluster clock last job StampsSpent old new = (job_fault cluster job ≡ None) × (draws job ≡ true) × (greatest_stamp < next_stamp clock last) × (new ≡ old)
IsNotBegun cluster clock last job NoMemory old new = (job_fault cluster job ≡ None) × (draws job ≡ true → next_stamp clock last ≤ greatest_stamp)
IsNotBegun cluster clock last job fault old new = ⊥

-- ---- lines

-- the event of a line was done
pub record DoesIt (event : Event) (before : ScriptedWorld) (told : Told) (left : WorldModel) : Type 0 where
  pub steps : List Step
  pub after : ScriptedWorld
  pub fine : event_fault before event ≡ None
  pub spare : IsSpent before event → ⊥
  pub does : DoesEvent before (record { event = event; steps = steps; told = told; after = after })
  pub stands : StandsFor left after

-- the line of an event has no fault in the world, and a stamp is left for it
abbrev pub MayBeDone : ScriptedWorld → Event → Type 0
MayBeDone before event = (event_fault before event ≡ None) × (IsSpent before event → ⊥)

-- it was not: its line has a fault in the world, or the stamps are spent, and the world is as before; or none of these, and memory was
-- wanted
abbrev pub FaultsBy : Event → (before : ScriptedWorld) → StepFault → (old new : WorldModel) → Type 0
FaultsBy event before NoSuchMessage old new = (event_fault before event ≡ Some NoMessage) × (new ≡ old)
FaultsBy event before NoSuchDevice old new = (event_fault before event ≡ Some NoDevice) × (new ≡ old)
FaultsBy event before NoSuchOperation old new = (event_fault before event ≡ Some NoOperation) × (new ≡ old)
FaultsBy event before StampsSpent old new = (event_fault before event ≡ None) × IsSpent before event × (new ≡ old)
FaultsBy event before NoMemory old new = MayBeDone before event
