-- A world as a script leads it: which of its messages were delivered, and the steps of a line.
use Rattle.std.specs.Prelude.{◌≡◌, ℕ, ◌<◌, true, if◌then◌else◌, List, [], ◌∷◌, Contains, length, map, reverse, Option, Some, None}
use Rattle.sw_ring.specs.Cluster.{ClusterModel}
use Rattle.sw_message.specs.Transcript.{opens}
use Rattle.sw_message.specs.declared.sent.Sent.{Sent}
use Rattle.sw_law_scene.specs.Scene.{Answer, Message, Request}
use Rattle.sw_core.specs.Event.{Crash, Deliver, Event, Happens}
use Rattle.sw_core.specs.World.{Operating, World, empty_world, numbered}

pub record ScriptedWorld : Type 0 where
  pub world : World
  -- the numbers of the messages that were delivered, the latest first
  pub delivered : List ℕ

abbrev pub empty_script : ClusterModel → ScriptedWorld
empty_script cluster = record { world = empty_world cluster; delivered = [] }

-- ---- steps

abbrev pub delivered_by : Event → List ℕ → List ℕ
delivered_by (Deliver message) delivered = message ∷ delivered
delivered_by (Crash message) delivered = message ∷ delivered
delivered_by other delivered = delivered

-- a basic event, and where it led
pub record Step : Type 0 where
  pub event : Event
  pub after : ScriptedWorld

pub record IsStep (before : ScriptedWorld) (step : Step) : Type 0 where
  pub happens : Happens step.event before.world step.after.world
  pub delivered : step.after.delivered ≡ delivered_by step.event before.delivered

-- these steps lead from one to another, the first of them first
abbrev pub AreSteps : (before : ScriptedWorld) → List Step → (after : ScriptedWorld) → Type 0
AreSteps before [] after = after ≡ before
AreSteps before (step ∷ steps) after = IsStep before step × AreSteps step.after steps after

abbrev pub events_in : List Step → List Event
events_in steps = map (λ (step : Step). step.event) steps

-- ---- messages that wait

abbrev pub operation_of : Message → ℕ
operation_of (Request at operation sent) = operation
operation_of (Answer at operation sent reply) = operation

abbrev pub IsOwn : ℕ → Message → Type 0
IsOwn operation posted = operation_of posted ≡ operation

abbrev pub IsAny : Message → Type 0
IsAny posted = posted ≡ posted

-- there is such a message of this number, and it was not delivered
pub record Waits (Such : Message → Type 0) (scripted : ScriptedWorld) (message : ℕ) : Type 0 where
  pub posted : Message
  pub there : numbered scripted.world.scene.messages message ≡ Some posted
  pub such : Such posted
  pub fresh : Contains scripted.delivered message → ⊥

-- it is the least of them
pub record IsLeast (Such : Message → Type 0) (scripted : ScriptedWorld) (message : ℕ) : Type 0 where
  pub waits : Waits Such scripted message
  pub least : (other : ℕ) → other < message → Waits Such scripted other → ⊥

abbrev pub NoneWaits : (Such : Message → Type 0) → ScriptedWorld → Type 0
NoneWaits Such scripted = (message : ℕ) → Waits Such scripted message → ⊥

-- ---- operations

abbrev pub count_of : ScriptedWorld → ℕ
count_of scripted = length scripted.world.operations

-- the tickets of an operation's open messages, ascending; one that is over has none
abbrev pub tickets_in : Option Operating → List ℕ
tickets_in None = []
tickets_in (Some operation) = if operation.is_over then [] else reverse (map (λ (sent : Sent). sent.ticket) (opens operation.past))

abbrev pub open_tickets : ℕ → ScriptedWorld → List ℕ
open_tickets number scripted = tickets_in (numbered scripted.world.operations number)

abbrev pub IsOver : ℕ → ScriptedWorld → Type 0
IsOver number scripted = (operation : Operating) × (numbered scripted.world.operations number ≡ Some operation) × (operation.is_over ≡ true)
