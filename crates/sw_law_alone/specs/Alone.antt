-- A get beside which nothing else steps.
use Rattle.std.specs.Prelude.{◌≡◌, ℕ, ◌+◌, List, [], ◌∷◌, length, Some}
use Rattle.sw_types.specs.Name.{NameModel}
use Rattle.sw_ring.specs.Cluster.{ClusterModel}
use Rattle.sw_law_scene.specs.Scene.{Answer, Message, Request}
use Rattle.sw_core.specs.Event.{Deliver, Event, Get, GiveUp, Happens, Head, IsRun, Job, Start}
use Rattle.sw_core.specs.World.{World, numbered}

-- a message is of an operation: its request, or the reply to one
abbrev pub IsOf : ℕ → Message → Type 0
IsOf number (Request at operation sent) = operation ≡ number
IsOf number (Answer at operation sent reply) = operation ≡ number

-- a message of an operation is delivered, or it gives one up
pub data IsOwnEvent (world : World) (number : ℕ) : Event → Type 0 where
  Delivers : (message : ℕ) (posted : Message) → numbered world.scene.messages message ≡ Some posted → IsOf number posted → IsOwnEvent world number (Deliver message)
  GivesUp : (ticket : ℕ) → IsOwnEvent world number (GiveUp number ticket)

-- nothing but such events leads from one world to another
abbrev pub LeadsAlone : (number : ℕ) → (before : World) → List Event → (after : World) → Type 0
LeadsAlone number before [] after = after ≡ before
LeadsAlone number before (event ∷ events) after = IsOwnEvent before number event × (between : World) × Happens event before between × LeadsAlone number between events after

-- a get of a name, or a head
pub data IsReading : NameModel → Job → Type 0 where
  AGet : (name : NameModel) → IsReading name (Get name)
  AHead : (name : NameModel) → IsReading name (Head name)

-- In a run a get of a name starts, and nothing steps beside it.
pub record IsAlone (cluster : ClusterModel) (world : World) (number : ℕ) : Type 0 where
  pub earlier : List Event
  pub old : World
  pub run : IsRun cluster earlier old
  pub name : NameModel
  pub job : Job
  pub reads : IsReading name job
  pub started : World
  pub starts : Happens (Start job) old started
  pub number_is : number ≡ length old.operations + 1
  pub own : List Event
  pub leads : LeadsAlone number started own world
