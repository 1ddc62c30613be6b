-- What may happen to a world: the basic events, and the worlds that lists of them lead to.
use Rattle.std.specs.Prelude.{◌≡◌, ◌≤◌, ℕ, ◌+◌, Bool, true, false, MatchBool, List, [], ◌∷◌, ◌++◌, length, Option, Some, None}
use Rattle.sw_types.specs.Name.{NameModel}
use Rattle.sw_types.specs.Object.{ObjectModel}
use Rattle.sw_types.specs.Stamp.{greatest_stamp}
use Rattle.sw_archive.specs.Put.{IsPut}
use Rattle.sw_ring.specs.Cluster.{ClusterModel, KeepsRules, ids_of, place_of_name}
use Rattle.sw_ring.specs.Ring.{is_among}
use Rattle.sw_message.specs.Message.{IsMember, is_primary}
use Rattle.sw_message.specs.Transcript.{Step, after_answer}
use Rattle.sw_message.specs.declared.reply.Reply.{Reply}
use Rattle.sw_message.specs.declared.sent.Sent.{Sent}
use Rattle.sw_law_scene.specs.Moves.{Crashes, CrashesMounting, Fails, Handles, Restarts, books, lost, marks, next_stamp, sends, stopped, ticked}
use Rattle.sw_law_scene.specs.Scene.{Answer, Message, Request, Scene, is_down, is_up}
use Rattle.sw_operation.specs.Operating.{Begun, Delete as DeleteBegun, Get as GetBegun, Head as HeadBegun, Put as PutBegun, recon_of}
use Rattle.sw_core.specs.World.{GoesOn, Operating, World, empty_world, numbered, with_numbered}

-- what is started
pub data Job : Type 0 where
  Put : (name : NameModel) → (object : ObjectModel) → Job
  Get : (name : NameModel) → Job
  Head : (name : NameModel) → Job
  Delete : (name : NameModel) → Job
  -- of a device's reconstructor: a sync where it is a primary of the name's place, and else a revert
  Recon : (device : ℕ) → (name : NameModel) → Job

pub data Event : Type 0 where
  Start : (job : Job) → Event
  -- of any message that was ever made, also again
  Deliver : (message : ℕ) → Event
  -- within the handling of a request
  Crash : (message : ℕ) → Event
  Fault : (message : ℕ) → Event
  -- of a device
  CrashMount : (device : ℕ) → Event
  Stop : (device : ℕ) → Event
  Restart : (device : ℕ) → Event
  Lose : (device : ℕ) → Event
  -- of one message of an operation
  GiveUp : (operation ticket : ℕ) → Event
  SetClock : (stamp : ℕ) → Event

-- ---- scenes

abbrev pub with_scene : Scene → World → World
with_scene scene world = record world { scene = scene }

-- nothing changes but time
abbrev pub idle : World → World
idle world = with_scene (ticked world.scene) world

-- where that may be something happens to the scene, and else nothing
abbrev pub OnScene : Bool → (Scene → Type 0) → (before after : World) → Type 0
OnScene true does before after = (scene : Scene) × does scene × (after ≡ with_scene scene before)
OnScene false does before after = after ≡ idle before

-- something happens to a request, at its device if that is up
abbrev pub OnRequest : Option Message → (ℕ → Sent → Scene → Type 0) → (before after : World) → Type 0
OnRequest None does before after = after ≡ idle before
OnRequest (Some (Answer at operation sent reply)) does before after = after ≡ idle before
OnRequest (Some (Request at operation sent)) does before after = OnScene (is_up before.scene sent.device) (does operation sent) before after

-- ---- operations

-- An operation goes on from a transcript, and what it hands out is made as messages.
pub record Proceeds (before : World) (number : ℕ) (operation : Operating) (past : List Step) (after : World) : Type 0 where
  pub sents : List Sent
  pub later : Operating
  pub goes_on : GoesOn operation past sents later
  pub after_is : after ≡ record before { scene = sends number sents before.scene; operations = with_numbered number later before.operations }

-- An answer comes for a ticket of an operation, or it is given up. One that is over takes none.
abbrev pub TakesAnswer : Option Operating → (number ticket : ℕ) → Option Reply → (before after : World) → Type 0
TakesAnswer None number ticket answer before after = after ≡ idle before
TakesAnswer (Some operation) number ticket answer before after =
    MatchBool operation.is_over (after ≡ idle before) (Proceeds before number operation (after_answer operation.past ticket answer) after)

-- a request comes to its device, and a reply to its operation
abbrev pub Comes : Option Message → (before after : World) → Type 0
Comes None before after = after ≡ idle before
Comes (Some (Request at operation sent)) before after = OnScene (is_up before.scene sent.device) (Handles before.scene operation sent) before after
Comes (Some (Answer at operation sent reply)) before after = TakesAnswer (numbered before.operations operation) operation sent.ticket (Some reply) before after

-- ---- starts

-- the stamp that is drawn next
abbrev pub stamp_in : World → ℕ
stamp_in world = next_stamp world.clock world.scene.last

abbrev pub begins : Begun → World → Operating
begins begun world = record { begun = begun; start = world.scene.now; past = []; is_over = false }

-- an operation begins in a scene, and goes on
abbrev pub Begins : Begun → Scene → (before after : World) → Type 0
Begins begun scene before after =
    Proceeds (record before { scene = scene; operations = before.operations ++ begins begun before ∷ [] }) (length before.operations + 1) (begins begun before) [] after

-- A put and a delete draw a stamp; where none is left, they don't start.
abbrev pub Starts : Job → (before after : World) → Type 0
Starts (Put name object) before after =
    (stamp_in before ≤ greatest_stamp) × IsPut before.scene.cluster.policy (stamp_in before) name object
    × Begins (PutBegun (record { cluster = before.scene.cluster; stamp = stamp_in before; name = name; object = object })) (books (stamp_in before) name object before.scene) before after
Starts (Delete name) before after =
    (stamp_in before ≤ greatest_stamp)
    × Begins (DeleteBegun (record { cluster = before.scene.cluster; stamp = stamp_in before; name = name })) (marks (stamp_in before) name before.scene) before after
Starts (Get name) before after = Begins (GetBegun (record { cluster = before.scene.cluster; name = name })) before.scene before after
Starts (Head name) before after = Begins (HeadBegun (record { cluster = before.scene.cluster; name = name })) before.scene before after
Starts (Recon device name) before after =
    IsMember before.scene.cluster device
    × Begins (recon_of (is_primary before.scene.cluster device (place_of_name before.scene.cluster name)) before.scene.cluster device name) before.scene before after

-- ---- events

-- what an event may do to a world
abbrev pub Happens : Event → (before after : World) → Type 0
Happens (Start job) before after = Starts job before after
Happens (Deliver message) before after = Comes (numbered before.scene.messages message) before after
Happens (Crash message) before after = OnRequest (numbered before.scene.messages message) (λ operation sent. Crashes before.scene sent) before after
Happens (Fault message) before after = OnRequest (numbered before.scene.messages message) (λ operation sent. Fails before.scene operation sent) before after
Happens (CrashMount device) before after = OnScene (is_down before.scene device) (CrashesMounting before.scene device) before after
Happens (Stop device) before after = OnScene (is_up before.scene device) (λ scene. scene ≡ stopped device before.scene) before after
Happens (Restart device) before after = OnScene (is_down before.scene device) (Restarts before.scene device) before after
Happens (Lose device) before after = OnScene (is_among (ids_of before.scene.cluster) device) (λ scene. scene ≡ lost device before.scene) before after
Happens (GiveUp operation ticket) before after = TakesAnswer (numbered before.operations operation) operation ticket None before after
Happens (SetClock stamp) before after = (stamp ≤ greatest_stamp) × (after ≡ record (idle before) { clock = stamp })

-- these events lead from one world to another, the first of them first
abbrev pub Lead : (before : World) → List Event → (after : World) → Type 0
Lead before [] after = after ≡ before
Lead before (event ∷ events) after = (between : World) × Happens event before between × Lead between events after

-- a run of a cluster that keeps the rules: these events lead to that world
pub record IsRun (cluster : ClusterModel) (events : List Event) (world : World) : Type 0 where
  pub rules : KeepsRules cluster
  pub lead : Lead (empty_world cluster) events world
