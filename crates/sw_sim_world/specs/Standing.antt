-- What contracts see of a world, and the world of a script that it stands for.
use Rattle.std.specs.Prelude.{◌≡◌, ◌↔◌, ◌≤◌, ◌<◌, ℕ, suc, Bool, true, false, not, List, Contains, length, slice_get, Option, Some, None}
use Rattle.std.specs.List.{AllZip}
use Rattle.sw_ring.specs.Cluster.{ClusterModel}
use Rattle.sw_ring.specs.Ring.{is_among}
use Rattle.sw_message.specs.Message.{IsMember}
use Rattle.sw_message.specs.Running.{IsOf}
use Rattle.sw_message.specs.Step.{Folders}
use Rattle.sw_message.specs.Transcript.{open_at}
use Rattle.sw_message.specs.declared.reply.Reply.{Reply}
use Rattle.sw_message.specs.declared.sent.Sent.{Sent}
use Rattle.sw_law_scene.specs.Disks.{Sure}
use Rattle.sw_law_scene.specs.Scene.{Answer, Message, Request, disk_of}
use Rattle.sw_core.specs.Event.{Event}
use Rattle.sw_core.specs.Event as core
use Rattle.sw_operation.specs.Operating.{cluster_of}
use Rattle.sw_core.specs.World as worlds
use Rattle.sw_sim_nodes.specs.Nodes.{MemNode, devices_of}
use Rattle.sw_sim_exchange.specs.Exchange.{ExchangeModel}
use Rattle.sw_sim_exchange.specs.Kept.{IsKeptAt}
use Rattle.sw_sim_world.specs.ScriptedWorld.{ScriptedWorld}
use Rattle.sw_sim_exchange.specs.declared.letter.Content.TheVariants as content
use Rattle.sw_sim_exchange.specs.declared.letter.Letter.{Letter}
use Rattle.sw_sim_exchange.specs.declared.operating.Operating.{Operating}

pub record WorldModel : Type 0 where
  pub cluster : ClusterModel
  pub nodes : List MemNode
  -- the devices that are down
  pub down : List ℕ
  -- memory was wanted, so it answers nothing else from then on
  pub is_wanting : Bool
  pub clock : ℕ
  pub last : Option ℕ
  pub letters : List Letter
  -- so many of the first letters were delivered
  pub first : ℕ
  pub operations : List Operating

abbrev pub exchange_of : WorldModel → ExchangeModel
exchange_of model = record { letters = model.letters; operations = model.operations }

-- ---- messages

-- a letter is kept of a message
abbrev pub IsLetterOf : Letter → Message → Type 0
IsLetterOf letter (Request at operation sent) =
    (letter.operation ≡ operation) × (letter.ticket ≡ sent.ticket) × (letter.device ≡ sent.device) × (letter.content ≡ content.Request sent.msg)
IsLetterOf letter (Answer at operation sent reply) =
    (letter.operation ≡ operation) × (letter.ticket ≡ sent.ticket) × (letter.device ≡ sent.device)
    × (kept : Option Reply) × (letter.content ≡ content.Answer kept) × (letter.is_delivered ≡ false → kept ≡ Some reply)

-- the letter of a number is marked as delivered where the message was
abbrev pub AreMarked : List Letter → List ℕ → Type 0
AreMarked letters delivered = (slot : ℕ) (letter : Letter) → slice_get letters slot ≡ Some letter → (letter.is_delivered ≡ true) ↔ Contains delivered (suc slot)

-- ---- operations

-- what is kept of an operation: nothing once it is over, and else one that waits
pub record IsKeptOf (kept : Operating) (operation : worlds.Operating) : Type 0 where
  pub is_at : IsKeptAt kept operation.begun operation.past operation.is_over
  pub rests : worlds.Rests operation.begun operation.past operation.is_over

-- a message that its operation may be told no more of: it is over, or the ticket is closed
abbrev pub IsClosed : Option worlds.Operating → (ticket : ℕ) → Type 0
IsClosed None ticket = ticket ≡ ticket
IsClosed (Some operation) ticket = operation.is_over ≡ false → open_at ticket operation.past ≡ None

-- ---- devices

-- the files of a device are those of its node, and it is up or down
pub record IsDeviceOf (model : WorldModel) (scripted : ScriptedWorld) (device : ℕ) : Type 0 where
  pub folders : Folders
  pub sure : disk_of scripted.world.scene device ≡ Sure folders
  pub same : (name : List ℕ) → folders name ≡ devices_of model.nodes device name
  pub is_up : (scripted.world.scene.devices device).is_up ≡ not (is_among model.down device)

-- ---- a world

-- A world of the program stands for one that some basic events led to.
pub record StandsFor (model : WorldModel) (scripted : ScriptedWorld) : Type 0 where
  pub goes_on : model.is_wanting ≡ false
  pub events : List Event
  pub run : core.IsRun model.cluster events scripted.world
  pub cluster_is : scripted.world.scene.cluster ≡ model.cluster
  pub clock_is : scripted.world.clock ≡ model.clock
  pub last_is : scripted.world.scene.last ≡ model.last
  pub devices : (device : ℕ) → IsMember model.cluster device → IsDeviceOf model scripted device
  pub letters : AllZip IsLetterOf model.letters scripted.world.scene.messages
  pub marked : AreMarked model.letters scripted.delivered
  pub within : (message : ℕ) → Contains scripted.delivered message → message ≤ length model.letters
  pub first : model.first ≤ length model.letters
  pub delivered : (slot : ℕ) (letter : Letter) → slot < model.first → slice_get model.letters slot ≡ Some letter → letter.is_delivered ≡ true
  pub operations : AllZip IsKeptOf model.operations scripted.world.operations
  pub clusters : (number : ℕ) (operation : worlds.Operating) → worlds.numbered scripted.world.operations number ≡ Some operation → cluster_of operation.begun ≡ model.cluster
  -- each request may be sent, and a reply that was delivered is told no more
  pub requests : (at number : ℕ) (sent : Sent) → Contains scripted.world.scene.messages (Request at number sent) → IsOf model.cluster sent.device sent.msg
  pub numbers : (slot : ℕ) (letter : Letter) → slice_get model.letters slot ≡ Some letter → (0 < letter.operation) × (letter.operation ≤ length model.operations)
  pub closed : (slot at number : ℕ) (sent : Sent) (reply : Reply) → slice_get scripted.world.scene.messages slot ≡ Some (Answer at number sent reply) → Contains scripted.delivered (suc slot) →
      IsClosed (worlds.numbered scripted.world.operations number) sent.ticket

-- it stands for some world
abbrev pub Stands : WorldModel → Type 0
Stands model = (scripted : ScriptedWorld) × StandsFor model scripted

-- and does so as long as memory was not wanted
abbrev pub IsWorld : WorldModel → Type 0
IsWorld model = model.is_wanting ≡ false → Stands model
