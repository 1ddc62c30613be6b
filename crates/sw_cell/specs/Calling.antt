-- What a call of a node behind its lock adds to the history of its device, and what the caller knows then.
use Rattle.std.specs.Prelude.{◌≡◌, ◌⊎◌, ℕ, Bool, true, false, List, ◌∷◌, Option, Some, None}
use Rattle.sw_ring.specs.Cluster.{ClusterModel}
use Rattle.sw_message.specs.Warrant.{IsWarranted}
use Rattle.sw_message.specs.declared.message.Msg.{Msg}
use Rattle.sw_message.specs.declared.reply.Reply.{Reply}
use Rattle.sw_message.specs.declared.reply.Reply.TheVariants.{DiskFault, NoMemory}
use Rattle.sw_objsrv.specs.declared.fault.MountFault.{MountFault}
use Rattle.sw_objsrv.specs.declared.fault.MountFault.TheVariants as fault
use Rattle.sw_view.specs.History.{Continues}
use Rattle.sw_view.specs.View.{known_to}
use Rattle.sw_view.specs.declared.event.Event.{Event}
use Rattle.sw_view.specs.declared.event.Event.TheVariants.{Faulted, Handled, Mounted}
use Rattle.sw_pass.specs.Known.{history, view_of}
use Rattle.sw_pass.specs.declared.known.Known.{Known}
use Rattle.sw_cell.specs.Learning.{HasLearnt}

-- over a disk that tells nothing each event is a mount, which asks nothing of what the disk holds
abbrev pub shown : (tells : Bool) → Event → Event
shown true event = event
shown false event = Mounted

-- a device replied to a message, or failed at it
abbrev pub event_of : Msg → Reply → Event
event_of msg DiskFault = Faulted msg
event_of msg reply = Handled msg reply

-- the history once the device has replied to a message; where memory was wanted nothing happened
abbrev pub replied_events : (tells : Bool) → Msg → Reply → List Event → List Event
replied_events tells msg NoMemory events = events
replied_events tells msg reply events = shown tells (event_of msg reply) ∷ events

-- the device mounted its places before a message, or failed at that
abbrev pub mount_event : (tells : Bool) → Msg → Option MountFault → Event
mount_event tells msg None = Mounted
mount_event tells msg (Some reason) = shown tells (Faulted msg)

-- the history behind that; where memory was wanted nothing happened
abbrev pub remounted_events : (tells : Bool) → Msg → Option MountFault → List Event → List Event
remounted_events tells msg (Some fault.NoMemory) events = events
remounted_events tells msg other events = mount_event tells msg other ∷ events

-- What a device adds to its history for a message: where a mount was due, that and the reply, or only that the mount failed, or nothing where memory
-- was wanted for it; else the reply alone.
abbrev pub HasReplied : (tells is_due : Bool) → Msg → Reply → (past events : List Event) → Type 0
HasReplied tells false msg reply past events = events ≡ replied_events tells msg reply past
HasReplied tells true msg reply past events =
    (events ≡ replied_events tells msg reply (Mounted ∷ past)) ⊎ ((reply ≡ DiskFault) × (events ≡ shown tells (Faulted msg) ∷ past)) ⊎ ((reply ≡ NoMemory) × (events ≡ past))

-- What had happened at the device, and maybe a mount; behind that the reply.
pub record IsRepliedTo (tells : Bool) (msg : Msg) (reply : Reply) (past events : List Event) : Type 0 where
  pub middle : List Event
  pub mounted : (middle ≡ past) ⊎ (middle ≡ Mounted ∷ past)
  pub latest : events ≡ replied_events tells msg reply middle

-- What a call tells of the seat that made it: what it has learnt, and that the device's history goes on from what the seat knew of it, up to
-- the reply.
pub record IsCalled (cluster : ClusterModel) (tells : Bool) (slot : ℕ) (msg : Msg) (reply : Reply) (before after : Known) : Type 0 where
  pub learnt : HasLearnt cluster before after
  pub past : List Event
  pub later : Continues past (history before.histories slot)
  pub replied : IsRepliedTo tells msg reply past (history after.histories slot)

-- a message is warranted by what a seat knows, where the disk tells what it holds
abbrev pub MayCall : ClusterModel → (tells : Bool) → Msg → Known → Type 0
MayCall cluster tells msg known = tells ≡ true → IsWarranted cluster (known_to cluster (view_of cluster known)) msg
