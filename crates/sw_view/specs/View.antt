-- What one observer knows: puts and deletes that drew a stamp, and one history of each device. There is no order between the histories.
use Rattle.std.specs.Prelude.{◌≡◌, ◌≢◌, ◌⊎◌, ◌≤◌, ◌<◌, ◌==◌, if◌then◌else◌, ℕ, List, [], ◌∷◌, flat_map, map, Contains, ⊤}
use Rattle.sw_types.specs.Stamp.{greatest_stamp}
use Rattle.sw_ring.specs.Cluster.{ClusterModel, KeepsRules, ids_of}
use Rattle.sw_message.specs.Learnt.{Booked, Heard, IsSoundBook, Learnt, Marked}
use Rattle.sw_message.specs.Message.{IsPlaceOf, place_in}
use Rattle.sw_message.specs.Warrant.{IsDecided, IsOfDelete, IsWarranted}
use Rattle.sw_message.specs.declared.message.Msg.{Msg}
use Rattle.sw_message.specs.declared.message.Msg.TheVariants as message
use Rattle.sw_message.specs.declared.reply.Reply.TheVariants as reply
use Rattle.sw_law_scene.specs.Disks.{Disk}
use Rattle.sw_view.specs.History.{Continues, IsGuarded, Replays}
use Rattle.sw_view.specs.declared.event.Event.{Event}
use Rattle.sw_view.specs.declared.event.Event.TheVariants.{Faulted, Handled, Mounted, Replaced}

-- A put that drew its stamp, and a delete. The mark is how many losses of disks had been counted as the draw began.
pub record DrawnPut : Type 0 where
  pub booked : Booked
  pub mark : ℕ

pub record DrawnDelete : Type 0 where
  pub marked : Marked
  pub mark : ℕ

-- what one observer knows
pub record View : Type 0 where
  pub puts : List DrawnPut
  pub deletes : List DrawnDelete
  pub history : (device : ℕ) → List Event

-- at first it knows nothing
abbrev pub empty_view : View
empty_view = record { puts = []; deletes = []; history = λ device. [] }

-- ---- what is known

-- the replies in a history; a failure is one too
abbrev pub heard_at : (device : ℕ) → List Event → List Heard
heard_at device [] = []
heard_at device (Handled msg reply ∷ past) = record { device = device; msg = msg; reply = reply } ∷ heard_at device past
heard_at device (Faulted msg ∷ past) = record { device = device; msg = msg; reply = reply.DiskFault } ∷ heard_at device past
heard_at device (Mounted ∷ past) = heard_at device past
heard_at device (Replaced loss ∷ past) = heard_at device past

-- those of some devices
abbrev pub heard_in : List ℕ → View → List Heard
heard_in devices view = flat_map (λ device. heard_at device (view.history device)) devices

-- all that a view knows of puts, deletes and replies
abbrev pub known_to : ClusterModel → View → Learnt
known_to cluster view = record {
  book = map (λ (put : DrawnPut). put.booked) view.puts;
  marks = map (λ (delete : DrawnDelete). delete.marked) view.deletes;
  heard = heard_in (ids_of cluster) view;
}

-- all that one view knew another knows
pub record Grows (before after : View) : Type 0 where
  pub puts : (put : DrawnPut) → Contains before.puts put → Contains after.puts put
  pub deletes : (delete : DrawnDelete) → Contains before.deletes delete → Contains after.deletes delete
  pub histories : (device : ℕ) → Continues (after.history device) (before.history device)

-- ---- closed views

-- A message is firmly warranted: by puts, deletes and replies alone. That a listing shows an entry durable, or a tombstone, is not enough.
abbrev pub IsFirm : ClusterModel → Learnt → Msg → Type 0
IsFirm cluster learnt (message.Commit place stamp index) = IsDecided cluster learnt.heard place stamp
IsFirm cluster learnt (message.Delete place stamp) = IsOfDelete cluster learnt.marks place stamp
IsFirm cluster learnt other = IsWarranted cluster learnt other

-- an event is fair: the message that a device handled, or failed at, is about a place of the cluster and is firmly warranted
abbrev pub IsFairEvent : ClusterModel → Learnt → Event → Type 0
IsFairEvent cluster learnt (Handled msg reply) = IsPlaceOf cluster (place_in msg) × IsFirm cluster learnt msg
IsFairEvent cluster learnt (Faulted msg) = IsPlaceOf cluster (place_in msg) × IsFirm cluster learnt msg
IsFairEvent cluster learnt Mounted = ⊤
IsFairEvent cluster learnt (Replaced loss) = ⊤

-- A view is closed: each event is fair by what the view itself knows, and after each history the disk may hold something.
pub record IsClosed (cluster : ClusterModel) (view : View) : Type 0 where
  pub fair : (device : ℕ) (event : Event) → Contains (view.history device) event → IsFairEvent cluster (known_to cluster view) event
  pub replayed : (device : ℕ) → (disk : Disk) × Replays cluster device (view.history device) disk

-- A view is sound: it is closed, its puts keep the bounds and no two have one stamp, no delete has the stamp of a put, each has a stamp that
-- there is, and in each history the stamp of each put and delete is guarded by its mark. That speaks of the one view alone.
pub record IsSoundView (cluster : ClusterModel) (view : View) : Type 0 where
  pub rules : KeepsRules cluster
  pub closed : IsClosed cluster view
  pub book : IsSoundBook cluster.policy (known_to cluster view).book
  pub stamped : (marked : Marked) → Contains (known_to cluster view).marks marked → marked.stamp ≤ greatest_stamp
  pub apart : (booked : Booked) (marked : Marked) → Contains (known_to cluster view).book booked → Contains (known_to cluster view).marks marked → booked.stamp ≢ marked.stamp
  pub puts : (put : DrawnPut) (device : ℕ) → Contains view.puts put → IsGuarded cluster device put.booked.stamp put.mark (view.history device)
  pub deletes : (delete : DrawnDelete) (device : ℕ) → Contains view.deletes delete → IsGuarded cluster device delete.marked.stamp delete.mark (view.history device)

-- ---- how a view goes on

-- a stamp is greater than all that a view knows
abbrev pub IsFresh : ClusterModel → View → (stamp : ℕ) → Type 0
IsFresh cluster view stamp =
    ((booked : Booked) → Contains (known_to cluster view).book booked → booked.stamp < stamp) × ((marked : Marked) → Contains (known_to cluster view).marks marked → marked.stamp < stamp)

-- an event may happen: where a disk is replaced, no mark is above the number of the loss
abbrev pub MayHappen : View → Event → Type 0
MayHappen view (Replaced loss) = ((put : DrawnPut) → Contains view.puts put → put.mark ≤ loss) × ((delete : DrawnDelete) → Contains view.deletes delete → delete.mark ≤ loss)
MayHappen view other = ⊤

-- one event more is known of a device
abbrev pub with_event : (device : ℕ) → Event → View → View
with_event device event view = record view { history = λ other. if other == device then event ∷ view.history other else view.history other }

-- Two views are joined in one that knows both: it has of each device the history of one of them, which goes on from the other's.
pub record IsJoined (one other both : View) : Type 0 where
  pub first : Grows one both
  pub second : Grows other both
  pub either : (device : ℕ) → (both.history device ≡ one.history device) ⊎ (both.history device ≡ other.history device)
