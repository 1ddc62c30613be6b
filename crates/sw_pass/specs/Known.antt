-- What a seat of the table knows, as a view of the cluster. Histories lie by slot: the slot of a device is its number in ascending id.
use Rattle.std.specs.Prelude.{◌≡◌, ◌==◌, ◌≤◌, if◌then◌else◌, ℕ, zero, suc, false, List, [], ◌∷◌, length, Contains, Option, Some, None, slice_get}
use Rattle.atomic_table.specs.Seated.{TableId}
use Rattle.sw_types.specs.Object.{ObjectModel}
use Rattle.sw_ring.specs.Cluster.{ClusterModel, ids_of}
use Rattle.sw_view.specs.History.{Continues}
use Rattle.sw_view.specs.View.{DrawnDelete, DrawnPut, View}
use Rattle.sw_view.specs.declared.event.Event.{Event}
use Rattle.sw_pass.specs.declared.known.Drawn.{Drawn}
use Rattle.sw_pass.specs.declared.known.Kind.TheVariants as kind
use Rattle.sw_pass.specs.declared.known.Known.{Known}
use Rattle.sw_pass.specs.declared.known.Old.{Old}

-- ---- slots

-- how many devices a cluster has
abbrev pub size_of : ClusterModel → ℕ
size_of cluster = length (ids_of cluster)

-- the device has this slot
abbrev pub HasSlot : ClusterModel → (device slot : ℕ) → Type 0
HasSlot cluster device slot = slice_get (ids_of cluster) slot ≡ Some device

-- the slot of a device among some, or their number where it is none of them
abbrev pub slot_in : List ℕ → ℕ → ℕ
slot_in [] device = 0
slot_in (id ∷ ids) device = if id == device then 0 else suc (slot_in ids device)

abbrev pub slot_of : ClusterModel → ℕ → ℕ
slot_of cluster device = slot_in (ids_of cluster) device

-- ---- histories

-- the history at a slot
abbrev pub history : List (List Event) → (slot : ℕ) → List Event
history [] slot = []
history (first ∷ others) zero = first
history (first ∷ others) (suc slot) = history others slot

-- another history stands at a slot
abbrev pub with_history : List (List Event) → (slot : ℕ) → List Event → List (List Event)
with_history [] zero events = events ∷ []
with_history [] (suc slot) events = [] ∷ with_history [] slot events
with_history (first ∷ others) zero events = events ∷ others
with_history (first ∷ others) (suc slot) events = first ∷ with_history others slot events

-- ---- puts and deletes

abbrev pub put_before : Drawn → Option ObjectModel → List DrawnPut → List DrawnPut
put_before drawn None puts = puts
put_before drawn (Some object) puts = record { booked = record { stamp = drawn.stamp; name = drawn.name; object = object }; mark = drawn.mark } ∷ puts

-- the puts among what drew a stamp
abbrev pub puts_in : List Drawn → List DrawnPut
puts_in [] = []
puts_in (drawn ∷ others) = put_before drawn drawn.object (puts_in others)

abbrev pub delete_before : Drawn → Option ObjectModel → List DrawnDelete → List DrawnDelete
delete_before drawn None deletes = record { marked = record { stamp = drawn.stamp; name = drawn.name }; mark = drawn.mark } ∷ deletes
delete_before drawn (Some object) deletes = deletes

-- and the deletes
abbrev pub deletes_in : List Drawn → List DrawnDelete
deletes_in [] = []
deletes_in (drawn ∷ others) = delete_before drawn drawn.object (deletes_in others)

-- ---- views

-- the view that has these puts and deletes, and of each device the history at its slot
abbrev pub view_with : ClusterModel → List Drawn → List (List Event) → View
view_with cluster drawn histories = record { puts = puts_in drawn; deletes = deletes_in drawn; history = λ device. history histories (slot_of cluster device) }

abbrev pub view_of : ClusterModel → Known → View
view_of cluster known = view_with cluster known.drawn known.histories

-- what was known is known still
pub record Covers (known : Known) (old : Old) : Type 0 where
  pub drawn : (fact : Drawn) → Contains old.drawn fact → Contains known.drawn fact
  pub histories : (slot : ℕ) → Continues (history known.histories slot) (history old.histories slot)

-- all that drew one stamp is the same
abbrev pub AllAgree : List Drawn → List Drawn → Type 0
AllAgree drawn others = (fact other : Drawn) → Contains drawn fact → Contains others other → fact.stamp ≡ other.stamp → fact ≡ other

-- ---- seats

-- a table, and what a seat of it knows
pub record Held : Type 0 where
  pub table : TableId
  pub known : Known

pub record HeldNode : Type 0 where
  pub table : TableId
  pub slot : ℕ
  pub known : Known

-- a seat that neither raised nor drew
pub record IsNote (known : Known) : Type 0 where
  pub kind : known.kind ≡ kind.Note
  pub passes : known.passes ≡ 0
  pub clock : known.clock ≡ 0
  pub draws : known.draws ≡ 0
  pub raising : known.raising ≡ false

-- a seat that draws stamps, and is not between its raise and its draw
pub record IsPass (known : Known) : Type 0 where
  pub kind : known.kind ≡ kind.Pass
  pub passes : 1 ≤ known.passes
  pub raising : known.raising ≡ false
