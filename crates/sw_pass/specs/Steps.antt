-- How each step changes what its seat knows, and what it tells.
use Rattle.std.specs.Prelude.{◌≡◌, ◌⊎◌, ℕ, ◌+◌, ◌-◌, ◌^◌, ◌<◌, ◌≤◌, ◌==◌, max, nat_lt, if◌then◌else◌, true, false, List, [], ◌∷◌, ◌++◌, length, Contains, Option, Some, None, IfSome}
use Rattle.atomic_table.specs.Table.{Me, Step}
use Rattle.sw_types.specs.Name.{NameModel, name_fault}
use Rattle.sw_types.specs.Object.{IsObject, ObjectModel}
use Rattle.sw_types.specs.Stamp.{greatest_stamp}
use Rattle.sw_ring.specs.Cluster.{ClusterModel}
use Rattle.sw_law_scene.specs.Disks.{Disk}
use Rattle.sw_view.specs.History.{Replays}
use Rattle.sw_view.specs.View.{IsFairEvent, IsSoundView, known_to}
use Rattle.sw_view.specs.declared.event.Event.{Event}
use Rattle.sw_view.specs.declared.event.Event.TheVariants.{Mounted}
use Rattle.sw_pass.specs.Known.{AllAgree, Covers, HasSlot, history, view_of, with_history}
use Rattle.sw_pass.specs.Losses.{LossesBelow, Rises}
use Rattle.sw_pass.specs.declared.known.Drawn.{Drawn}
use Rattle.sw_pass.specs.declared.known.Kind.{Kind}
use Rattle.sw_pass.specs.declared.known.Kind.TheVariants as kind
use Rattle.sw_pass.specs.declared.known.Known.{Known}
use Rattle.sw_pass.specs.declared.known.Old.{Old}

-- ---- seats that come and go

-- so many passes a table has at most
abbrev pub most_passes : ℕ
most_passes = 2 ^ 16

-- a seat that did nothing yet, and knows this
abbrev pub seated : Kind → (passes : ℕ) → List Drawn → List (List Event) → (mark : ℕ) → Known
seated kind passes drawn histories mark = record {
  kind = kind;
  passes = passes;
  drawn = drawn;
  histories = histories;
  olds = [];
  mark = mark;
  clock = 0;
  raising = false;
  draws = 0;
  losing = false;
  owing = None;
  late = [];
  full = false;
}

-- the first seat
abbrev pub newcomer : Known
newcomer = seated kind.Pass most_passes [] [] 0

-- a new seat knows what another does
abbrev pub copied : Kind → (passes : ℕ) → Known → Known
copied kind passes known = seated kind passes known.drawn known.histories known.mark

-- a pass that may be split into so many
abbrev pub passed : (passes : ℕ) → Known → Known
passed passes known = copied kind.Pass passes known

-- and what is left of the pass that it comes of
abbrev pub parted : (passes : ℕ) → Known → Known
parted passes known = record known { passes = known.passes - passes }

abbrev pub noted : Known → Known
noted known = copied kind.Note 0 known

-- a seat that was joined away
abbrev pub spent : Known
spent = seated kind.Spent 0 [] [] 0

-- ---- joins

abbrev pub longer : List Event → List Event → List Event
longer one other = if nat_lt (length one) (length other) then other else one

-- at each slot the longer history
abbrev pub longest : List (List Event) → List (List Event) → List (List Event)
longest [] others = others
longest (one ∷ ones) [] = one ∷ ones
longest (one ∷ ones) (other ∷ others) = longer one other ∷ longest ones others

-- the seat of a node keeps the history of its own device, which is the whole of it
abbrev pub own_kept : Kind → List (List Event) → List (List Event) → List (List Event)
own_kept (kind.Node slot) ones others = with_history (longest ones others) slot (history ones slot)
own_kept other ones others = longest ones others

abbrev pub old_of : Known → Old
old_of known = record { drawn = known.drawn; histories = known.histories }

-- one knows what two did, and that it does is still to be learnt
abbrev pub joined : Known → Known → Known
joined one other = record one {
  drawn = one.drawn ++ other.drawn;
  histories = own_kept one.kind one.histories other.histories;
  olds = old_of one ∷ old_of other ∷ [];
  mark = max one.mark other.mark;
}

abbrev pub learned : Known → Known
learned known = record known { olds = [] }

-- what a join tells: what both knew is known, and the view is sound
pub record Knows (cluster : ClusterModel) (known : Known) : Type 0 where
  pub covers : (old : Old) → Contains known.olds old → Covers known old
  pub sound : IsSoundView cluster (view_of cluster known)
  pub agree : AllAgree known.drawn known.drawn
  pub rises : (slot : ℕ) → Rises (history known.histories slot)

-- ---- draws

abbrev pub marked : ℕ → Known → Known
marked mark known = record known { mark = mark }

abbrev pub raised : (clock : ℕ) → Known → Known
raised clock known = record known { clock = max known.clock clock; raising = true }

-- the stamps were found to be spent
abbrev pub filled : Known → Known
filled known = record known { raising = false; full = true }

abbrev pub counted : Known → Known
counted known = record known { raising = false; draws = known.draws + 1 }

abbrev pub raise : (clock found : ℕ) → Known → Known
raise clock found known = if nat_lt greatest_stamp found then filled (raised clock known) else raised clock known

abbrev pub fact_of : (stamp : ℕ) → NameModel → Option ObjectModel → Known → Drawn
fact_of stamp name object known = record { stamp = stamp; name = name; object = object; mark = known.mark }

-- a put of this name and object, or a delete of this name, drew the stamp
abbrev pub drew : (stamp : ℕ) → NameModel → Option ObjectModel → Known → Known
drew stamp name object known = record known { drawn = fact_of stamp name object known ∷ known.drawn; raising = false; draws = known.draws + 1 }

abbrev pub take : NameModel → Option ObjectModel → (found : ℕ) → Known → Known
take name object found known = if nat_lt greatest_stamp found then filled (counted known) else drew found name object known

-- the stamps were found to be spent, at the raise or at the draw
abbrev pub Refused : (clock : ℕ) → (before after : Known) → Type 0
Refused clock before after = (after ≡ filled (raised clock before)) ⊎ (after ≡ filled (counted (raised clock before)))

-- a stamp is no less than the clock that the seat raised to, and above each that the seat knew
pub record IsFresh (stamp : ℕ) (known : Known) : Type 0 where
  pub clock : known.clock ≤ stamp
  pub above : (fact : Drawn) → Contains known.drawn fact → fact.stamp < stamp

-- a name and an object that may be put, or a name that may be deleted
abbrev pub MayDraw : NameModel → Option ObjectModel → Type 0
MayDraw name object = (name_fault name ≡ None) × IfSome object IsObject

-- ---- nodes

abbrev pub claimed : (slot : ℕ) → Known → Known
claimed slot known = record known { kind = kind.Node slot; histories = with_history known.histories slot (Mounted ∷ []) }

abbrev pub came_late : (slot : ℕ) → Known → Known
came_late slot known = record known { late = slot ∷ known.late }

abbrev pub claim : (slot found : ℕ) → Known → Known
claim slot found known = if found == 0 then claimed slot known else came_late slot known

abbrev pub advanced : (slot : ℕ) → Event → Known → Known
advanced slot event known = record known { histories = with_history known.histories slot (event ∷ history known.histories slot); owing = None }

-- The event may be the next one at a slot: it is fair by what is known, and after it the disk of the slot's device may hold something. That is
-- what keeps the view closed.
pub record MayAdvance (cluster : ClusterModel) (slot : ℕ) (event : Event) (known : Known) : Type 0 where
  pub fair : IsFairEvent cluster (known_to cluster (view_of cluster known)) event
  pub replayed : (device : ℕ) → HasSlot cluster device slot → (disk : Disk) × Replays cluster device (event ∷ history known.histories slot) disk

-- so many losses are counted at most, and one more for each node that found fewer
abbrev pub most_losses : ℕ
most_losses = 2 ^ 63

-- the seat of a node may draw a loss
abbrev pub able : Known → Known
able known = record known { losing = true }

abbrev pub look : (found : ℕ) → Known → Known
look found known = if nat_lt found most_losses then able known else known

abbrev pub lost_one : (loss : ℕ) → Known → Known
lost_one loss known = record known { losing = false; owing = Some loss }

-- ---- what a step tells: of the step, the seat before, the number found, and the seat after

abbrev pub Raises : Step Unit → Me Unit Known → ℕ → Me Unit Known → Type 0
Raises step before found after = after ≡ (raise step.first found before.0, before.1)

abbrev pub Takes : NameModel → Option ObjectModel → Step Unit → Me Unit Known → ℕ → Me Unit Known → Type 0
Takes name object step before found after = (after ≡ (take name object found before.0, before.1)) × IsFresh found before.0

abbrev pub Reads : Step Unit → Me Unit Known → ℕ → Me Unit Known → Type 0
Reads step before found after = (after ≡ (marked found before.0, before.1)) × (before.0.mark ≤ found) × ((slot : ℕ) → LossesBelow found (history before.0.histories slot))

abbrev pub Learns : ClusterModel → Step Unit → Me Unit Known → ℕ → Me Unit Known → Type 0
Learns cluster step before found after = (after ≡ (learned before.0, before.1)) × Knows cluster before.0

abbrev pub Claims : Step Unit → Me Unit Known → ℕ → Me Unit Known → Type 0
Claims step before found after = after ≡ (claim (step.word - 1) found before.0, before.1)

abbrev pub Advances : Event → Step Unit → Me Unit Known → ℕ → Me Unit Known → Type 0
Advances event step before found after = after ≡ (advanced (step.word - 1) event before.0, before.1)

abbrev pub Looks : Step Unit → Me Unit Known → ℕ → Me Unit Known → Type 0
Looks step before found after = after ≡ (look found before.0, before.1)

abbrev pub Loses : Step Unit → Me Unit Known → ℕ → Me Unit Known → Type 0
Loses step before found after = after ≡ (lost_one found before.0, before.1)
