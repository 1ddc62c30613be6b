-- The rule of the table, which holds between any two steps of any number of threads. Word 0 counts stamps, word slot + 1 the events at a slot,
-- and the last word counts losses.
use Rattle.std.specs.Prelude.{◌≡◌, ◌∷◌, ℕ, zero, suc, ◌+◌, ◌<◌, ◌≤◌, max, Bool, true, false, List, [], length, Contains, slice_index, Option, None}
use mathlib.Core.Option.{some}
use lib.ListN.{get_elem?}
use Rattle.atomic_table.specs.Table.{State}
use Rattle.sw_types.specs.Stamp.{greatest_stamp}
use Rattle.sw_ring.specs.Cluster.{ClusterModel, KeepsRules}
use Rattle.sw_view.specs.History.{Continues, IsGuarded}
use Rattle.sw_view.specs.View.{IsClosed}
use Rattle.sw_view.specs.declared.event.Event.{Event}
use Rattle.sw_pass.specs.Known.{AllAgree, Covers, history, size_of, slot_of, view_of}
use Rattle.sw_pass.specs.Losses.{LossesBelow, Rises, with_owed}
use Rattle.sw_pass.specs.Steps.{MayDraw, most_losses, most_passes}
use Rattle.sw_pass.specs.declared.known.Drawn.{Drawn}
use Rattle.sw_pass.specs.declared.known.Kind.{Kind}
use Rattle.sw_pass.specs.declared.known.Kind.TheVariants as kind
use Rattle.sw_pass.specs.declared.known.Known.{Known}
use Rattle.sw_pass.specs.declared.known.Old.{Old}

-- the words, and what each seat knows
abbrev pub Table : Type 0
Table = State Unit Known

-- ---- counts

abbrev pub total : (Known → ℕ) → List Known → ℕ
total count [] = 0
total count (known ∷ others) = count known + total count others

abbrev pub one_if : Bool → ℕ
one_if true = 1
one_if false = 0

abbrev pub is_node : Kind → ℕ
is_node (kind.Node slot) = 1
is_node other = 0

-- how many of the first slots were claimed, by their words
abbrev pub claims : (word : ℕ → ℕ) → (slots : ℕ) → ℕ
claims word zero = 0
claims word (suc slot) = word slot + claims word slot

-- the greatest clock that any seat raised to
abbrev pub greatest : List Known → ℕ
greatest [] = 0
greatest (known ∷ others) = max known.clock (greatest others)

-- the word of a slot
abbrev pub word_at : List ℕ → (slot : ℕ) → ℕ
word_at words slot = slice_index words (slot + 1)

-- What holds of the counts, so that no word wraps: there are only so many passes, and stamps are left for those that are between raise and draw;
-- losses are left for the nodes that found fewer than so many; and each claim made one node. Word 0 is no more than the greatest clock and all
-- draws.
pub record CountsFit (stamps losses claimed : ℕ) (seats : List Known) : Type 0 where
  pub passes : total (λ seat. seat.passes) seats ≤ most_passes
  pub pending : stamps + total (λ seat. one_if seat.raising) seats ≤ suc greatest_stamp + most_passes
  pub clock : stamps ≤ greatest seats + total (λ seat. seat.draws) seats
  pub lost : losses + total (λ seat. one_if seat.losing) seats ≤ most_losses + total (λ seat. is_node seat.kind) seats
  pub nodes : total (λ seat. is_node seat.kind) seats ≡ claimed

-- ---- one account of all devices

-- by slot: all that happened at the device, the seat of its node, and the loss that it owes
pub record Account : Type 0 where
  pub past : (slot : ℕ) → List Event
  pub seat : (slot : ℕ) → ℕ
  pub owed : (slot : ℕ) → Option ℕ

-- all that happened, with what is owed
abbrev pub due : Account → (slot : ℕ) → List Event
due account slot = with_owed (account.owed slot) (account.past slot)

-- whether anything happened
abbrev pub begun : List Event → ℕ
begun [] = 0
begun (event ∷ past) = 1

-- What holds of a slot: its word tells whether it was claimed; the numbers of its losses rise and were drawn; a stamp that is not drawn yet is
-- guarded by whatever mark, so that no disk that was replaced had it; and a slot that no node claimed owes nothing.
pub record DeviceFits (cluster : ClusterModel) (account : Account) (stamps losses word slot : ℕ) : Type 0 where
  pub claimed : word ≡ begun (account.past slot)
  pub fresh : (device stamp mark : ℕ) → slot_of cluster device ≡ slot → stamps ≤ stamp → IsGuarded cluster device stamp mark (due account slot)
  pub rises : Rises (due account slot)
  pub beneath : LossesBelow losses (due account slot)
  pub unclaimed : account.past slot ≡ [] → account.owed slot ≡ None

-- ---- one seat

-- The seat of a node: it alone is so, and it knows all that happened at its slot.
pub record IsNodeOf (cluster : ClusterModel) (account : Account) (id : ℕ) (known : Known) (slot : ℕ) : Type 0 where
  pub inside : slot < size_of cluster
  pub holder : id ≡ account.seat slot
  pub whole : history known.histories slot ≡ account.past slot
  pub begun : 0 < length (account.past slot)
  pub owing : known.owing ≡ account.owed slot

-- each slot at which something happened has its node among the seats
abbrev pub HaveNodes : ClusterModel → Account → List Known → Type 0
HaveNodes cluster account seats =
    (slot : ℕ) → slot < size_of cluster → 0 < length (account.past slot) → (known : Known) × (get_elem? seats (account.seat slot) ≡ some known) × (known.kind ≡ kind.Node slot)

-- another seat owes nothing
abbrev pub KindFits : ClusterModel → Account → (id : ℕ) → Known → Kind → Type 0
KindFits cluster account id known (kind.Node slot) = IsNodeOf cluster account id known slot
KindFits cluster account id known other = known.owing ≡ None

-- What drew a stamp: the stamp was drawn, the mark was read, and each disk that was replaced though it had something so new was replaced as a
-- loss whose number is at least the mark.
pub record IsDrawn (cluster : ClusterModel) (account : Account) (stamps losses : ℕ) (drawn : Drawn) : Type 0 where
  pub stamp : drawn.stamp < stamps
  pub bound : drawn.stamp ≤ greatest_stamp
  pub may : MayDraw drawn.name drawn.object
  pub mark : drawn.mark ≤ losses
  pub guarded : (device : ℕ) → IsGuarded cluster device drawn.stamp drawn.mark (due account (slot_of cluster device))

-- What holds of one seat: its histories begin as all that happened did, it is closed by what it knows itself, and word 0 is no less than the
-- clock that it raised to. A pass alone is between raise and draw, and a node alone may draw a loss.
pub record Fits (cluster : ClusterModel) (account : Account) (stamps losses id : ℕ) (known : Known) : Type 0 where
  pub kind : KindFits cluster account id known known.kind
  pub drawn : (fact : Drawn) → Contains known.drawn fact → IsDrawn cluster account stamps losses fact
  pub histories : (slot : ℕ) → Continues (account.past slot) (history known.histories slot)
  pub closed : IsClosed cluster (view_of cluster known)
  pub olds : (old : Old) → Contains known.olds old → Covers known old
  pub mark : known.mark ≤ losses
  pub clock : known.clock ≤ stamps
  pub raising : one_if known.raising ≤ known.passes
  pub losing : one_if known.losing ≤ is_node known.kind
  pub late : (slot : ℕ) → Contains known.late slot → 0 < length (account.past slot)
  pub full : known.full ≡ true → greatest_stamp < stamps

-- ---- the rule

pub record IsKept (cluster : ClusterModel) (table : Table) : Type 0 where
  pub account : Account
  pub rules : KeepsRules cluster
  pub wide : length table.words ≡ size_of cluster + 2
  pub each : (id : ℕ) (known : Known) → get_elem? table.views id ≡ some known → Fits cluster account (slice_index table.words 0) (slice_index table.words (size_of cluster + 1)) id known
  pub agree : (i j : ℕ) (one other : Known) → get_elem? table.views i ≡ some one → get_elem? table.views j ≡ some other → AllAgree one.drawn other.drawn
  pub device : (slot : ℕ) → slot < size_of cluster
      → DeviceFits cluster account (slice_index table.words 0) (slice_index table.words (size_of cluster + 1)) (word_at table.words slot) slot
  pub nodes : HaveNodes cluster account table.views
  -- nothing happens beyond the devices
  pub beyond : (slot : ℕ) → size_of cluster ≤ slot → (account.past slot ≡ []) × (account.owed slot ≡ None)
  pub counts : CountsFit (slice_index table.words 0) (slice_index table.words (size_of cluster + 1)) (claims (word_at table.words) (size_of cluster)) table.views
