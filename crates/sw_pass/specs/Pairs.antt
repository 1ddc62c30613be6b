-- What the rule says of any two seats.
use Rattle.std.specs.Prelude.{◌≡◌, ◌⊎◌, ◌<◌, ℕ, []}
use mathlib.Core.Option.{some}
use lib.ListN.{get_elem?}
use Rattle.sw_ring.specs.Cluster.{ClusterModel}
use Rattle.sw_view.specs.History.{Continues}
use Rattle.sw_view.specs.View.{IsSoundView}
use Rattle.sw_pass.specs.Known.{AllAgree, history, size_of, view_of}
use Rattle.sw_pass.specs.Rule.{Table, word_at}
use Rattle.sw_pass.specs.declared.known.Kind.TheVariants as kind
use Rattle.sw_pass.specs.declared.known.Known.{Known}

-- What drew one stamp is the same in both; of their histories of a device one goes on from the other; the word of a slot is 0 or 1: where it is 1
-- exactly one seat is the node of the slot, whose history is no shorter than that of any, and where it is 0 none is, and nothing happened there;
-- and what each knows is sound.
pub record IsPaired (cluster : ClusterModel) (table : Table) : Type 0 where
  pub agree : (i j : ℕ) (one other : Known) → get_elem? table.views i ≡ some one → get_elem? table.views j ≡ some other → AllAgree one.drawn other.drawn
  pub histories : (i j : ℕ) (one other : Known) → get_elem? table.views i ≡ some one → get_elem? table.views j ≡ some other → (slot : ℕ)
      → Continues (history one.histories slot) (history other.histories slot) ⊎ Continues (history other.histories slot) (history one.histories slot)
  pub word : (slot : ℕ) → slot < size_of cluster → (word_at table.words slot ≡ 0) ⊎ (word_at table.words slot ≡ 1)
  pub nothing : (i : ℕ) (known : Known) → get_elem? table.views i ≡ some known → (slot : ℕ) → slot < size_of cluster → word_at table.words slot ≡ 0 → history known.histories slot ≡ []
  pub one_node : (i j slot : ℕ) (one other : Known) → get_elem? table.views i ≡ some one → get_elem? table.views j ≡ some other → one.kind ≡ kind.Node slot → other.kind ≡ kind.Node slot → i ≡ j
  pub whole : (i j slot : ℕ) (node known : Known) → get_elem? table.views i ≡ some node → node.kind ≡ kind.Node slot → get_elem? table.views j ≡ some known → Continues (history node.histories slot) (history known.histories slot)
  pub has_node : (slot : ℕ) → slot < size_of cluster → word_at table.words slot ≡ 1 → (i : ℕ) × (known : Known) × (get_elem? table.views i ≡ some known) × (known.kind ≡ kind.Node slot)
  pub begun : (i slot : ℕ) (known : Known) → get_elem? table.views i ≡ some known → known.kind ≡ kind.Node slot → (slot < size_of cluster) × (word_at table.words slot ≡ 1)
  pub sound : (i : ℕ) (known : Known) → get_elem? table.views i ≡ some known → IsSoundView cluster (view_of cluster known)
