-- As a call begins: the seat of a node took in what the pass knows, and may handle what the pass warrants.
use Rattle.std.proofs.Common.{◌≡◌, ℕ, Bool, List, None, sym, ap, subst, ◌∙◌}
use Rattle.atomic_table.specs.Seated.{TableId}
use Rattle.sw_disk.specs.Runs.{Seen}
use Rattle.sw_ring.specs.Cluster.{ClusterModel}
use Rattle.sw_message.specs.declared.message.Msg.{Msg}
use Rattle.sw_law_scene.proofs.Knowledge.{warranted_kept}
use Rattle.sw_law_replayed.specs.Standing.{IsReplayed}
use Rattle.sw_view.specs.View.{Grows, known_to}
use Rattle.sw_view.specs.declared.event.Event.{Event}
use Rattle.sw_view.proofs.Growth.{keeps}
use Rattle.sw_law_view.proofs.Replies.{firm}
use Rattle.sw_pass.specs.Known.{Covers, HasSlot, history, view_of}
use Rattle.sw_pass.specs.Steps.{Knows, joined, learned, noted, old_of}
use Rattle.sw_pass.specs.declared.known.Kind.TheVariants as kind
use Rattle.sw_pass.specs.declared.known.Known.{Known}
use Rattle.sw_pass.proofs.Views.{grows_with}
use Rattle.sw_cell.specs.Calling.{MayCall}
use Rattle.sw_cell.specs.Handling.{MayHandle}
use Rattle.sw_cell.specs.Locked.{AreCounted, IsLocked, LockedModel}
use Rattle.sw_cell.proofs.Joined.{covers_noted, own_stays, sound_after}

-- what a seat covers its view has
covered_grows : (cluster : ClusterModel) (known before : Known) → Covers known (old_of before) → Grows (view_of cluster before) (view_of cluster known)
covered_grows cluster known before covers = grows_with cluster before.drawn known.drawn before.histories known.histories covers.drawn covers.histories

module _ (cluster : ClusterModel) where
  -- what stands behind the lock is as it was
  pub locked_joined : {D : Type 0} (table : TableId) (seen : D → Seen) (locked : LockedModel D) (note after : Known) (place : TableId) (slot : ℕ) → place ≡ locked.table → slot ≡ locked.slot → IsLocked cluster table seen locked → locked.known.kind ≡ kind.Node locked.slot
      → after ≡ learned (joined locked.known note) → IsLocked cluster table seen (record { node = locked.node; table = place; slot = slot; known = after; is_due = locked.is_due })
  locked_joined table seen locked note after place slot same_place same_slot is node rest = record {
    same_table = same_place ∙ is.same_table;
    is_node = is.is_node;
    slot = subst (HasSlot cluster locked.node.device) (sym same_slot) is.slot;
    due = is.due;
    none_owed = ap (λ (known : Known). known.owing) rest ∙ is.none_owed;
    counted = subst (λ (events : List Event). AreCounted events (seen locked.node.disk).faults) (sym (ap (history after.histories) same_slot ∙ own_stays locked.known note after rest locked.slot node)) is.counted;
    replayed = subst (λ (events : List Event). IsReplayed cluster seen events locked.node)
        (sym (ap (history after.histories) same_slot ∙ own_stays locked.known note after rest locked.slot node)) is.replayed;
  }

  -- and it may handle a message
  pub may_handle : (tells : Bool) (slot : ℕ) (msg : Msg) (seat pass note after : Known) → seat.kind ≡ kind.Node slot → seat.owing ≡ None → note ≡ noted pass → after ≡ learned (joined seat note) → (Knows cluster (joined seat note))
      → MayCall cluster tells msg pass → MayHandle cluster tells slot msg after
  may_handle tells slot msg seat pass note after node none noted_so rest learnt may = record {
    none_owed = ap (λ (known : Known). known.owing) rest ∙ none;
    sound = sound_after seat note after rest cluster learnt;
    firm = λ told.
        let grows = covered_grows cluster after pass (covers_noted seat note after rest cluster learnt pass noted_so) in
        firm cluster (view_of cluster after) (sound_after seat note after rest cluster learnt) msg
        (warranted_kept cluster (known_to cluster (view_of cluster pass)) (known_to cluster (view_of cluster after)) (keeps (view_of cluster pass) (view_of cluster after) grows cluster) msg (may told));
  }
