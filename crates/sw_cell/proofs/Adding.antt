-- What stands behind a lock once its node has done something: it is as it must be, with an event more in the history or with none.
use Rattle.std.proofs.Common.{◌≡◌, ℕ, Bool, List, ◌∷◌, refl, sym, ap, ◌∙◌, subst}
use Rattle.atomic_table.specs.Seated.{TableId}
use Rattle.sw_disk.specs.Runs.{Seen}
use Rattle.sw_ring.specs.Cluster.{ClusterModel}
use Rattle.sw_objsrv.specs.Node.{IsNode, NodeModel}
use Rattle.sw_view.specs.declared.event.Event.{Event}
use Rattle.sw_law_replayed.specs.Standing.{IsReplayed}
use Rattle.sw_pass.specs.Known.{HasSlot, history}
use Rattle.sw_pass.specs.Steps.{advanced}
use Rattle.sw_pass.specs.declared.known.Known.{Known}
use Rattle.sw_pass.proofs.Histories.{history_other, history_same}
use Rattle.sw_cell.specs.Handling.{HasAdded}
use Rattle.sw_cell.specs.Locked.{AreCounted, IsLocked, LockedModel}

-- ---- what the seat knows

module _ (slot : ℕ) (event : Event) (before after : Known) (is : after ≡ advanced slot event before) where
  -- the event is the latest at the slot
  pub latest : history after.histories slot ≡ event ∷ history before.histories slot
  latest = ap (λ (known : Known). history known.histories slot) is ∙ history_same before.histories slot (event ∷ history before.histories slot)

  -- and all else is known as it was
  pub one_added : HasAdded slot before after
  one_added = subst (HasAdded slot before) (sym is) (record {
    kind = refl;
    drawn = refl;
    mark = refl;
    others = λ other apart. history_other before.histories slot other (event ∷ history before.histories slot) apart;
  })

-- ---- what stands behind the lock

module _ {D : Type 0} (seen : D → Seen) (cluster : ClusterModel) (table : TableId) (old : LockedModel D) (is : IsLocked cluster table seen old)
    (new : NodeModel D) (is_node : IsNode cluster seen new) (same : new.device ≡ old.node.device) (is_due : Bool) (due : is_due ≡ new.is_due) where
  -- the node has changed, and nothing was added
  pub locked_still : AreCounted (history old.known.histories old.slot) (seen new.disk).faults
      → IsReplayed cluster seen (history old.known.histories old.slot) new
      → IsLocked cluster table seen (record { node = new; table = old.table; slot = old.slot; known = old.known; is_due = is_due })
  locked_still counted replayed = record {
    same_table = is.same_table;
    is_node = is_node;
    slot = subst (λ device. HasSlot cluster device old.slot) (sym same) is.slot;
    due = due;
    none_owed = is.none_owed;
    counted = counted;
    replayed = replayed;
  }

  -- and an event was added
  pub locked_more : (event : Event) (id : TableId) (slot : ℕ) (known : Known) → (id ≡ old.table) × (slot ≡ old.slot) → known ≡ advanced old.slot event old.known
      → AreCounted (event ∷ history old.known.histories old.slot) (seen new.disk).faults → IsReplayed cluster seen (event ∷ history old.known.histories old.slot) new
      → IsLocked cluster table seen (record { node = new; table = id; slot = slot; known = known; is_due = is_due })
  locked_more event id slot known kept added counted replayed = record {
    same_table = kept.0 ∙ is.same_table;
    is_node = is_node;
    slot = subst (λ (one : ℕ). HasSlot cluster new.device one) (sym kept.1) (subst (λ device. HasSlot cluster device old.slot) (sym same) is.slot);
    due = due;
    none_owed = ap (λ (one : Known). one.owing) added;
    counted = subst (λ (later : List Event). AreCounted later (seen new.disk).faults) (sym (ap (history known.histories) kept.1 ∙ latest old.slot event old.known known added)) counted;
    replayed =
        let events : history known.histories slot ≡ event ∷ history old.known.histories old.slot = ap (history known.histories) kept.1 ∙ latest old.slot event old.known known added in
        subst (λ events. IsReplayed cluster seen events new) (sym events) replayed;
  }
