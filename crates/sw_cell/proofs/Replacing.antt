-- Where another disk takes the place of the one behind a lock: the loss may be added to the history, and the new disk, which is empty, stands for that.
use Rattle.std.proofs.Common.{◌≡◌, inl, ℕ, false, List, ◌∷◌, None, refl, sym, ap, subst, ◌∙◌, arith}
use Rattle.atomic_table.specs.Seated.{TableId}
use Rattle.sw_disk.specs.Runs.{IfTold, Past, Seen}
use Rattle.sw_ring.specs.Cluster.{ClusterModel}
use Rattle.sw_objsrv.specs.Mounting.{Mounts}
use Rattle.sw_objsrv.specs.Node.{IsNode as IsNodeOf, NodeModel}
use Rattle.sw_law_scene.specs.Devices.{no_folders}
use Rattle.sw_law_scene.specs.Disks.{Sure}
use Rattle.sw_law_replayed.specs.Keeping.{IsEmptyFor}
use Rattle.sw_law_replayed.specs.Standing.{IsReplayed}
use Rattle.sw_law_replayed.proofs.Mounting.{begins}
use Rattle.sw_view.specs.History.{Continues, Replays}
use Rattle.sw_view.specs.declared.event.Event.{Event}
use Rattle.sw_view.specs.declared.event.Event.TheVariants.{Replaced}
use Rattle.sw_pass.specs.Known.{HasSlot, history}
use Rattle.sw_pass.specs.Steps.{Knows, MayAdvance, advanced, joined, learned, lost_one, noted}
use Rattle.sw_pass.specs.declared.known.Kind.TheVariants as kind
use Rattle.sw_pass.specs.declared.known.Known.{Known}
use Rattle.sw_pass.proofs.Histories.{continues_more, continues_one, history_same}
use Rattle.sw_cell.specs.Locked.{AreCounted, IsLocked, LockedModel}
use Rattle.sw_cell.specs.Standing.{HasHistory, IsReplaced}
use Rattle.sw_cell.proofs.Joined.{covers_noted, learnt_after, own_stays, sound_after}
use Rattle.sw_cell.proofs.Leaving.{same_history}
use Rattle.sw_cell.proofs.Ready.{replayed_at}

-- The seat took in what a pass knows, and drew the number of a loss.
module _ (seat first entered : Known) (slot loss : ℕ) (rest : entered ≡ learned (joined seat first)) (node : seat.kind ≡ kind.Node slot) where
  -- the event may be added
  pub loss_may : (cluster : ClusterModel) (owed : Known) → owed ≡ lost_one loss entered → Knows cluster (joined seat first) → MayAdvance cluster slot (Replaced loss) owed
  loss_may cluster owed is learnt = subst (MayAdvance cluster slot (Replaced loss)) (sym is) (record {
    fair = tt;
    replayed = λ device at.
        let one = replayed_at cluster slot entered (sound_after seat first entered rest cluster learnt) device at in
        (Sure no_folders, (one.0, one.1, refl));
  })

  -- Once it is added, the history goes on from what the seat had.
  module _ (owed left : Known) (owed_is : owed ≡ lost_one loss entered) (left_is : left ≡ advanced slot (Replaced loss) owed) where
    pub left_events : history left.histories slot ≡ Replaced loss ∷ history seat.histories slot
    left_events =
        ap (λ (known : Known). history known.histories slot) left_is ∙ history_same owed.histories slot (Replaced loss ∷ history owed.histories slot)
        ∙ ap (λ events. Replaced loss ∷ events) (ap (λ (known : Known). history known.histories slot) owed_is ∙ own_stays seat first entered rest slot node)

    -- what stands behind the lock then
    pub locked_replaced : {D : Type 0} (seen : D → Seen) (left_since : D → Past) (cluster : ClusterModel) (table : TableId) (old : LockedModel D) → history old.known.histories slot ≡ history seat.histories slot → IsLocked cluster table seen old
        → (disk : D) (new : NodeModel D) → IsNodeOf cluster seen new → new.is_due ≡ false → HasSlot cluster new.device slot → Mounts seen left_since cluster new.device None disk new.disk → IfTold (seen disk).told (IsEmptyFor cluster new.device)
        → Knows cluster (joined seat first) → (id : TableId) (place : ℕ) → id ≡ old.table → place ≡ slot
        → IsLocked cluster table seen (record { node = new; table = id; slot = place; known = left; is_due = false })
    locked_replaced {D} seen left_since cluster table old known_is is disk new is_new mounted at mounts empty learnt id place same_table same_slot =
        let events : history left.histories place ≡ Replaced loss ∷ history seat.histories slot = ap (history left.histories) same_slot ∙ left_events in
        record {
          same_table = same_table ∙ is.same_table;
          is_node = is_new;
          slot = subst (HasSlot cluster new.device) (sym same_slot) at;
          due = sym mounted;
          none_owed = ap (λ (known : Known). known.owing) left_is;
          counted = subst (λ (events : List Event). AreCounted events (seen new.disk).faults) (sym events) (inl (omega arith));
          replayed =
              let sound = sound_after seat first entered rest cluster learnt in
              let before = replayed_at cluster slot entered sound new.device at in
              let begun = begins seen left_since cluster disk new empty mounted mounts in
              subst (λ (events : List Event). IsReplayed cluster seen events new) (sym events)
              (begun.1 (history seat.histories slot) before.0 loss (subst (λ (events : List Event). Replays cluster new.device events before.0) (own_stays seat first entered rest slot node) before.1));
        }

    -- and what the pass knows that made the seat do so
    pub replaced : {D : Type 0} (seen : D → Seen) (cluster : ClusterModel) (device : ℕ) (lost : D) (pass second after : Known) → first ≡ noted pass → Knows cluster (joined seat first)
        → second ≡ noted left → after ≡ learned (joined pass second) → Knows cluster (joined pass second) → HasHistory cluster seen device (history seat.histories slot) lost
        → IsReplaced cluster seen device slot pass after lost
    replaced seen cluster device lost pass second after first_is learnt second_is rest_after knows held =
        let own = own_stays seat first entered rest slot node in
        let later = subst (λ (events : List Event). Continues events (history pass.histories slot)) own ((covers_noted seat first entered rest cluster learnt pass first_is).histories slot) in
        let covers = (covers_noted pass second after rest_after cluster knows left second_is).histories slot in
        let on : Continues (history left.histories slot) (history pass.histories slot) = subst (λ (events : List Event). Continues events (history pass.histories slot)) (sym left_events)
        (continues_more (Replaced loss ∷ history seat.histories slot) (history seat.histories slot) (history pass.histories slot) (continues_one (Replaced loss) (history seat.histories slot)) later) in
        record {
          learnt = learnt_after pass second after rest_after cluster knows;
          past = history seat.histories slot;
          later = later;
          held = held;
          loss = loss;
          latest = same_history slot pass left after second second_is rest_after covers on ∙ left_events;
        }
