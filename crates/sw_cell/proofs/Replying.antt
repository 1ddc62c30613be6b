-- Where a node behind its lock handles a message with no mount due: the event may be added, and what the disk holds stands for the history with it.
use Rattle.std.proofs.Common.{◌≡◌, ◌≢◌, ◌⊎◌, inl, inr, ⊎_elim, ℕ, Bool, true, false, List, ◌∷◌, sym, ap, ◌∙◌, subst}
use Rattle.std.proofs.lemmas.Bool.{cases_Bool}
use Rattle.atomic_table.specs.Seated.{TableId}
use Rattle.sw_disk.specs.Runs.{IsTelling, Past, Seen}
use Rattle.sw_ring.specs.Cluster.{ClusterModel}
use Rattle.sw_message.specs.Message.{IsPlaceOf, place_in}
use Rattle.sw_message.specs.declared.message.Msg.{Msg}
use Rattle.sw_message.specs.declared.reply.Reply.{Reply}
use Rattle.sw_message.specs.declared.reply.Reply.TheVariants.{DiskFault, NoMemory}
use Rattle.sw_objsrv.specs.Node.{Handled, HandlesWhenMounted, IsNode, NodeModel}
use Rattle.sw_view.specs.View.{known_to}
use Rattle.sw_view.specs.declared.event.Event.{Event}
use Rattle.sw_law_replayed.specs.Standing.{IsReplayed}
use Rattle.sw_law_replayed.proofs.Handling.{handled}
use Rattle.sw_pass.specs.Known.{history, view_of}
use Rattle.sw_pass.specs.Steps.{MayAdvance, advanced}
use Rattle.sw_pass.specs.declared.known.Known.{Known}
use Rattle.sw_cell.specs.Calling.{event_of, replied_events, shown}
use Rattle.sw_cell.specs.Handling.{MayReply}
use Rattle.sw_cell.specs.Locked.{AreCounted, IsLocked, LockedModel}
use Rattle.sw_cell.proofs.Adding.{locked_more, locked_still}
use Rattle.sw_cell.proofs.Events.{handled_if, reply_added, reply_fair, shown_unless}
use Rattle.sw_cell.proofs.Failures.{reply_counted}
use Rattle.sw_cell.proofs.Slots.{one_device}
use Rattle.sw_cell.proofs.Standing.{HasDisk, mounts_too, replayed_disk, replayed_if}

-- a flag says whether a reply is of a kind
abbrev pub IsTestOf : (kind reply : Reply) → Bool → Type 0
IsTestOf kind reply flag = ((reply ≡ kind) × (flag ≡ true)) ⊎ ((reply ≢ kind) × (flag ≡ false))

pub is_kind : (kind reply : Reply) (flag : Bool) → IsTestOf kind reply flag → flag ≡ true → reply ≡ kind
is_kind kind reply flag (inl is) set = is.0
is_kind kind reply flag (inr other) set = absurd (let both : false ≡ true = sym other.1 ∙ set in cc)

pub other_kind : (kind reply : Reply) (flag : Bool) → IsTestOf kind reply flag → flag ≡ false → reply ≢ kind
other_kind kind reply flag (inl is) unset = absurd (let both : true ≡ false = sym is.1 ∙ unset in cc)
other_kind kind reply flag (inr other) unset = other.0

-- What is known of the handling of a message, of a mounted node behind its lock.
pub record IsReply {D : Type 0} (seen : D → Seen) (left_since : D → Past) (tells : Bool) (cluster : ClusterModel) (table : TableId) (old : LockedModel D) (msg : Msg) (reply : Reply) (new : NodeModel D) : Type 0 where
  pub telling : (disk : D) → IsTelling tells (seen disk).told
  pub locked : IsLocked cluster table seen old
  pub mounted : old.node.is_due ≡ false
  pub place : IsPlaceOf cluster (place_in msg)
  pub may : MayReply cluster tells old.slot msg old.known
  pub is_node : IsNode cluster seen new
  pub handled : Handled seen left_since cluster msg reply old.node new

-- a node with no mount due only handles the message
only_handles : {D : Type 0} (seen : D → Seen) (left_since : D → Past) (cluster : ClusterModel) (msg : Msg) (reply : Reply) (old new : NodeModel D) → old.is_due ≡ false
    → HandlesWhenMounted seen left_since cluster msg reply old new → Handled seen left_since cluster msg reply old new
only_handles seen left_since cluster msg reply old new mounted handles = ⊎_elim (λ first. first.1) (λ second. absurd (let both : false ≡ true = sym mounted ∙ second.0 in cc)) handles

-- from what the contracts say
pub reply_of : {D : Type 0} (seen : D → Seen) (left_since : D → Past) (tells : Bool) (now cluster : ClusterModel) (table : TableId) (old entry : LockedModel D) (msg : Msg) (reply : Reply) (new : NodeModel D)
    → ((disk : D) → IsTelling tells (seen disk).told) → now ≡ cluster → old ≡ entry → entry.is_due ≡ false → IsLocked cluster table seen old → IsPlaceOf cluster (place_in msg) → MayReply cluster tells entry.slot msg entry.known
    → IsNode now seen new → HandlesWhenMounted seen left_since now msg reply old.node new → IsReply seen left_since tells cluster table old msg reply new
reply_of {D} seen left_since tells now cluster table old entry msg reply new telling same view mounted locked place may is_node handles =
    let quiet : old.node.is_due ≡ false = sym locked.due ∙ ap (λ (one : LockedModel D). one.is_due) view ∙ mounted in
    record {
      telling = telling;
      locked = locked;
      mounted = quiet;
      place = place;
      may = subst (λ (one : LockedModel D). MayReply cluster tells one.slot msg one.known) (sym view) may;
      is_node = subst (λ one. IsNode one seen new) same is_node;
      handled = subst (λ one. Handled seen left_since one msg reply old.node new) same (only_handles seen left_since now msg reply old.node new quiet handles);
    }

module _ {D : Type 0} {seen : D → Seen} {left_since : D → Past} {tells : Bool} {cluster : ClusterModel} {table : TableId} {old : LockedModel D} {msg : Msg} {reply : Reply} {new : NodeModel D}
    (is : IsReply seen left_since tells cluster table old msg reply new) where
  abbrev events : List Event
  events = history old.known.histories old.slot

  -- a mount is due behind it exactly where the disk failed
  pub due_after : (is_due : Bool) → IsTestOf DiskFault reply is_due → is_due ≡ new.is_due
  due_after is_due (inl failed) = failed.1 ∙ sym (is.handled.due failed.0)
  due_after is_due (inr fine) = ⊎_elim (λ due. absurd (fine.0 (is.handled.is_due due))) (λ none. fine.1 ∙ sym none) (cases_Bool new.is_due)

  -- what the disk holds stands for the history behind it
  replayed : IsReplayed cluster seen (replied_events tells msg reply events) new
  replayed = replayed_if seen cluster (replied_events tells msg reply events) new tells (is.telling new.disk) (λ told.
      subst (λ later. IsReplayed cluster seen later new) (handled_if tells msg reply events told)
      (handled seen left_since cluster events msg reply old.node new is.locked.is_node is.mounted is.place (is.may.step told old.node.device is.locked.slot) is.locked.replayed is.handled))

  -- and each failure was counted
  counted : AreCounted (replied_events tells msg reply events) (seen new.disk).faults
  counted = reply_counted tells msg reply events (seen old.node.disk).faults (seen new.disk).faults is.handled.failed is.handled.quiet is.locked.counted

  -- where memory was wanted, that is the history as it was
  pub reply_still : reply ≡ NoMemory → (is_due : Bool) → is_due ≡ new.is_due → IsLocked cluster table seen (record { node = new; table = old.table; slot = old.slot; known = old.known; is_due = is_due })
  reply_still wanted is_due due = locked_still seen cluster table old is.locked new is.is_node is.handled.device is_due due
      (subst (λ one. AreCounted (replied_events tells msg one events) (seen new.disk).faults) wanted counted)
      (subst (λ one. IsReplayed cluster seen (replied_events tells msg one events) new) wanted replayed)

  module _ (some : reply ≢ NoMemory) where
    -- and else it is that with the event
    with_event : IsReplayed cluster seen (shown tells (event_of msg reply) ∷ events) new
    with_event = subst (λ later. IsReplayed cluster seen later new) (reply_added tells msg reply events some) replayed

    pub reply_more : (is_due : Bool) → is_due ≡ new.is_due → (id : TableId) (slot : ℕ) (known : Known) → (id ≡ old.table) × (slot ≡ old.slot) → known ≡ advanced old.slot (shown tells (event_of msg reply)) old.known
        → IsLocked cluster table seen (record { node = new; table = id; slot = slot; known = known; is_due = is_due })
    reply_more is_due due id slot known kept added = locked_more seen cluster table old is.locked new is.is_node is.handled.device is_due due (shown tells (event_of msg reply)) id slot known kept added
        (subst (λ later. AreCounted later (seen new.disk).faults) (reply_added tells msg reply events some) counted) with_event

    -- the disk may hold something behind the event: what it holds, where it tells that, or what can be mounted
    disk : HasDisk cluster old.node.device (shown tells (event_of msg reply) ∷ events)
    disk = ⊎_elim
        (λ told. subst (λ device. HasDisk cluster device (shown tells (event_of msg reply) ∷ events)) is.handled.device
        (replayed_disk seen cluster (shown tells (event_of msg reply) ∷ events) new (subst (λ b. IsTelling b (seen new.disk).told) told (is.telling new.disk)) with_event))
        (λ silent. subst (λ event. HasDisk cluster old.node.device (event ∷ events)) (sym (shown_unless tells (event_of msg reply) silent))
        (mounts_too cluster old.node.device events (is.may.replayed old.node.device is.locked.slot)))
        (cases_Bool tells)

    -- so the event may be added
    pub reply_may : MayAdvance cluster old.slot (shown tells (event_of msg reply)) old.known
    reply_may = record {
      fair = reply_fair cluster (known_to cluster (view_of cluster old.known)) msg is.place tells reply (λ told. is.may.firm told);
      replayed = λ device has. subst (λ one. HasDisk cluster one (shown tells (event_of msg reply) ∷ events)) (one_device cluster old.node.device device old.slot is.locked.slot has) disk;
    }
