-- Where a node behind its lock mounts its places again: the event may be added, and what the disk holds stands for the history with it.
use Rattle.std.proofs.Common.{◌≡◌, ◌≢◌, ⊎_elim, ℕ, Bool, true, false, List, ◌∷◌, Option, Some, Result, Ok, Err, not, refl, sym, ap, ◌∙◌, subst}
use Rattle.std.specs.Result.{is_err, result_eq}
use Rattle.std.proofs.lemmas.Bool.{cases_Bool}
use Rattle.atomic_table.specs.Seated.{TableId}
use Rattle.sw_disk.specs.Runs.{IsTelling, Past, Seen}
use Rattle.sw_ring.specs.Cluster.{ClusterModel}
use Rattle.sw_message.specs.Message.{IsPlaceOf, place_in}
use Rattle.sw_message.specs.declared.message.Msg.{Msg}
use Rattle.sw_objsrv.specs.Mounting.{fault_of}
use Rattle.sw_objsrv.specs.Node.{IsNode, NodeModel, Remounts}
use Rattle.sw_objsrv.specs.declared.fault.MountFault.{MountFault}
use Rattle.sw_objsrv.specs.declared.fault.MountFault.TheVariants as fault
use Rattle.sw_view.specs.View.{known_to}
use Rattle.sw_view.specs.declared.event.Event.{Event}
use Rattle.sw_law_replayed.specs.Standing.{IsReplayed}
use Rattle.sw_law_replayed.proofs.Mounting.{remounted}
use Rattle.sw_pass.specs.Known.{history, view_of}
use Rattle.sw_pass.specs.Steps.{MayAdvance, advanced}
use Rattle.sw_pass.specs.declared.known.Known.{Known}
use Rattle.sw_cell.specs.Calling.{mount_event, remounted_events}
use Rattle.sw_cell.specs.Handling.{MayHandle}
use Rattle.sw_cell.specs.Locked.{AreCounted, IsLocked, LockedModel}
use Rattle.sw_cell.proofs.Adding.{locked_more, locked_still}
use Rattle.sw_cell.proofs.Events.{mount_added, mount_fair, mount_unless, mounted_if}
use Rattle.sw_cell.proofs.Failures.{mount_counted}
use Rattle.sw_cell.proofs.Slots.{one_device, slot_is}
use Rattle.sw_cell.proofs.Standing.{HasDisk, mounts_too, replayed_disk, replayed_if}

-- ---- what a mount returned

-- by a test of equality, whether memory was wanted
module _ (same : Unit {0} → Unit {0} → Bool) (equal : MountFault → MountFault → Bool) (mounted : Result Unit MountFault) (differs : Bool) (is : differs ≡ not (result_eq same equal mounted (Err fault.NoMemory))) where
  pub memory_wanted : differs ≡ false → equal fault.Failed fault.NoMemory ≡ false → fault_of mounted ≡ Some fault.NoMemory
  memory_wanted none apart = wanted mounted (sym is ∙ none)
    where
      wanted : (result : Result Unit MountFault) → not (result_eq same equal result (Err fault.NoMemory)) ≡ false → fault_of result ≡ Some fault.NoMemory
      wanted (Ok done) one = absurd (cc)
      wanted (Err fault.Failed) one = absurd (let both : true ≡ false = sym (ap not apart) ∙ one in cc)
      wanted (Err fault.NoMemory) one = refl

  pub memory_found : differs ≡ true → equal fault.NoMemory fault.NoMemory ≡ true → fault_of mounted ≢ Some fault.NoMemory
  memory_found some itself = found mounted (sym is ∙ some)
    where
      found : (result : Result Unit MountFault) → not (result_eq same equal result (Err fault.NoMemory)) ≡ true → fault_of result ≢ Some fault.NoMemory
      found (Ok done) two wanted = cc
      found (Err fault.Failed) two wanted = cc
      found (Err fault.NoMemory) two wanted = let both : false ≡ true = sym (ap not itself) ∙ two in cc

-- ---- what it leaves

-- What is known of a mount of the places, of a node behind its lock.
pub record IsRemount {D : Type 0} (seen : D → Seen) (left_since : D → Past) (tells : Bool) (cluster : ClusterModel) (table : TableId) (old : LockedModel D) (reason : Option MountFault) (new : NodeModel D) (is_due : Bool) : Type 0 where
  pub telling : (disk : D) → IsTelling tells (seen disk).told
  pub locked : IsLocked cluster table seen old
  pub was_due : old.is_due ≡ true
  pub is_node : IsNode cluster seen new
  pub remounts : Remounts seen left_since cluster reason old.node new
  pub due : is_due ≡ new.is_due

-- a mount is due behind it exactly where it was refused
due_behind : {D : Type 0} (seen : D → Seen) (left_since : D → Past) (cluster : ClusterModel) (mounted : Result Unit MountFault) (old new : NodeModel D) → Remounts seen left_since cluster (fault_of mounted) old new → is_err mounted ≡ new.is_due
due_behind seen left_since cluster (Ok done) old new remounts = sym (remounts.is_due refl)
due_behind seen left_since cluster (Err reason) old new remounts = sym (remounts.due reason refl)

-- from what the contracts say
pub remount_of : {D : Type 0} (seen : D → Seen) (left_since : D → Past) (tells : Bool) (now cluster : ClusterModel) (table : TableId) (old entry : LockedModel D) (mounted : Result Unit MountFault) (new : NodeModel D) (is_due : Bool)
    → ((disk : D) → IsTelling tells (seen disk).told) → now ≡ cluster → old ≡ entry → entry.is_due ≡ true → IsLocked cluster table seen old → IsNode now seen new → Remounts seen left_since now (fault_of mounted) old.node new
    → is_due ≡ is_err mounted → IsRemount seen left_since tells cluster table old (fault_of mounted) new is_due
remount_of {D} seen left_since tells now cluster table old entry mounted new is_due telling same view due locked is_node remounts is_error = record {
  telling = telling;
  locked = locked;
  was_due = ap (λ (one : LockedModel D). one.is_due) view ∙ due;
  is_node = subst (λ one. IsNode one seen new) same is_node;
  remounts = subst (λ one. Remounts seen left_since one (fault_of mounted) old.node new) same remounts;
  due = is_error ∙ due_behind seen left_since now mounted old.node new remounts;
}

module _ {D : Type 0} {seen : D → Seen} {left_since : D → Past} {tells : Bool} {cluster : ClusterModel} {table : TableId} {old : LockedModel D} {reason : Option MountFault} {new : NodeModel D} {is_due : Bool}
    (is : IsRemount seen left_since tells cluster table old reason new is_due) (msg : Msg) where
  abbrev events : List Event
  events = history old.known.histories old.slot

  -- what the disk holds stands for the history behind it
  replayed : IsReplayed cluster seen (remounted_events tells msg reason events) new
  replayed = replayed_if seen cluster (remounted_events tells msg reason events) new tells (is.telling new.disk) (λ told.
      subst (λ later. IsReplayed cluster seen later new) (mounted_if tells msg reason events told)
      (remounted seen left_since cluster events msg reason old.node new (sym is.locked.due ∙ is.was_due) is.locked.replayed is.remounts))

  -- and each failure was counted
  counted : AreCounted (remounted_events tells msg reason events) (seen new.disk).faults
  counted = mount_counted tells msg reason events (seen old.node.disk).faults (seen new.disk).faults is.remounts.mounts.failed is.remounts.mounts.quiet is.locked.counted

  -- where memory was wanted, that is the history as it was
  pub remount_still : reason ≡ Some fault.NoMemory → IsLocked cluster table seen (record { node = new; table = old.table; slot = old.slot; known = old.known; is_due = is_due })
  remount_still wanted = locked_still seen cluster table old is.locked new is.is_node is.remounts.device is_due is.due
      (subst (λ why. AreCounted (remounted_events tells msg why events) (seen new.disk).faults) wanted counted)
      (subst (λ why. IsReplayed cluster seen (remounted_events tells msg why events) new) wanted replayed)

  module _ (some : reason ≢ Some fault.NoMemory) where
    -- and else it is that with the event
    with_event : IsReplayed cluster seen (mount_event tells msg reason ∷ events) new
    with_event = subst (λ later. IsReplayed cluster seen later new) (mount_added tells msg reason events some) replayed

    pub remount_more : (id : TableId) (slot : ℕ) (known : Known) → (id ≡ old.table) × (slot ≡ old.slot) → known ≡ advanced old.slot (mount_event tells msg reason) old.known
        → IsLocked cluster table seen (record { node = new; table = id; slot = slot; known = known; is_due = is_due })
    remount_more id slot known kept added = locked_more seen cluster table old is.locked new is.is_node is.remounts.device is_due is.due (mount_event tells msg reason) id slot known kept added
        (subst (λ later. AreCounted later (seen new.disk).faults) (mount_added tells msg reason events some) counted) with_event

    module _ (may : MayHandle cluster tells old.slot msg old.known) where
      -- the disk may hold something behind the event: what it holds, where it tells that, or what can be mounted
      disk : HasDisk cluster old.node.device (mount_event tells msg reason ∷ events)
      disk = ⊎_elim
          (λ told. subst (λ device. HasDisk cluster device (mount_event tells msg reason ∷ events)) is.remounts.device
          (replayed_disk seen cluster (mount_event tells msg reason ∷ events) new (subst (λ b. IsTelling b (seen new.disk).told) told (is.telling new.disk)) with_event))
          (λ silent. subst (λ event. HasDisk cluster old.node.device (event ∷ events)) (sym (mount_unless tells msg reason silent))
          (mounts_too cluster old.node.device events
          (subst (λ slot. HasDisk cluster old.node.device (history old.known.histories slot)) (slot_is cluster old.node.device old.slot is.locked.is_node.rules is.locked.slot) (may.sound.closed.replayed old.node.device))))
          (cases_Bool tells)

      -- so the event may be added
      pub remount_may : IsPlaceOf cluster (place_in msg) → MayAdvance cluster old.slot (mount_event tells msg reason) old.known
      remount_may place = record {
        fair = mount_fair cluster (known_to cluster (view_of cluster old.known)) msg place tells reason (λ told. may.firm told);
        replayed = λ device has. subst (λ one. HasDisk cluster one (mount_event tells msg reason ∷ events)) (one_device cluster old.node.device device old.slot is.locked.slot has) disk;
      }
