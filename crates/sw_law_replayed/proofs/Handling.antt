-- Where a mounted node handles a message, what its disk holds goes on standing for the history of its device.
use Rattle.std.proofs.Common.{◌≡◌, ◌≢◌, ◌⊎◌, inl, inr, ⊎_elim, ℕ, ◌-◌, Bool, true, false, List, ◌∷◌, Option, None, Some, refl, sym, ap, subst, ◌∙◌}
use Rattle.std.proofs.Math.Path.{fun_ext}
use Rattle.std.proofs.lemmas.Bool.{cases_Bool}
use Rattle.sw_disk.specs.Runs.{IfTold, Past, Seen}
use Rattle.sw_disk.specs.State.{State, free_of}
use Rattle.sw_hashpath.specs.Place.{IsPlace, PlaceModel, folder_of}
use Rattle.sw_hashpath.proofs.Folders.{one_place}
use Rattle.sw_diskfile.specs.Changes.{IsAsBefore}
use Rattle.sw_diskfile.specs.Normal.{HaveOneNormalForm}
use Rattle.sw_diskfile.proofs.Directories.{same_or_other}
use Rattle.sw_diskfile.proofs.Normal.{same_itself}
use Rattle.sw_ring.specs.Cluster.{ClusterModel}
use Rattle.sw_message.specs.Message.{IsPlaceOf, is_primary, place_in}
use Rattle.sw_message.specs.Step.{Folders, IsNodeStep, IsStepAt}
use Rattle.sw_message.specs.declared.message.Msg.{Msg}
use Rattle.sw_message.specs.declared.reply.Reply.{Reply}
use Rattle.sw_message.specs.declared.reply.Reply.TheVariants.{DiskFault, NoMemory}
use Rattle.sw_objsrv.specs.Handling.{IsBeforeOrAfter, folders_of}
use Rattle.sw_objsrv.specs.Node.{Handled as NodeHandled, IsByTable, IsNode, IsUnchanging, NodeModel}
use Rattle.sw_law_scene.specs.Devices.{IsDeviceStep, IsFree, capacity_of}
use Rattle.sw_law_scene.specs.Disks.{IsSide, Sure, Undecided}
use Rattle.sw_view.specs.History.{Replays}
use Rattle.sw_view.specs.declared.event.Event.{Event}
use Rattle.sw_view.specs.declared.event.Event.TheVariants.{Faulted, Handled}
use Rattle.sw_law_replayed.specs.Keeping.{HasStep, KeepsHandled, handled_events}
use Rattle.sw_law_replayed.specs.Standing.{IsLike, StandsFor}
use Rattle.sw_law_replayed.proofs.Forms.{one_form}
use Rattle.sw_law_replayed.proofs.Told.{GoesOn, handled_told}

-- ---- disks that tell

-- a fact of what a disk holds, where it tells just that
told_is : (P : State → Type 0) (told : Option State) (state : State) → told ≡ Some state → IfTold told P → P state
told_is P told state is fact = subst (λ (some : Option State). IfTold some P) is fact

-- it is known once it is of each state that may be told
if_told : (P : State → Type 0) (told : Option State) → ((state : State) → told ≡ Some state → P state) → IfTold told P
if_told P None each = tt
if_told P (Some state) each = each state refl

-- what tells has told before, with the same capacity
told_before : (old new : Option State) (later : State) → GoesOn old new → new ≡ Some later → (earlier : State) × (old ≡ Some earlier) × (later.capacity ≡ earlier.capacity)
told_before None new later goes is = absurd (cc)
told_before (Some earlier) new later goes is =
    let state = goes.0 in
    let told = goes.1 in
    let same : later ≡ state = cc in
    (earlier, refl, ap (λ (s : State). s.capacity) same ∙ goes.2)

-- ---- replies

-- the disk failed, or memory was wanted, or the reply is one by the table and goes into the history
kind_of : (msg : Msg) (reply : Reply) → (reply ≡ DiskFault) ⊎ ((reply ≡ NoMemory) ⊎ (IsByTable reply × ((events : List Event) → handled_events msg reply events ≡ Handled msg reply ∷ events)))
kind_of msg DiskFault = inl refl
kind_of msg NoMemory = inr (inl refl)
kind_of msg other = inr (inr ((λ is. absurd (cc), λ is. absurd (cc)), λ events. refl))

-- a step leaves each folder but that of the place of its message
step_others : (cluster : ClusterModel) (device room : ℕ) (msg : Msg) (place : PlaceModel) (before after : Folders) (reply : Reply) → place_in msg ≡ Some place
    → IsNodeStep cluster device room msg before after reply → (name : List ℕ) → name ≢ folder_of place → after name ≡ before name
step_others cluster device room msg place before after reply about step =
    (subst (λ (found : Option PlaceModel). IsStepAt cluster device room msg found before after reply) about step).changed.others

-- ---- one handling, of a disk that tells before and after it

-- what is known of it
record IsTold {D : Type 0} (seen : D → Seen) (left_since : D → Past) (cluster : ClusterModel) (events : List Event) (msg : Msg) (reply : Reply) (old new : NodeModel D) (before after : State) : Type 0 where
  old_told : (seen old.disk).told ≡ Some before
  new_told : (seen new.disk).told ≡ Some after
  is_node : IsNode cluster seen old
  mounted : old.is_due ≡ false
  right : IsPlaceOf cluster (place_in msg)
  has_step : HasStep cluster old.device events msg
  replays : Replays cluster old.device events (Sure (folders_of before))
  capacity : before.capacity ≡ capacity_of cluster old.device
  handled : NodeHandled seen left_since cluster msg reply old new

module _ {D : Type 0} (seen : D → Seen) (left_since : D → Past) (cluster : ClusterModel) (events : List Event) (msg : Msg) (reply : Reply) (old new : NodeModel D) (before after : State) (is : IsTold seen left_since cluster events msg reply old new before after) where
  -- a fact of both states
  both : (P : State → State → Type 0) → IfTold (seen old.disk).told (λ earlier. IfTold (seen new.disk).told (λ later. P earlier later)) → P before after
  both P fact = told_is (P before) (seen new.disk).told after is.new_told
      (told_is (λ earlier. IfTold (seen new.disk).told (λ later. P earlier later)) (seen old.disk).told before is.old_told fact)

  -- the bytes that are free are those that the files leave of the capacity of the device
  free : IsFree (capacity_of cluster old.device) (folders_of before) (free_of before)
  free =
      let accounted = told_is _ (seen old.disk).told before is.old_told (is.is_node.accounted is.mounted) in
      record {
        names = accounted.names;
        distinct = accounted.distinct;
        others = accounted.others;
        room_is = ap (λ (n : ℕ). n - before.used) is.capacity ∙ ap (λ (n : ℕ). capacity_of cluster old.device - n) accounted.used_is;
      }

  -- so the step of a node is one of the device
  device_step : (answer : Reply) (later : Folders) → IsNodeStep cluster old.device (free_of before) msg (folders_of before) later answer → IsDeviceStep cluster old.device msg answer (folders_of before) later
  device_step answer later step = record { room = free_of before; free = free; step = step }

  -- every folder but that of the place of the message is as before
  elsewhere : (name : List ℕ) → ((place : PlaceModel) → place_in msg ≡ Some place → name ≢ folder_of place) → folders_of after name ≡ folders_of before name
  elsewhere name other = (both (λ earlier later. IsAsBefore (earlier.folder name) (later.folder name)) (is.handled.others.stands name other)).files

  -- ---- each kind of reply

  -- a reply by the table is that of a step
  by_table : IsByTable reply → Replays cluster old.device (Handled msg reply ∷ events) (Sure (folders_of after))
  by_table table = (
    folders_of before,
    folders_of after,
    is.replays,
    device_step reply (folders_of after) (both (λ earlier later. IsNodeStep cluster old.device (free_of earlier) msg (folders_of earlier) (folders_of later) reply) (is.handled.step table)),
    refl,
  )

  -- where memory was wanted all folders are as before
  unchanged : IsUnchanging reply → folders_of after ≡ folders_of before
  unchanged none = fun_ext (λ name. (both (λ earlier later. IsAsBefore (earlier.folder name) (later.folder name)) ((is.handled.kept none).0.stands name tt)).files)

  -- so the history stays, and so does what it replays to
  by_memory : reply ≡ NoMemory → Replays cluster old.device events (Sure (folders_of after))
  by_memory wanted = subst (λ (folders : Folders). Replays cluster old.device events (Sure folders)) (sym (unchanged (subst IsUnchanging (sym wanted) tt))) is.replays

  -- the disk failed: it is undecided between what it held and what a step leaves of that, and like one of them
  undecided : (answer : Reply) (later side : Folders) → IsDeviceStep cluster old.device msg answer (folders_of before) later → IsSide (Undecided (folders_of before) later) side → IsLike cluster old.device side (folders_of after)
      → StandsFor cluster old.device (Faulted msg ∷ events) true (folders_of after)
  undecided answer later side step is_side like = (folders_of before, later, side, (Sure (folders_of before), is.replays, (answer, later, step, refl)), is_side, like)

  -- it is like what it held, with whatever step
  as_before : IsLike cluster old.device (folders_of before) (folders_of after) → StandsFor cluster old.device (Faulted msg ∷ events) true (folders_of after)
  as_before like =
      let step = is.has_step (folders_of before) is.replays in
      undecided step.0 step.1 (folders_of before) step.2 (inl refl) like

  -- the same files have one normal form
  same_files : (place : PlaceModel) (side : Folders) → folders_of after (folder_of place) ≡ side (folder_of place) → HaveOneNormalForm (is_primary cluster old.device place) (side (folder_of place)) (folders_of after (folder_of place))
  same_files place side same = subst (HaveOneNormalForm (is_primary cluster old.device place) (side (folder_of place))) (sym same) (same_itself (is_primary cluster old.device place) (side (folder_of place)))

  -- The disk is like a side where the two have one normal form in the folder of the message's place, and the side is as before elsewhere.
  like_at : (place : PlaceModel) → place_in msg ≡ Some place → (side : Folders) → HaveOneNormalForm (is_primary cluster old.device place) (side (folder_of place)) (folders_of after (folder_of place))
      → ((name : List ℕ) → name ≢ folder_of place → side name ≡ folders_of before name) → IsLike cluster old.device side (folders_of after)
  like_at place about side here others =
      let is_place : IsPlace cluster.part_power place = subst (IsPlaceOf cluster) about is.right in
      let apart : (name : List ℕ) → name ≢ folder_of place → folders_of after name ≡ side name =
      λ name other. elsewhere name (λ that some same. other (same ∙ ap folder_of (let one : that ≡ place = cc in one))) ∙ sym (others name other) in
      record {
        normal = λ other is_other. ⊎_elim
            (λ same. subst (λ (p : PlaceModel). HaveOneNormalForm (is_primary cluster old.device p) (side (folder_of p)) (folders_of after (folder_of p))) (sym (one_place cluster.part_power other place is_other is_place same.1)) here)
            (λ differ. same_files other side (apart (folder_of other) differ.1))
            (same_or_other (folder_of other) (folder_of place));
        others = λ name none. apart name (none place is_place);
      }

  -- the side is that of before, or what the step leaves whose normal form is there
  fault_at : (found : Option PlaceModel) → place_in msg ≡ found → StandsFor cluster old.device (Faulted msg ∷ events) true (folders_of after)
  fault_at None about =
      let same : (name : List ℕ) → folders_of after name ≡ folders_of before name = λ name. elsewhere name (λ place some. absurd (cc)) in
      as_before (record { normal = λ place is_place. same_files place (folders_of before) (same (folder_of place)); others = λ name none. same name })
  fault_at (Some place) about =
      let primary = is_primary cluster old.device place in
      let decided = both (λ earlier later. IsBeforeOrAfter cluster old.device (free_of earlier) msg place (folders_of earlier) (folders_of later (folder_of place))) (is.handled.undecided place about) in
      ⊎_elim
      (λ stays. as_before (like_at place about (folders_of before) (one_form primary (folders_of after (folder_of place)) (folders_of before (folder_of place)) stays) (λ name other. refl)))
      (λ goes. undecided goes.1 goes.0 goes.0 (device_step goes.1 goes.0 goes.2) (inr refl)
      (like_at place about goes.0 (one_form primary (folders_of after (folder_of place)) (goes.0 (folder_of place)) goes.3) (step_others cluster old.device (free_of before) msg place (folders_of before) goes.0 goes.1 about goes.2)))
      decided.normal

  -- ---- together

  -- nothing but a failure makes a mount due
  still_mounted : reply ≢ DiskFault → new.is_due ≡ false
  still_mounted none = ⊎_elim (λ due. absurd (none (is.handled.is_due due))) (λ mounted. mounted) (cases_Bool new.is_due)

  -- whatever the reply is
  stands : StandsFor cluster old.device (handled_events msg reply events) new.is_due (folders_of after)
  stands = elim (kind_of msg reply) [
    | inl failed ↦ move (Faulted msg ∷ events) true (ap (λ (r : Reply). handled_events msg r events) failed) (is.handled.due failed) (fault_at (place_in msg) refl)
    | inr (inl wanted) ↦ move events false (ap (λ (r : Reply). handled_events msg r events) wanted) (still_mounted (λ failed. absurd (cc))) (by_memory wanted)
    | inr (inr table) ↦ move (Handled msg reply ∷ events) false (table.1 events) (still_mounted table.0.0) (by_table table.0)
  ]
    where
      move : (history : List Event) (due : Bool) → handled_events msg reply events ≡ history → new.is_due ≡ due → StandsFor cluster old.device history due (folders_of after)
          → StandsFor cluster old.device (handled_events msg reply events) new.is_due (folders_of after)
      move history due same is_due fact = subst (λ (h : List Event). StandsFor cluster old.device h new.is_due (folders_of after)) (sym same)
          (subst (λ (d : Bool). StandsFor cluster old.device history d (folders_of after)) (sym is_due) fact)

-- ---- whether it tells or not

-- the capacity is what it was
still_capacity : (capacity : ℕ) (old new : Option State) → GoesOn old new → IfTold old (λ state. state.capacity ≡ capacity) → IfTold new (λ state. state.capacity ≡ capacity)
still_capacity capacity old new goes had = if_told (λ state. state.capacity ≡ capacity) new (λ later is.
    let earlier = told_before old new later goes is in
    earlier.2 ∙ told_is (λ state. state.capacity ≡ capacity) old earlier.0 earlier.1 had)

-- What the disk holds, where it tells, stands for the history.
pub handled : {D : Type 0} (seen : D → Seen) (left_since : D → Past) → KeepsHandled seen left_since
handled {D} seen left_since cluster events msg reply old new is_node mounted right has_step replayed handles = record {
  folders = subst (λ (device : ℕ). IfTold (seen new.disk).told (λ state. StandsFor cluster device (handled_events msg reply events) new.is_due (folders_of state))) (sym handles.device)
      (if_told (λ state. StandsFor cluster old.device (handled_events msg reply events) new.is_due (folders_of state)) (seen new.disk).told stands_now);
  capacity = subst (λ (device : ℕ). IfTold (seen new.disk).told (λ state. state.capacity ≡ capacity_of cluster device)) (sym handles.device)
      (still_capacity (capacity_of cluster old.device) (seen old.disk).told (seen new.disk).told goes replayed.capacity);
}
  where
    goes : GoesOn (seen old.disk).told (seen new.disk).told
    goes = handled_told seen left_since cluster msg reply old new handles

    stands_now : (after : State) → (seen new.disk).told ≡ Some after → StandsFor cluster old.device (handled_events msg reply events) new.is_due (folders_of after)
    stands_now after new_told =
        let earlier = told_before (seen old.disk).told (seen new.disk).told after goes new_told in
        let before = earlier.0 in
        let stood = told_is (λ state. StandsFor cluster old.device events old.is_due (folders_of state)) (seen old.disk).told before earlier.1 replayed.folders in
        stands seen left_since cluster events msg reply old new before after (record {
          old_told = earlier.1;
          new_told = new_told;
          is_node = is_node;
          mounted = mounted;
          right = right;
          has_step = has_step;
          replays = subst (λ (due : Bool). StandsFor cluster old.device events due (folders_of before)) mounted stood;
          capacity = told_is (λ state. state.capacity ≡ capacity_of cluster old.device) (seen old.disk).told before earlier.1 replayed.capacity;
          handled = handles;
        })
