-- What a mounted node is after it handled a message.
use Rattle.std.proofs.Common.{◌≡◌, ◌≢◌, ◌⊎◌, inl, inr, ℕ, ◌≤◌, Bool, false, List, IfOk, OnErr, OnOk, Option, Some, None, Result, Ok, Err, refl, sym, ap, subst, ◌∙◌, [], ◌∷◌}
use Rattle.std.specs.Prelude.{⊤}
use Rattle.sw_disk.specs.Calls.{Call}
use Rattle.sw_disk.specs.Folder.{Content, File, IsImage, files_of}
use Rattle.sw_disk.specs.Runs.{IfTold, IsTelling, LeavesOnly, Past, Seen, refusal_of}
use Rattle.sw_disk.specs.State.{State, free_of}
use Rattle.sw_disk.specs.declared.refusal.DiskRefusal.{DiskRefusal}
use Rattle.sw_disk.specs.declared.refusal.DiskRefusal.TheVariants as refusal
use Rattle.sw_disk.proofs.Chains.{told_map}
use Rattle.sw_hashpath.specs.Place.{PlaceModel, folder_of}
use Rattle.sw_hashdir.specs.declared.floor.Floor.{Floor}
use Rattle.sw_diskfile.specs.Changes.{AreSynced, IsAsBefore, Keeps}
use Rattle.sw_diskfile.proofs.Outcomes.{keeps_run}
use Rattle.sw_suffix.specs.Table.{floor_at}
use Rattle.sw_ring.specs.Cluster.{ClusterModel}
use Rattle.sw_message.specs.Message.{IsMember, IsPlaceOf, is_primary, place_in}
use Rattle.sw_message.specs.Step.{IsNodeStep, IsStepAt}
use Rattle.sw_diskfile.proofs.Steps.{changes_by}
use Rattle.sw_message.specs.Survey.{survey_calls}
use Rattle.sw_message.specs.Table.{IsHandled}
use Rattle.sw_message.specs.declared.message.Msg.{Msg}
use Rattle.sw_message.specs.declared.reply.Reply.{Reply}
use Rattle.sw_objsrv.specs.Folder.{AreInOrder, HaveSameFloors, IsInOrder}
use Rattle.sw_objsrv.specs.Handling.{AreListed, HandlesAt, HandlesSurvey, IsAnswered, IsBeforeOrAfter, IsStamped, StopsAt, StopsSurvey, Surveys, folders_of, refused_reply, reply_of}
use Rattle.sw_objsrv.specs.Node.{Handled, IfBothStates, IfSynced, IsByTable, IsNode, IsUnchanging, NodeModel}
use Rattle.sw_objsrv.proofs.Accounting.{answered_accounted}
use Rattle.sw_objsrv.proofs.Ended.{Ended, failed_counts, fails_fault, fault_fails, has_failed, other_quiet, placed_ended, stopped_ended, survey_ended}
use Rattle.sw_objsrv.proofs.Fetched.{stops_reading}
use Rattle.sw_objsrv.proofs.InOrder.{orders_kept}
use Rattle.sw_objsrv.proofs.PlaceStep.{Leaves, kept_leaves, kept_these, leaves, leaves_within, placed_keeps, placed_step}
use Rattle.sw_objsrv.proofs.SurveyStep.{survey_quiet, survey_step}
use Rattle.sw_objsrv.proofs.Told.{both_each, both_follow, told_both}

-- the folders that are not that of the message's place
abbrev pub IsElsewhere : Msg → List ℕ → Type 0
IsElsewhere message name = (place : PlaceModel) → place_in message ≡ Some place → name ≢ folder_of place

module _ {D : Type 0} (seen : D → Seen) (left_since : D → Past) (cluster : ClusterModel) (device : ℕ) (floors : List (PlaceModel × Floor)) (message : Msg) (a b : D)
    (now : (name : List ℕ) (image : List File) → IfTold (seen a).told (λ s. IsImage (s.folder name) image → left_since a (seen a).moment name image))
    (only : (name : List ℕ) (image : List File) → left_since a (seen a).moment name image → IfTold (seen a).told (λ s. IsImage (s.folder name) image))
    (earlier : (since later : ℕ) (name : List ℕ) (image : List File) → since ≤ later → left_since a later name image → left_since a since name image)
    (orders : IfTold (seen a).told (AreInOrder cluster device floors)) where
  abbrev IsUnmade : Result Reply DiskRefusal → Type 0
  IsUnmade result = (reason : DiskRefusal) → refusal_of result ≡ Some reason → reason ≢ refusal.Failed → Keeps seen left_since (λ _. ⊤) a b

  abbrev Decided : PlaceModel → State → List File → Type 0
  Decided place before files = IsBeforeOrAfter cluster device (free_of before) message place (folders_of before) files

  abbrev LeavesDecided : PlaceModel → State → Type 0
  LeavesDecided place before = (t : ℕ) (image : List File) → t ≤ (seen a).moment → left_since b t (folder_of place) image → left_since a t (folder_of place) image ⊎ Decided place before image

  -- what is known of the disk once a message was handled
  pub record Answers (result : Result Reply DiskRefusal) : Type 0 where
    pub ended : Ended (seen a) (seen b) result
    pub step : IsByTable (reply_of result) → IfBothStates (seen a) (seen b) (λ before after. IsNodeStep cluster device (free_of before) message (folders_of before) (folders_of after) (reply_of result))
    pub kept : IsUnchanging (reply_of result) → Keeps seen left_since (λ _. ⊤) a b
    pub undecided : (place : PlaceModel) → place_in message ≡ Some place → IfBothStates (seen a) (seen b) (λ before after. Decided place before (files_of (after.folder (folder_of place))))
    pub crash : (place : PlaceModel) → place_in message ≡ Some place → IfSynced (seen a) (folder_of place) (LeavesDecided place)
    pub crash_within : (place : PlaceModel) → place_in message ≡ Some place → IfSynced (seen a) (folder_of place) (λ before. LeavesOnly left_since b (seen a).moment (folder_of place) (Decided place before))
    pub synced : (place : PlaceModel) → place_in message ≡ Some place → IfBothStates (seen a) (seen b) (λ before after. AreSynced (files_of (before.folder (folder_of place))) → AreSynced (files_of (after.folder (folder_of place))))
    pub others : Keeps seen left_since (IsElsewhere message) a b

  -- ---- about a place

  one_about : (place other : PlaceModel) → place_in message ≡ Some place → place_in message ≡ Some other → place ≡ other
  one_about place other is also = cc

  here : (place : PlaceModel) → IsPlaceOf cluster (Some place) → IfTold (seen a).told (λ state. IsInOrder (is_primary cluster device place) (floor_at place floors) (state.folder (folder_of place)))
  here place is_place = told_map (seen a).told (AreInOrder cluster device floors) (λ state. IsInOrder (is_primary cluster device place) (floor_at place floors) (state.folder (folder_of place))) orders (λ state all. all place is_place)

  place_answers : (place : PlaceModel) (about : place_in message ≡ Some place) (result : Result Reply DiskRefusal) → Ended (seen a) (seen b) result
      → (IsByTable (reply_of result) → IfBothStates (seen a) (seen b) (λ before after. IsNodeStep cluster device (free_of before) message (folders_of before) (folders_of after) (reply_of result)))
      → (IsUnchanging (reply_of result) → Keeps seen left_since (λ _. ⊤) a b) → Leaves cluster device message place about seen left_since a b
      → IfSynced (seen a) (folder_of place) (λ before. LeavesOnly left_since b (seen a).moment (folder_of place) (Decided place before)) → Answers result
  place_answers place about result ended step kept left within = record {
    ended = ended;
    step = step;
    kept = kept;
    undecided = λ other is. subst (λ (p : PlaceModel). IfBothStates (seen a) (seen b) (λ before after. Decided p before (files_of (after.folder (folder_of p))))) (one_about place other about is) left.undecided;
    crash = λ other is. subst (λ (p : PlaceModel). IfSynced (seen a) (folder_of p) (LeavesDecided p)) (one_about place other about is) left.crash;
    crash_within = λ other is. subst (λ (p : PlaceModel). IfSynced (seen a) (folder_of p) (λ before. LeavesOnly left_since b (seen a).moment (folder_of p) (Decided p before))) (one_about place other about is) within;
    synced = λ other is. subst (λ (p : PlaceModel). IfBothStates (seen a) (seen b) (λ before after. AreSynced (files_of (before.folder (folder_of p))) → AreSynced (files_of (after.folder (folder_of p))))) (one_about place other about is) left.synced;
    others = record { stands = λ name elsewhere. left.others.stands name (elsewhere place about); leaves = λ some name elsewhere. left.others.leaves some name (elsewhere place about) };
  }

  -- a read that was stopped changes nothing
  stopped_keeps : (calls : List Call) → ((name : List ℕ) (temporary : Option Content) → changes_by name calls temporary ≡ []) → (result : Result Reply DiskRefusal) → StopsAt seen left_since calls result a b → IsUnmade result → Keeps seen left_since (λ _. ⊤) a b
  stopped_keeps calls quiet (Ok reply) stopped unmade = absurd stopped
  stopped_keeps calls quiet (Err refusal.Failed) stopped unmade = keeps_run seen left_since (λ _. ⊤) calls (λ name _. quiet name) a b now earlier (Some refusal.Failed) stopped
  stopped_keeps calls quiet (Err (refusal.Full need free)) stopped unmade = absurd stopped
  stopped_keeps calls quiet (Err refusal.NoMemory) stopped unmade = unmade refusal.NoMemory refl (λ is. cc)

  no_table : (calls : List Call) (result : Result Reply DiskRefusal) → StopsAt seen left_since calls result a b → IsByTable (reply_of result) → ⊥
  no_table calls (Ok reply) stopped by_table = stopped
  no_table calls (Err refusal.Failed) stopped by_table = by_table.0 refl
  no_table calls (Err (refusal.Full need free)) stopped by_table = stopped
  no_table calls (Err refusal.NoMemory) stopped by_table = by_table.1 refl

  within : (place : PlaceModel) (about : place_in message ≡ Some place) → IsPlaceOf cluster (Some place) → IsStamped message → Leaves cluster device message place about seen left_since a b
      → IfSynced (seen a) (folder_of place) (λ before. LeavesOnly left_since b (seen a).moment (folder_of place) (Decided place before))
  within place about is_place stamped left = leaves_within cluster device message place about seen left_since a b (floor_at place floors) stamped now only earlier (here place is_place) left

  placed : (place : PlaceModel) → place_in message ≡ Some place → IsPlaceOf cluster (Some place) → IsStamped message → (result : Result Reply DiskRefusal) → HandlesAt seen left_since cluster device floors message (Some place) result a b
      → IsUnmade result → Answers result
  placed place about is_place stamped result (inl handles) unmade =
      let left = leaves cluster device message place about seen left_since a b (floor_at place floors) stamped now only earlier (here place is_place) result handles unmade in
      place_answers place about result
      (placed_ended seen left_since a b (folder_of place) (λ found. IsHandled cluster device found message) result handles)
      (placed_step cluster device message place about seen left_since a b (floor_at place floors) stamped now only earlier (here place is_place) result handles unmade)
      (placed_keeps cluster device message place about seen left_since a b (floor_at place floors) stamped now only earlier (here place is_place) result handles unmade)
      left (within place about is_place stamped left)
  placed place about is_place stamped result (inr read) unmade =
      let stopped = stops_reading seen left_since a b message result read in
      let kept = stopped_keeps stopped.0 stopped.1 result stopped.2 unmade in
      let left = kept_leaves cluster device message place about seen left_since a b (floor_at place floors) stamped now only earlier (here place is_place) kept in
      place_answers place about result (stopped_ended seen left_since a b stopped.0 result stopped.2) (λ by_table. absurd (no_table stopped.0 result stopped.2 by_table)) (λ unchanging. kept)
      left (within place about is_place stamped left)

  -- ---- about no place

  -- one that was stopped changes nothing, and has no answer
  keeps_survey : (calls : List Call) → ((name : List ℕ) (temporary : Option Content) → changes_by name calls temporary ≡ []) → (reason : DiskRefusal) → StopsSurvey seen left_since calls reason a b → IsUnmade (Err reason) → Keeps seen left_since (λ _. ⊤) a b
  keeps_survey [] quiet reason want unmade = unmade refusal.NoMemory (ap (λ (r : DiskRefusal). Some r) want.0) (λ is. cc)
  keeps_survey (call ∷ calls) quiet reason stopped unmade = stopped_keeps (call ∷ calls) quiet (Err reason) stopped unmade

  no_survey : (calls : List Call) (reason : DiskRefusal) → StopsSurvey seen left_since calls reason a b → IsByTable (refused_reply reason) → ⊥
  no_survey [] reason want by_table = by_table.1 (ap refused_reply want.0)
  no_survey (call ∷ calls) reason stopped by_table = no_table (call ∷ calls) (Err reason) stopped by_table

  survey_keeps : (result : Result Reply DiskRefusal) → HandlesSurvey seen left_since cluster.part_power floors message result a b → IsUnmade result → Keeps seen left_since (λ _. ⊤) a b
  survey_keeps (Ok reply) surveys unmade = keeps_run seen left_since (λ _. ⊤) (survey_calls message) (λ name _ temporary. survey_quiet message name temporary) a b now earlier None surveys.runs
  survey_keeps (Err reason) stopped unmade = keeps_survey (survey_calls message) (survey_quiet message) reason stopped unmade

  abbrev Stepped : Reply → State → State → Type 0
  Stepped reply before after = IsNodeStep cluster device (free_of before) message (folders_of before) (folders_of after) reply

  told_step : (reply : Reply) → place_in message ≡ None → Surveys seen left_since cluster.part_power floors message reply a b → Keeps seen left_since (λ _. ⊤) a b → IfBothStates (seen a) (seen b) (Stepped reply)
  told_step reply about surveys kept =
      let busy = AreListed message surveys.listed in
      let same = λ (before after : State). (name : List ℕ) → IsAsBefore (before.folder name) (after.folder name) in
      both_follow (seen a).told (seen b).told (λ state. AreInOrder cluster device floors state × busy state) same (Stepped reply)
      (λ before after has same. subst (λ (at : Option PlaceModel). IsStepAt cluster device (free_of before) message at (folders_of before) (folders_of after) reply) (sym about)
      (survey_step cluster device floors message reply before after surveys.listed has.0 has.1 surveys.surveyed same))
      (told_both (seen a).told (AreInOrder cluster device floors) busy orders surveys.are_listed)
      (both_each (seen a).told (seen b).told (λ (name : List ℕ) before after. IsAsBefore (before.folder name) (after.folder name)) (λ name. kept.stands name tt))

  surveyed_step : place_in message ≡ None → (result : Result Reply DiskRefusal) → HandlesSurvey seen left_since cluster.part_power floors message result a b → IsUnmade result → IsByTable (reply_of result)
      → IfBothStates (seen a) (seen b) (Stepped (reply_of result))
  surveyed_step about (Ok reply) surveys unmade by_table = told_step reply about surveys (survey_keeps (Ok reply) surveys unmade)
  surveyed_step about (Err reason) stopped unmade by_table = absurd (no_survey (survey_calls message) reason stopped by_table)

  not_about : (place : PlaceModel) → place_in message ≡ None → place_in message ≡ Some place → ⊥
  not_about place none some = cc

  surveyed : place_in message ≡ None → (result : Result Reply DiskRefusal) → HandlesSurvey seen left_since cluster.part_power floors message result a b → IsUnmade result → Answers result
  surveyed about result handles unmade =
      let kept = survey_keeps result handles unmade in
      record {
        ended = survey_ended seen left_since a b cluster.part_power floors message result handles;
        step = surveyed_step about result handles unmade;
        kept = λ unchanging. kept;
        undecided = λ place is. absurd (not_about place about is);
        crash = λ place is. absurd (not_about place about is);
        crash_within = λ place is. absurd (not_about place about is);
        synced = λ place is. absurd (not_about place about is);
        others = kept_these seen left_since (IsElsewhere message) a b kept;
      }

  -- ---- about either

  answers_at : (about : Option PlaceModel) → place_in message ≡ about → IsPlaceOf cluster about → IsStamped message → (result : Result Reply DiskRefusal) → HandlesAt seen left_since cluster device floors message about result a b
      → IsUnmade result → Answers result
  answers_at None about is_place stamped result handles unmade = surveyed about result handles unmade
  answers_at (Some place) about is_place stamped result handles unmade = placed place about is_place stamped result handles unmade

  pub answers : IsPlaceOf cluster (place_in message) → IsStamped message → (result : Result Reply DiskRefusal) → IsAnswered seen left_since cluster device floors message result a b → IsUnmade result → Answers result
  answers is_place stamped result handles unmade = answers_at (place_in message) refl is_place stamped result handles unmade

-- ---- the node

module _ {D : Type 0} (seen : D → Seen) (left_since : D → Past) (cluster : ClusterModel) (message : Msg) (old new : NodeModel D) (result : Result Reply DiskRefusal)
    (now : (name : List ℕ) (image : List File) → IfTold (seen old.disk).told (λ s. IsImage (s.folder name) image → left_since old.disk (seen old.disk).moment name image))
    (only : (name : List ℕ) (image : List File) → left_since old.disk (seen old.disk).moment name image → IfTold (seen old.disk).told (λ s. IsImage (s.folder name) image))
    (earlier : (since later : ℕ) (name : List ℕ) (image : List File) → since ≤ later → left_since old.disk later name image → left_since old.disk since name image)
    (node : IsNode cluster seen old) (mounted : old.is_due ≡ false)
    (unmade : (reason : DiskRefusal) → refusal_of result ≡ Some reason → reason ≢ refusal.Failed → Keeps seen left_since (λ _. ⊤) old.disk new.disk)
    (refused : OnErr result (HaveSameFloors new.floors old.floors)) (device : new.device ≡ old.device) (due : new.is_due ≡ has_failed result) where
  pub handled : IsPlaceOf cluster (place_in message) → IsStamped message → IsAnswered seen left_since cluster old.device old.floors message result old.disk new.disk
      → IfOk result (λ reply. IsUnchanging reply → HaveSameFloors new.floors old.floors) → Handled seen left_since cluster message (reply_of result) old new
  handled is_place stamped answered same =
      let all = answers seen left_since cluster old.device old.floors message old.disk new.disk now only earlier (node.in_order mounted) is_place stamped result answered unmade in
      record {
        answered = (result, refl, answered);
        step = all.step;
        kept = λ unchanging. (all.kept unchanging, same_floors result refused same unchanging);
        undecided = all.undecided;
        crash = all.crash;
        crash_within = all.crash_within;
        synced = all.synced;
        others = all.others;
        is_due = λ is. fails_fault result (sym due ∙ is);
        due = λ fault. due ∙ fault_fails (seen old.disk) (seen new.disk) result all.ended fault;
        failed = failed_counts (seen old.disk) (seen new.disk) result all.ended;
        quiet = other_quiet (seen old.disk) (seen new.disk) result all.ended;
        accounted = answered_accounted seen left_since cluster old.device old.floors message result old.disk new.disk answered;
        device = device;
      }
    where
      same_floors : (ended : Result Reply DiskRefusal) → OnErr ended (HaveSameFloors new.floors old.floors) → IfOk ended (λ reply. IsUnchanging reply → HaveSameFloors new.floors old.floors) → IsUnchanging (reply_of ended)
          → HaveSameFloors new.floors old.floors
      same_floors (Ok reply) err ok unchanging = ok unchanging
      same_floors (Err reason) err ok unchanging = err

  -- ---- it stays a node

  other_orders : (tells : Bool) → IsTelling tells (seen old.disk).told → IsTelling tells (seen new.disk).told → Keeps seen left_since (λ _. ⊤) old.disk new.disk → HaveSameFloors new.floors old.floors
      → IfTold (seen new.disk).told (AreInOrder cluster old.device new.floors)
  other_orders tells first second kept same =
      orders_kept cluster old.device old.floors new.floors tells (seen old.disk).told (seen new.disk).told first second same (λ folder. kept.stands folder tt) (node.in_order mounted)

  ended_orders : (tells : Bool) → IsTelling tells (seen old.disk).told → IsTelling tells (seen new.disk).told → (ended : Result Reply DiskRefusal) → has_failed ended ≡ false
      → ((reason : DiskRefusal) → refusal_of ended ≡ Some reason → reason ≢ refusal.Failed → Keeps seen left_since (λ _. ⊤) old.disk new.disk) → OnErr ended (HaveSameFloors new.floors old.floors)
      → OnOk ended (IfTold (seen old.disk).told (AreInOrder cluster old.device old.floors) → IfTold (seen new.disk).told (AreInOrder cluster old.device new.floors))
      → IfTold (seen new.disk).told (AreInOrder cluster old.device new.floors)
  ended_orders tells first second (Ok reply) none kept same orders = orders (node.in_order mounted)
  ended_orders tells first second (Err refusal.Failed) none kept same orders = absurd (cc)
  ended_orders tells first second (Err (refusal.Full need free)) none kept same orders = other_orders tells first second (kept (refusal.Full need free) refl (λ is. cc)) same
  ended_orders tells first second (Err refusal.NoMemory) none kept same orders = other_orders tells first second (kept refusal.NoMemory refl (λ is. cc)) same

  pub still_node : (tells : Bool) → IsTelling tells (seen old.disk).told → IsTelling tells (seen new.disk).told → new.power ≡ old.power
      → OnOk result (IfTold (seen old.disk).told (AreInOrder cluster old.device old.floors) → IfTold (seen new.disk).told (AreInOrder cluster old.device new.floors))
      → IsAnswered seen left_since cluster old.device old.floors message result old.disk new.disk → IsNode cluster seen new
  still_node tells first second power orders answered = record {
    rules = node.rules;
    power_is = power ∙ node.power_is;
    member = subst (IsMember cluster) (sym device) node.member;
    in_order = λ none. subst (λ (d : ℕ). IfTold (seen new.disk).told (AreInOrder cluster d new.floors)) (sym device) (ended_orders tells first second result (sym due ∙ none) unmade refused orders);
    accounted = λ none. answered_accounted seen left_since cluster old.device old.floors message result old.disk new.disk answered (node.accounted mounted);
  }
