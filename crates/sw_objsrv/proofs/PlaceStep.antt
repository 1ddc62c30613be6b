-- Messages about a place: what a row of the table leaves of the folders, and what a crash leaves of them.
use Rattle.std.proofs.Common.{◌≡◌, ◌≢◌, ◌⊎◌, inl, inr, ⊎_elim, ℕ, ◌≤◌, Bool, cond, Contains, List, [], length, take, Option, Some, None, Result, Ok, Err, IsSome, refl, sym, ◌∙◌, ap, subst, arith, OnOk}
use Rattle.std.specs.Prelude.{⊤}
use Rattle.std.proofs.lemmas.List.{take_all}
use Rattle.sw_disk.specs.Calls.{ListNames}
use Rattle.sw_disk.specs.Folder.{Change, Content, File, Folder, IsImage, all_changed, files_of, same_name}
use Rattle.sw_disk.specs.Runs.{IfTold, LeavesOnly, Past, Runs, Seen, refusal_of, IsTelling}
use Rattle.sw_disk.specs.State.{State, free_of}
use Rattle.sw_disk.specs.declared.refusal.DiskRefusal.{DiskRefusal}
use Rattle.sw_disk.specs.declared.refusal.DiskRefusal.TheVariants.{Failed, Full, NoMemory}
use Rattle.sw_disk.proofs.Chains.{told_map}
use Rattle.sw_disk.proofs.Images.{same_name-refl}
use Rattle.sw_hashpath.specs.Place.{PlaceModel, folder_of}
use Rattle.sw_hashdir.specs.declared.floor.Floor.{Floor}
use Rattle.sw_diskfile.specs.Changes.{AreSynced, Changes, IfBothTold, IsAsBefore, IsFirstPart, Keeps, Stands}
use Rattle.sw_diskfile.specs.Normal.{IsNormalForm}
use Rattle.sw_diskfile.proofs.Directories.{other_name, same_or_other}
use Rattle.sw_diskfile.proofs.Outcomes.{changes_run, keeps_refused, keeps_run, quiet_run}
use Rattle.sw_diskfile.proofs.Steps.{changes_by}
use Rattle.sw_ring.specs.Cluster.{ClusterModel}
use Rattle.sw_message.specs.Message.{is_primary, place_in, IsPlaceOf}
use Rattle.sw_message.specs.Step.{AreChanged, Folders, IsFound, IsNodeStep, IsStepAt}
use Rattle.sw_message.specs.Table.{Found, Handling, IsHandled}
use Rattle.sw_message.specs.declared.message.Msg.{Msg}
use Rattle.sw_message.specs.declared.reply.Reply.{Reply}
use Rattle.sw_message.specs.declared.reply.Reply.TheVariants.{NoSpace}
use Rattle.sw_objsrv.specs.Folder.{IsInOrder, HaveSameOtherFloors, StaysInOrder}
use Rattle.sw_objsrv.specs.Handling.{Follows as Followed, Handles, IsAnswer, IsBeforeOrAfter, IsStamped, folders_of, reply_of, HandlesAt, IsAnswered}
use Rattle.sw_objsrv.specs.Node.{IfBothStates, IfSynced, IsByTable, IsUnchanging}
use Rattle.sw_objsrv.proofs.Fetched.{no_answer}
use Rattle.sw_objsrv.proofs.InOrder.{StayInOrder, order_settled, others_kept}
use Rattle.sw_objsrv.proofs.Purging.{in_order_normal}
use Rattle.sw_objsrv.proofs.RowCalls.{makes, quiet_elsewhere, unchanging_none, row_of}
use Rattle.sw_objsrv.proofs.RowForms.{part_files, parts}
use Rattle.sw_objsrv.proofs.Told.{both_both, both_each, both_follow, told_both}
use Rattle.sw_suffix.specs.Table.{floor_at}

-- what stands after changes is that after some first part of them
stands_part : (refusal : Option DiskRefusal) (changes : List Change) (before after : Folder) → Stands refusal changes before after → IsFirstPart changes (files_of before) (files_of after)
stands_part None changes before after is = (length changes, is ∙ ap (λ (cs : List Change). all_changed cs (files_of before)) (sym (take_all (length changes) changes (omega arith))))
stands_part (Some Failed) changes before after is = is
stands_part (Some (Full need free)) changes before after same = (0, same.files)
stands_part (Some NoMemory) changes before after same = (0, same.files)

-- folders that are as before, some of them
pub kept_these : {D : Type 0} (seen : D → Seen) (left_since : D → Past) (These : List ℕ → Type 0) (a b : D) → Keeps seen left_since (λ _. ⊤) a b → Keeps seen left_since These a b
kept_these seen left_since These a b all = record { stands = λ name _. all.stands name tt; leaves = λ some name _. all.leaves some name tt }

module _ (cluster : ClusterModel) (device : ℕ) (message : Msg) (place : PlaceModel) (about : place_in message ≡ Some place) where
  -- ---- the step

  module _ (found : Found) (handling : Handling) (row : IsHandled cluster device found message handling) (before : Folders) (room : ℕ) (is_found : IsFound (before (folder_of place)) room found) where
    step : (after : Folders) (reply : Reply) → reply ≡ handling.reply → AreChanged (folder_of place) handling.changes before after → IsNodeStep cluster device room message before after reply
    step after reply replied changed =
        subst (λ (at : Option PlaceModel). IsStepAt cluster device room message at before after reply) (sym about)
        (record { found = found; is_found = is_found; handling = handling; handled = row; replied = replied; changed = changed })

    -- the folders once all its changes were made
    abbrev changed_if : List ℕ → Bool → List File
    changed_if name is_same = cond is_same (all_changed handling.changes (before name)) (before name)

    abbrev changed : Folders
    changed name = changed_if name (same_name name (folder_of place))

    changed_here : changed (folder_of place) ≡ all_changed handling.changes (before (folder_of place))
    changed_here = ap (changed_if (folder_of place)) (same_name-refl (folder_of place))

    step_changed : IsNodeStep cluster device room message before changed handling.reply
    step_changed = step changed handling.reply refl (record { changed = changed_here; others = λ other differs. ap (changed_if other) (other_name other (folder_of place) differs) })

    before_or_after : (files : List File) → IsNormalForm (is_primary cluster device place) files (before (folder_of place)) ⊎ IsNormalForm (is_primary cluster device place) files (all_changed handling.changes (before (folder_of place)))
        → ((file : File) → Contains files file → Contains (before (folder_of place)) file ⊎ Contains (all_changed handling.changes (before (folder_of place))) file) → IsBeforeOrAfter cluster device room message place before files
    before_or_after files either each = record {
      normal = ⊎_elim
          (λ stays. inl stays)
          (λ goes. inr (changed, handling.reply, step_changed, subst (IsNormalForm (is_primary cluster device place) files) (sym changed_here) goes))
          either;
      each = λ file has. ⊎_elim
          (λ old. inl old)
          (λ new. inr (changed, handling.reply, step_changed, subst (λ (fs : List File). Contains fs file) (sym changed_here) new))
          (each file has);
    }

  -- ---- what is left

  module _ {D : Type 0} (seen : D → Seen) (left_since : D → Past) (a b : D) where
    -- a row that answers was done, up to a failure
    pub record Did (refusal : Option DiskRefusal) : Type 0 where
      pub found : Found
      pub is_found : IfTold (seen a).told (λ state. IsFound (files_of (state.folder (folder_of place))) (free_of state) found)
      pub handling : Handling
      pub row : IsHandled cluster device found message handling
      pub answers : IsAnswer handling.reply
      pub runs : Runs seen left_since handling.calls refusal a b
      pub cause : (reason : DiskRefusal) → refusal ≡ Some reason → reason ≡ Failed

    -- before or after the step, now and after a crash
    pub record Leaves : Type 0 where
      pub undecided : IfBothStates (seen a) (seen b) (λ before after. IsBeforeOrAfter cluster device (free_of before) message place (folders_of before) (files_of (after.folder (folder_of place))))
      pub crash : IfSynced (seen a) (folder_of place) (λ before. (t : ℕ) (image : List File) → t ≤ (seen a).moment → left_since b t (folder_of place) image
          → left_since a t (folder_of place) image ⊎ IsBeforeOrAfter cluster device (free_of before) message place (folders_of before) image)
      pub synced : IfBothTold (seen a) (seen b) (folder_of place) (λ before after. AreSynced (files_of before) → AreSynced (files_of after))
      pub others : Keeps seen left_since (λ name. name ≢ folder_of place) a b

    module _ (floor : Option Floor) (stamped : IsStamped message)
        (now : (name : List ℕ) (image : List File) → IfTold (seen a).told (λ s. IsImage (s.folder name) image → left_since a (seen a).moment name image))
        (only : (name : List ℕ) (image : List File) → left_since a (seen a).moment name image → IfTold (seen a).told (λ s. IsImage (s.folder name) image))
        (earlier : (since later : ℕ) (name : List ℕ) (image : List File) → since ≤ later → left_since a later name image → left_since a since name image)
        (in_order : IfTold (seen a).told (λ state. IsInOrder (is_primary cluster device place) floor (state.folder (folder_of place)))) where
      abbrev InOrder : State → Type 0
      InOrder state = IsInOrder (is_primary cluster device place) floor (state.folder (folder_of place))

      abbrev Decided : State → List File → Type 0
      Decided before files = IsBeforeOrAfter cluster device (free_of before) message place (folders_of before) files

      abbrev LeavesDecided : State → Type 0
      LeavesDecided before = (t : ℕ) (image : List File) → t ≤ (seen a).moment → left_since b t (folder_of place) image → left_since a t (folder_of place) image ⊎ Decided before image

      as_it_was : (before : State) → InOrder before → (files : List File) → files ≡ files_of (before.folder (folder_of place)) → Decided before files
      as_it_was before order files same = record {
        normal =
            inl (subst (λ (fs : List File). IsNormalForm (is_primary cluster device place) fs (files_of (before.folder (folder_of place)))) (sym same) (in_order_normal (is_primary cluster device place) floor (before.folder (folder_of place)) order));
        each = λ file has. inl (subst (λ (fs : List File). Contains fs file) same has);
      }

      -- a crash just before leaves the folder as it was
      decided_within : (told : Option State) → IfTold told InOrder → ((image : List File) → left_since a (seen a).moment (folder_of place) image → IfTold told (λ s. IsImage (s.folder (folder_of place)) image))
          → IfTold told (λ before. AreSynced (files_of (before.folder (folder_of place))) → LeavesDecided before)
          → IfTold told (λ before. AreSynced (files_of (before.folder (folder_of place))) → LeavesOnly left_since b (seen a).moment (folder_of place) (Decided before))
      decided_within None order only crash = tt
      decided_within (Some before) order only crash = λ synced image left. ⊎_elim
          (λ past. as_it_was before order image (order_settled (is_primary cluster device place) floor (before.folder (folder_of place)) order synced image (only image past)))
          (λ decided. decided)
          (crash synced (seen a).moment image (omega arith) left)

      pub leaves_within : Leaves → IfSynced (seen a) (folder_of place) (λ before. LeavesOnly left_since b (seen a).moment (folder_of place) (Decided before))
      leaves_within left = decided_within (seen a).told in_order (only (folder_of place)) left.crash

      -- ---- where a row was done

      module _ (refusal : Option DiskRefusal) (did : Did refusal) where
        abbrev There : State → Type 0
        There state = IsFound (files_of (state.folder (folder_of place))) (free_of state) did.found × InOrder state

        there : IfTold (seen a).told There
        there = told_both (seen a).told (λ state. IsFound (files_of (state.folder (folder_of place))) (free_of state) did.found) InOrder did.is_found in_order

        did_changes : Changes seen left_since (folder_of place) did.handling.changes refusal a b
        did_changes =
            let makes = makes cluster device did.found message did.handling did.row place about did.answers in
            changes_run seen left_since (folder_of place) did.handling.calls did.handling.changes makes a b refusal (now (folder_of place)) (only (folder_of place)) (λ since later image. earlier since later (folder_of place) image) did.runs
            (λ reason is other. absurd (other (did.cause reason is)))

        did_others : Keeps seen left_since (λ name. name ≢ folder_of place) a b
        did_others =
            keeps_run seen left_since (λ name. name ≢ folder_of place) did.handling.calls (quiet_elsewhere cluster device did.found message did.handling did.row place about) a b now earlier refusal did.runs

        decided : (before : State) → There before → (files : List File) → IsFirstPart did.handling.changes (files_of (before.folder (folder_of place))) files → Decided before files
        decided before has files part =
            before_or_after did.found did.handling did.row (folders_of before) (free_of before) has.0 files
            (parts cluster device (free_of before) did.found message did.handling did.row stamped place about floor (before.folder (folder_of place)) has.1 has.0 files part)
            (part_files cluster device (free_of before) did.found message did.handling did.row stamped place about floor (before.folder (folder_of place)) has.1 has.0 files part)

        abbrev LeavesPart : State → Type 0
        LeavesPart before = AreSynced (files_of (before.folder (folder_of place))) → (t : ℕ) (image : List File) → t ≤ (seen a).moment → left_since b t (folder_of place) image
            → left_since a t (folder_of place) image ⊎ IsFirstPart did.handling.changes (files_of (before.folder (folder_of place))) image

        pub did_leaves : Leaves
        did_leaves = record {
          undecided = both_follow (seen a).told (seen b).told There (λ before after. Stands refusal did.handling.changes (before.folder (folder_of place)) (after.folder (folder_of place)))
              (λ before after. Decided before (files_of (after.folder (folder_of place))))
              (λ before after has stands. decided before has (files_of (after.folder (folder_of place))) (stands_part refusal did.handling.changes (before.folder (folder_of place)) (after.folder (folder_of place)) stands))
              there did_changes.stands;
          crash = told_map (seen a).told
              (λ before. There before × LeavesPart before)
              (λ before. AreSynced (files_of (before.folder (folder_of place))) → LeavesDecided before)
              (told_both (seen a).told There LeavesPart there did_changes.exactly)
              (λ before has synced t image le left. ⊎_elim (λ past. inl past) (λ part. inr (decided before has.0 image part)) (has.1 synced t image le left));
          synced = did_changes.synced;
          others = did_others;
        }

      -- ---- where nothing was changed

      module _ (kept : Keeps seen left_since (λ _. ⊤) a b) where
        kept_crash : (told : Option State) → (IsSome told → (t : ℕ) (image : List File) → t ≤ (seen a).moment → left_since b t (folder_of place) image → left_since a t (folder_of place) image)
            → IfTold told (λ before. AreSynced (files_of (before.folder (folder_of place))) → LeavesDecided before)
        kept_crash None left = tt
        kept_crash (Some before) left = λ synced t image le after. inl (left refl t image le after)

        pub kept_leaves : Leaves
        kept_leaves = record {
          undecided = both_follow (seen a).told (seen b).told InOrder (λ before after. IsAsBefore (before.folder (folder_of place)) (after.folder (folder_of place)))
              (λ before after. Decided before (files_of (after.folder (folder_of place))))
              (λ before after order same. as_it_was before order (files_of (after.folder (folder_of place))) same.files)
              in_order (kept.stands (folder_of place) tt);
          crash = kept_crash (seen a).told (λ some. kept.leaves some (folder_of place) tt);
          synced = both_follow (seen a).told (seen b).told InOrder (λ before after. IsAsBefore (before.folder (folder_of place)) (after.folder (folder_of place)))
              (λ before after. AreSynced (files_of (before.folder (folder_of place))) → AreSynced (files_of (after.folder (folder_of place))))
              (λ before after _ same synced. subst AreSynced (sym same.files) synced)
              in_order (kept.stands (folder_of place) tt);
          others = kept_these seen left_since (λ name. name ≢ folder_of place) a b kept;
        }

      -- ---- how it ended

      abbrev Follows : Result Reply DiskRefusal → Type 0
      Follows result = Followed seen left_since (folder_of place) (λ found. IsHandled cluster device found message) result a b

      abbrev IsUnmade : Result Reply DiskRefusal → Type 0
      IsUnmade result = (reason : DiskRefusal) → refusal_of result ≡ Some reason → reason ≢ Failed → Keeps seen left_since (λ _. ⊤) a b

      did_all : (reply : Reply) → Follows (Ok reply) → Did None
      did_all reply follows = record {
        found = follows.found;
        is_found = follows.is_found;
        handling = follows.handling;
        row = follows.row;
        answers = subst IsAnswer (sym follows.runs.1) follows.runs.0;
        runs = follows.runs.2;
        cause = λ reason is. absurd (cc);
      }

      did_some : (follows : Follows (Err Failed)) → IsAnswer follows.handling.reply → Did (Some Failed)
      did_some follows answers = record {
        found = follows.found;
        is_found = follows.is_found;
        handling = follows.handling;
        row = follows.row;
        answers = answers;
        runs = follows.runs.0;
        cause = λ reason is. cc;
      }

      failed_leaves : Follows (Err Failed) → Leaves
      failed_leaves follows = ⊎_elim
          (λ answer. did_leaves (Some Failed) (did_some follows answer.answers))
          (λ full. ⊎_elim
          (λ answers. did_leaves (Some Failed) (did_some follows answers))
          (λ run. kept_leaves (keeps_run seen left_since (λ _. ⊤) (take 2 follows.handling.calls) (λ name _. full.begun name) a b now earlier (Some Failed) run))
          follows.runs.1)
          (row_of cluster device follows.found message follows.handling follows.row place about)

      pub leaves : (result : Result Reply DiskRefusal) → Handles seen left_since (folder_of place) (λ found. IsHandled cluster device found message) result a b → IsUnmade result → Leaves
      leaves (Ok reply) (inl early) unmade = absurd early
      leaves (Ok reply) (inr follows) unmade = did_leaves None (did_all reply follows)
      leaves (Err Failed) (inl early) unmade = kept_leaves (keeps_refused seen left_since a b now earlier (ListNames (folder_of place)) Failed early)
      leaves (Err Failed) (inr follows) unmade = failed_leaves follows
      leaves (Err (Full need free)) handles unmade = kept_leaves (unmade (Full need free) refl (λ is. cc))
      leaves (Err NoMemory) handles unmade = kept_leaves (unmade NoMemory refl (λ is. cc))

      -- an answer that changes nothing
      answered_keeps : (reply : Reply) → Follows (Ok reply) → IsUnchanging reply → Keeps seen left_since (λ _. ⊤) a b
      unfolding did_all
      answered_keeps reply follows unchanging =
          let did = did_all reply follows in
          let none = unchanging_none cluster device did.found message did.handling did.row place about (subst IsUnchanging (sym follows.runs.1) unchanging) in
          let makes = makes cluster device did.found message did.handling did.row place about did.answers in
          let quiet = λ (name : List ℕ) (these : ⊤) (temporary : Option Content).
          ⊎_elim
          (λ same. subst (λ (n : List ℕ). changes_by n did.handling.calls temporary ≡ []) (sym same.1) (makes.made temporary ∙ none))
          (λ other. quiet_elsewhere cluster device did.found message did.handling did.row place about name other.1 temporary)
          (same_or_other name (folder_of place)) in
          keeps_run seen left_since (λ _. ⊤) did.handling.calls quiet a b now earlier None did.runs

      pub placed_keeps : (result : Result Reply DiskRefusal) → Handles seen left_since (folder_of place) (λ found. IsHandled cluster device found message) result a b → IsUnmade result → IsUnchanging (reply_of result) → Keeps seen left_since (λ _. ⊤) a b
      placed_keeps (Ok reply) (inl early) unmade unchanging = absurd early
      placed_keeps (Ok reply) (inr follows) unmade unchanging = answered_keeps reply follows unchanging
      placed_keeps (Err Failed) handles unmade unchanging = absurd unchanging
      placed_keeps (Err (Full need free)) handles unmade unchanging = unmade (Full need free) refl (λ is. cc)
      placed_keeps (Err NoMemory) handles unmade unchanging = unmade NoMemory refl (λ is. cc)

      -- ---- the step that was done

      abbrev Stepped : Reply → State → State → Type 0
      Stepped reply before after = IsNodeStep cluster device (free_of before) message (folders_of before) (folders_of after) reply

      abbrev IsFoundIn : Found → State → Type 0
      IsFoundIn found state = IsFound (files_of (state.folder (folder_of place))) (free_of state) found

      all_done : (reply : Reply) → Follows (Ok reply) → IfBothStates (seen a) (seen b) (Stepped reply)
      unfolding did_all
      all_done reply follows =
          let did = did_all reply follows in
          let made = λ (before after : State). Stands None did.handling.changes (before.folder (folder_of place)) (after.folder (folder_of place)) in
          let rest = λ (before after : State). (other : (name : List ℕ) × (name ≢ folder_of place)) → IsAsBefore (before.folder other.0) (after.folder other.0) in
          both_follow (seen a).told (seen b).told (IsFoundIn did.found) (λ before after. made before after × rest before after) (Stepped reply)
          (λ before after found both. step did.found did.handling did.row (folders_of before) (free_of before) found (folders_of after) reply (sym follows.runs.1)
          (record { changed = both.0; others = λ other differs. (both.1 (other, differs)).files }))
          did.is_found
          (both_both (seen a).told (seen b).told made rest (did_changes None did).stands
          (both_each (seen a).told (seen b).told (λ (other : (name : List ℕ) × (name ≢ folder_of place)) before after. IsAsBefore (before.folder other.0) (after.folder other.0))
          (λ other. (did_others None did).stands other.0 other.1)))

      no_room : (need free : ℕ) → Follows (Err (Full need free)) → Keeps seen left_since (λ _. ⊤) a b → IfBothStates (seen a) (seen b) (Stepped (NoSpace need free))
      no_room need free follows kept =
          let handling = follows.handling in
          let none = unchanging_none cluster device follows.found message handling follows.row place about (subst IsUnchanging (sym follows.runs.0) tt) in
          let same = λ (before after : State). (name : List ℕ) → IsAsBefore (before.folder name) (after.folder name) in
          both_follow (seen a).told (seen b).told (IsFoundIn follows.found) same (Stepped (NoSpace need free))
          (λ before after found kept. step follows.found handling follows.row (folders_of before) (free_of before) found (folders_of after) (NoSpace need free) (sym follows.runs.0)
          (record {
            changed = (kept (folder_of place)).files ∙ ap (λ (cs : List Change). all_changed cs (files_of (before.folder (folder_of place)))) (sym none);
            others = λ other differs. (kept other).files;
          }))
          follows.is_found
          (both_each (seen a).told (seen b).told (λ (name : List ℕ) before after. IsAsBefore (before.folder name) (after.folder name)) (λ name. kept.stands name tt))

      pub placed_step : (result : Result Reply DiskRefusal) → Handles seen left_since (folder_of place) (λ found. IsHandled cluster device found message) result a b → IsUnmade result → IsByTable (reply_of result)
          → IfBothStates (seen a) (seen b) (Stepped (reply_of result))
      placed_step (Ok reply) (inl early) unmade by_table = absurd early
      placed_step (Ok reply) (inr follows) unmade by_table = all_done reply follows
      placed_step (Err Failed) handles unmade by_table = absurd (by_table.0 refl)
      placed_step (Err (Full need free)) (inl early) unmade by_table = absurd early
      placed_step (Err (Full need free)) (inr follows) unmade by_table = no_room need free follows (unmade (Full need free) refl (λ is. cc))
      placed_step (Err NoMemory) handles unmade by_table = absurd (by_table.1 refl)

-- ---- the folders of all places stay in order

module _ {D : Type 0} (seen : D → Seen) (left_since : D → Past) (tells : Bool) (telling : (disk : D) → IsTelling tells (seen disk).told) (cluster : ClusterModel) (device : ℕ)
    (floors later : List (PlaceModel × Floor)) (old new : D) (message : Msg) (place : PlaceModel) (is : place_in message ≡ Some place) where
  quiet_others : (reply : Reply) → IsAnswered seen left_since cluster device floors message (Ok reply) old new → (folder : List ℕ) → folder ≢ folder_of place → IfBothTold (seen old) (seen new) folder IsAsBefore
  quiet_others reply answered folder apart = ⊎_elim
      (λ handles. ⊎_elim
      (λ early. absurd early)
      (λ follows.
      quiet_run folder seen left_since follows.handling.calls old new
      (quiet_elsewhere cluster device follows.found message follows.handling follows.row place is folder apart) None follows.runs.2)
      handles)
      (λ read. absurd (no_answer seen left_since old new message reply read))
      (subst (λ (at : Option PlaceModel). HandlesAt seen left_since cluster device floors message at (Ok reply) old new) is answered)

  pub order_at_place : (primary : Bool) (result : Result Reply DiskRefusal) → primary ≡ is_primary cluster device place → IsPlaceOf cluster (place_in message) → IsAnswered seen left_since cluster device floors message result old new
      → OnOk result (StaysInOrder primary (folder_of place) (floor_at place floors) (floor_at place later) (seen old).told (seen new).told)
      → HaveSameOtherFloors place later floors → OnOk result (StayInOrder cluster device floors later (seen old).told (seen new).told)
  order_at_place primary (Err reason) role is_place answered stays others = tt
  order_at_place primary (Ok reply) role is_place answered stays others =
      others_kept cluster device floors later place (subst (IsPlaceOf cluster) is is_place) others tells (seen old).told (seen new).told (telling old) (telling new)
      (subst (λ (p : Bool). StaysInOrder p (folder_of place) (floor_at place floors) (floor_at place later) (seen old).told (seen new).told) role stays) (quiet_others reply answered)
