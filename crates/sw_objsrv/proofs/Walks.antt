-- What each run of device calls keeps, a handling and a mount keep.
use Rattle.std.proofs.Common.{inl, inr, ⊎_elim, ℕ, List, [], ◌∷◌, Option, Some, None, Result, Ok, Err, sym, subst}
use Rattle.sw_disk.specs.Calls.{Call, ListFolders, ListNames}
use Rattle.sw_disk.specs.Runs.{Past, Runs, Seen}
use Rattle.sw_disk.specs.declared.refusal.DiskRefusal.{DiskRefusal}
use Rattle.sw_disk.specs.declared.refusal.DiskRefusal.TheVariants as refusal
use Rattle.sw_hashpath.specs.Place.{PlaceModel, folder_of}
use Rattle.sw_hashdir.specs.declared.floor.Floor.{Floor}
use Rattle.sw_diskfile.specs.Names.{RunsUnlessMemory}
use Rattle.sw_ring.specs.Cluster.{ClusterModel}
use Rattle.sw_diskfile.specs.Normal.{Tidies}
use Rattle.sw_message.specs.Message.{is_primary, place_in}
use Rattle.sw_message.specs.Survey.{survey_calls}
use Rattle.sw_message.specs.Table.{Found, Handling, IsHandled}
use Rattle.sw_message.specs.declared.message.Msg.{Msg}
use Rattle.sw_message.specs.declared.reply.Reply.{Reply}
use Rattle.sw_objsrv.specs.Handling.{Handles, HandlesAt, IsAnswered, StopsAt, StopsSurvey}
use Rattle.sw_objsrv.specs.Mounting.{MountCalls, TidiesEach}
use Rattle.sw_objsrv.specs.declared.fault.MountFault.{MountFault}
use Rattle.sw_objsrv.proofs.Fetched.{stops_reading}
use Rattle.sw_objsrv.proofs.Tidying.{run_of}

-- a relation of disks before and after that each run of calls keeps, none at all, and two one after the other
pub record IsKept {D : Type 0} (seen : D → Seen) (left_since : D → Past) (K : D → D → Type 0) : Type 0 where
  pub none : (a : D) → K a a
  pub more : (a b c : D) → K a b → K b c → K a c
  pub run : (calls : List Call) (reason : Option DiskRefusal) (a b : D) → Runs seen left_since calls reason a b → K a b

module _ {D : Type 0} (seen : D → Seen) (left_since : D → Past) (K : D → D → Type 0) (kept : IsKept seen left_since K) where
  by_run : (calls : List Call) (reason : Option DiskRefusal) (a b : D) → Runs seen left_since calls reason a b → K a b
  by_run calls reason a b run = kept.run calls reason a b run

  -- ---- a message

  by_memory : (calls : List Call) (a b : D) → RunsUnlessMemory seen left_since calls (Some refusal.NoMemory) a b → K a b
  by_memory calls a b (inl run) = by_run calls (Some refusal.NoMemory) a b run
  by_memory calls a b (inr run) = by_run calls None a b run.1

  by_stopped : (calls : List Call) (result : Result Reply DiskRefusal) (a b : D) → StopsAt seen left_since calls result a b → K a b
  by_stopped calls (Ok reply) a b stopped = absurd stopped
  by_stopped calls (Err refusal.Failed) a b stopped = by_run calls (Some refusal.Failed) a b stopped
  by_stopped calls (Err (refusal.Full need free)) a b stopped = absurd stopped
  by_stopped calls (Err refusal.NoMemory) a b stopped = by_memory calls a b stopped

  by_row : (folder : List ℕ) (Row : Found → Handling → Type 0) (result : Result Reply DiskRefusal) (a b : D) → Handles seen left_since folder Row result a b → K a b
  by_row folder Row result a b (inl early) = by_stopped (ListNames folder ∷ []) result a b early
  by_row folder Row (Ok reply) a b (inr follows) = by_run _ None a b follows.runs.2
  by_row folder Row (Err refusal.Failed) a b (inr follows) = by_run _ (Some refusal.Failed) a b follows.runs.0
  by_row folder Row (Err (refusal.Full need free)) a b (inr follows) = by_run _ (Some (refusal.Full need free)) a b follows.runs.1
  by_row folder Row (Err refusal.NoMemory) a b (inr follows) = by_run _ (Some refusal.NoMemory) a b follows.runs.1

  by_no_survey : (calls : List Call) (reason : DiskRefusal) (a b : D) → StopsSurvey seen left_since calls reason a b → K a b
  by_no_survey [] reason a b want = subst (K a) (sym want.1) (kept.none a)
  by_no_survey (call ∷ calls) reason a b stopped = by_stopped (call ∷ calls) (Err reason) a b stopped

  module _ (cluster : ClusterModel) (device : ℕ) where
    by_answer : (floors : List (PlaceModel × Floor)) (message : Msg) (about : Option PlaceModel) (result : Result Reply DiskRefusal) (a b : D) → HandlesAt seen left_since cluster device floors message about result a b → K a b
    by_answer floors message None (Ok reply) a b surveys = by_run (survey_calls message) None a b surveys.runs
    by_answer floors message None (Err reason) a b stopped = by_no_survey (survey_calls message) reason a b stopped
    by_answer floors message (Some place) result a b (inl handles) = by_row (folder_of place) (λ found. IsHandled cluster device found message) result a b handles
    by_answer floors message (Some place) result a b (inr read) =
        let stopped = stops_reading seen left_since a b message result read in
        by_stopped stopped.0 result a b stopped.2

    pub answered_keeps : (floors : List (PlaceModel × Floor)) (message : Msg) (result : Result Reply DiskRefusal) (a b : D) → IsAnswered seen left_since cluster device floors message result a b → K a b
    answered_keeps floors message result a b answered = by_answer floors message (place_in message) result a b answered

    -- ---- a mount

    by_each : (folders : List (List ℕ)) (fault : Option MountFault) (a b : D) → TidiesEach seen left_since cluster device folders fault a b → K a b
    by_each [] fault a b none = subst (K a) (sym none.1) (kept.none a)
    by_each (folder ∷ folders) fault a b (inl other) = by_each folders fault a b other.1
    by_each (folder ∷ folders) fault a b (inr found) = ⊎_elim
        (λ done. kept.more a done.0 b (by_tidying found.0 None a done.0 done.1) (by_each folders fault done.0 b done.2))
        (λ stopped. ⊎_elim (λ want. by_tidying found.0 None a b want.1) (λ refused. by_tidying found.0 (Some refused.0) a b refused.2) stopped)
        found.2
      where
        by_tidying : (place : PlaceModel) (reason : Option DiskRefusal) (x y : D) → Tidies seen left_since folder (is_primary cluster device place) reason x y → K x y
        by_tidying place reason x y tidies =
            let run = run_of seen left_since cluster device folder (is_primary cluster device place) reason x y tidies in
            by_run run.0 reason x y run.1

    pub mount_keeps : (fault : Option MountFault) (a b : D) → MountCalls seen left_since cluster device fault a b → K a b
    mount_keeps fault a b (inl refused) = by_run (ListFolders ∷ []) (Some refused.0) a b refused.2
    mount_keeps fault a b (inr each) = kept.more a each.2 b (by_run (ListFolders ∷ []) None a each.2 each.3) (by_each each.0 fault each.2 b each.4)
