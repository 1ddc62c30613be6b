-- A handling that was cut short, by its row of the table: what the crash leaves of the disk.
use Rattle.std.proofs.Common.{◌≡◌, ◌≢◌, ◌⊎◌, inl, inr, ⊎_elim, ℕ, ◌+◌, ◌<◌, ◌≤◌, true, List, [], ◌∷◌, length, map, max, take, Option, Some, None, Result, Ok, Err, refl, sym, ap, subst, ◌∙◌, arith}
use Rattle.sw_disk.specs.Calls.{Call, Do, ListNames}
use Rattle.sw_disk.specs.Folder.{Content, Folder}
use Rattle.sw_disk.specs.Runs.{refusal_of}
use Rattle.sw_disk.specs.State.{free_of, run}
use Rattle.sw_disk.specs.declared.refusal.DiskRefusal.{DiskRefusal}
use Rattle.sw_disk.specs.declared.refusal.DiskRefusal.TheVariants.{Failed, Full, NoMemory}
use Rattle.sw_diskfile.specs.Changes.{AreSynced}
use Rattle.sw_diskfile.proofs.Directories.{same_or_other}
use Rattle.sw_diskfile.proofs.Outcomes.{none_done}
use Rattle.sw_diskfile.proofs.Steps.{changes_by}
use Rattle.sw_diskfile.proofs.Synced.{settled_synced}
use Rattle.sw_hashpath.specs.Place.{PlaceModel, folder_of}
use Rattle.sw_memdisk.specs.Memory.{LeftBy, MemDiskModel, crashed, fails, seen_of, state_of}
use Rattle.sw_ring.specs.Cluster.{ClusterModel}
use Rattle.sw_message.specs.Message.{place_in}
use Rattle.sw_message.specs.Step.{Folders, IsFound}
use Rattle.sw_message.specs.Table.{Found, Handling, IsHandled}
use Rattle.sw_message.specs.declared.message.Msg.{Msg}
use Rattle.sw_message.specs.declared.reply.Reply.{Reply}
use Rattle.sw_message.specs.declared.reply.Reply.TheVariants.{NoSpace}
use Rattle.sw_objsrv.specs.Handling.{Handles, IsAnswer, folders_of}
use Rattle.sw_objsrv.proofs.RowCalls.{BeginsWithLook, PublishOwn, begins_with_look, publishes_own, quiet_elsewhere}
use Rattle.sw_law_scene.specs.Devices.{IsFree, capacity_of}
use Rattle.sw_sim_nodes.specs.Crashing.{IsCutShort, calls_done, crashed_files, disk_of}
use Rattle.sw_sim_nodes.specs.Nodes.{IsSettledDisk}
use Rattle.sw_sim_nodes.proofs.CrashedDisks.{files_left, still_crashed}
use Rattle.sw_sim_nodes.proofs.ExactRuns.{Ran, at_most, just_so, ran}
use Rattle.sw_sim_nodes.proofs.FolderRuns.{nothing_pending, own_first, quiet_calls, quiet_first, same_run}
use Rattle.sw_sim_nodes.proofs.Looks.{IsLook, answer_done, done_look, full_look, looked, own_look, same_cut, two_look}

-- the calls that are done of those that make no change make none
quiet_done : (name : List ℕ) (reply : Reply) (calls : List Call) (temporary : Option Content) → changes_by name calls temporary ≡ [] → changes_by name (calls_done reply calls) temporary ≡ []
quiet_done name (NoSpace need free) calls temporary none = quiet_first name 1 calls temporary none
quiet_done name reply calls temporary none = none

module _ (cluster : ClusterModel) (device : ℕ) (msg : Msg) (place : PlaceModel) (about : place_in msg ≡ Some place) (a b : MemDiskModel) (calls pick : ℕ) (settled : IsSettledDisk a) (pending : ((state_of a).folder (folder_of place)).pending ≡ [])
    (elsewhere : (name : List ℕ) → name ≢ folder_of place → folders_of (state_of (crashed pick b)) name ≡ folders_of (state_of a) name)
    (free : IsFree (capacity_of cluster device) (folders_of (state_of a)) (free_of (state_of a))) (fuse : fails a (a.calls + max calls 1 + 1) ≡ true) where
  abbrev folder : List ℕ
  folder = folder_of place

  abbrev before : Folders
  before = folders_of (state_of a)

  abbrev after : Folders
  after = folders_of (state_of (crashed pick b))

  abbrev IsCutHere : Type 0
  IsCutHere = IsCutShort cluster device msg place calls pick before after

  module _ (found : Found) (is_found : IsFound (before folder) (free_of (state_of a)) found) (handling : Handling) (handled : IsHandled cluster device found msg handling) where
    looks : BeginsWithLook folder handling.calls
    looks = begins_with_look cluster device found msg handling handled place about

    abbrev cut : List Call
    cut = take calls (calls_done handling.reply handling.calls)

    abbrev left : List ℕ → Folder
    left name = (run (map Do cut) (disk_of before)).folder name

    -- no other folder is changed
    left_there : (name : List ℕ) → name ≢ folder → after name ≡ crashed_files pick (left name)
    left_there name differs =
        let none = quiet_first name calls (calls_done handling.reply handling.calls) None (quiet_done name handling.reply handling.calls None (quiet_elsewhere cluster device found msg handling handled place about name differs None)) in
        let same = quiet_calls name cut (disk_of before) none in
        elsewhere name differs
        ∙ sym (still_crashed pick (left name) (same.pending refl) (subst AreSynced (sym same.files) (settled_synced ((state_of a).folder name) (settled name))) ∙ same.files)

    -- these calls were done, and leave the folder as the first ones of the row leave it
    record IsDone (done : List Call) : Type 0 where
      folder_is : (state_of b).folder folder ≡ (run (map Do done) (state_of a)).folder folder
      own : PublishOwn done
      same : (run (map Do done) (disk_of before)).folder folder ≡ left folder

    left_here : (done : List Call) → IsDone done → after folder ≡ crashed_files pick (left folder)
    left_here done is =
        files_left pick b folder
        ∙ ap (crashed_files pick) (is.folder_is ∙ same_run folder done (state_of a) (disk_of before) (nothing_pending ((state_of a).folder folder) pending) (inr is.own) ∙ is.same)

    is_cut : (done : List Call) → IsDone done → IsCutHere
    is_cut done is = record {
      room = free_of (state_of a);
      free = free;
      found = found;
      is_found = is_found;
      handling = handling;
      handled = handled;
      left = λ name. ⊎_elim
          (λ here. subst (λ (n : List ℕ). after n ≡ crashed_files pick (left n)) (sym here.1) (left_here done is))
          (λ apart. left_there name apart.1)
          (same_or_other name folder);
    }

    -- where no more than a look was done
    only_looked : (list : List Call) (refusal : Option DiskRefusal) (ran : Ran list refusal a b) → IsLook folder ran.done → IsLook folder cut → IsCutHere
    only_looked list refusal ran done also = is_cut ran.done (record {
      folder_is = ran.folders folder;
      own = own_look folder ran.done done;
      same = looked folder ran.done done (disk_of before) ∙ sym (looked folder cut also (disk_of before));
    })

    -- where those of an answer were
    answered : IsAnswer handling.reply → (refusal : Option DiskRefusal) (ran : Ran handling.calls refusal a b) → ((ran.rest ≡ []) × (length ran.done ≤ max calls 1)) ⊎ (length ran.done ≡ max calls 1) → IsCutHere
    answered answers refusal ran much =
        let whole = answer_done handling.reply handling.calls answers in
        ⊎_elim
        (λ same.
        let is : cut ≡ ran.done = ap (take calls) whole ∙ same in
        is_cut ran.done (record {
          folder_is = ran.folders folder;
          own = subst PublishOwn same (own_first calls handling.calls (publishes_own cluster device found msg handling handled place about));
          same = ap (λ (list : List Call). (run (map Do list) (disk_of before)).folder folder) (sym is);
        }))
        (λ looks. only_looked handling.calls refusal ran looks.1 (subst (IsLook folder) (sym (ap (take calls) whole)) looks.0))
        (same_cut folder calls handling.calls ran.done ran.rest looks ran.split much)

    -- where a look or the call behind it was refused
    stopped : (refusal : DiskRefusal) (ran : Ran (take 2 handling.calls) (Some refusal) a b) → IsLook folder ran.done
    stopped refusal ran = two_look folder handling.calls ran.done ran.rest looks ran.split (ran.some refusal refl)

  -- ---- how it ended

  no_look : (done : List Call) → done ≡ [] → length done ≡ max calls 1 → ⊥
  no_look done none just = omega (arith, ap length none, just)

  pub by_row : (result : Result Reply DiskRefusal) → Handles seen_of LeftBy folder (λ found. IsHandled cluster device found msg) result a b → (refusal_of result ≡ Some NoMemory → ⊥) → (refusal_of result ≡ Some Failed → a.calls + max calls 1 < b.calls)
      → IsCutHere
  by_row (Ok reply) (inl early) memory used_up = absurd early
  by_row (Ok reply) (inr follows) memory used_up =
      let all = ran follows.handling.calls None a b follows.runs.2 in
      answered follows.found follows.is_found follows.handling follows.row (subst IsAnswer (sym follows.runs.1) follows.runs.0) None all (inl (all.all refl, at_most follows.handling.calls None a b all (max calls 1) fuse))
  by_row (Err Failed) (inl early) memory used_up =
      let none = ran (ListNames folder ∷ []) (Some Failed) a b early in
      absurd (no_look none.done (none_done (ListNames folder) none.done none.rest none.split (none.some Failed refl)) (just_so (ListNames folder ∷ []) (Some Failed) a b none (max calls 1) fuse (used_up refl)))
  by_row (Err Failed) (inr follows) memory used_up = ⊎_elim
      (λ answers.
      let first = ran follows.handling.calls (Some Failed) a b follows.runs.0 in
      answered follows.found follows.is_found follows.handling follows.row answers (Some Failed) first (inr (just_so follows.handling.calls (Some Failed) a b first (max calls 1) fuse (used_up refl))))
      (λ early.
      let first = ran (take 2 follows.handling.calls) (Some Failed) a b early in
      let done = stopped follows.found follows.is_found follows.handling follows.row Failed first in
      only_looked follows.found follows.is_found follows.handling follows.row (take 2 follows.handling.calls) (Some Failed) first done
      (done_look folder follows.handling.reply calls follows.handling.calls first.done (looks follows.found follows.is_found follows.handling follows.row) done
      (just_so (take 2 follows.handling.calls) (Some Failed) a b first (max calls 1) fuse (used_up refl))))
      follows.runs.1
  by_row (Err (Full need free)) (inl early) memory used_up = absurd early
  by_row (Err (Full need free)) (inr follows) memory used_up =
      let first = ran (take 2 follows.handling.calls) (Some (Full need free)) a b follows.runs.1 in
      only_looked follows.found follows.is_found follows.handling follows.row (take 2 follows.handling.calls) (Some (Full need free)) first (stopped follows.found follows.is_found follows.handling follows.row (Full need free) first)
      (subst (λ (reply : Reply). IsLook folder (take calls (calls_done reply follows.handling.calls))) (sym follows.runs.0)
      (full_look folder need free calls follows.handling.calls (looks follows.found follows.is_found follows.handling follows.row)))
  by_row (Err NoMemory) handles memory used_up = absurd (memory refl)
