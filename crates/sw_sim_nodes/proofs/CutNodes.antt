-- A node's handling that was cut short: what the crash leaves in its folders.
use Rattle.std.proofs.Common.{◌≡◌, ◌≢◌, ◌⊎◌, inl, inr, ⊎_elim, ℕ, ◌+◌, ◌<◌, ◌≤◌, false, List, [], ◌∷◌, Contains, max, take, Option, Some, None, Result, Ok, Err, refl, sym, ap, subst, ◌∙◌, arith}
use Rattle.sw_disk.specs.Calls.{Call, ListNames}
use Rattle.sw_disk.specs.Folder.{Content, File}
use Rattle.sw_disk.specs.Runs.{Runs, refusal_of}
use Rattle.sw_disk.specs.State.{free_of}
use Rattle.sw_disk.specs.declared.refusal.DiskRefusal.{DiskRefusal}
use Rattle.sw_disk.specs.declared.refusal.DiskRefusal.TheVariants as refusal
use Rattle.sw_diskfile.specs.Changes.{IsAsBefore}
use Rattle.sw_diskfile.specs.Normal.{HaveOneNormalForm}
use Rattle.sw_diskfile.proofs.Directories.{same_or_other}
use Rattle.sw_diskfile.proofs.Normal.{same_itself}
use Rattle.sw_diskfile.proofs.Outcomes.{quiet_run}
use Rattle.sw_diskfile.proofs.Steps.{changes_by}
use Rattle.sw_diskfile.proofs.Synced.{settled_synced}
use Rattle.sw_hashpath.specs.Place.{IsPlace, PlaceModel, folder_of}
use Rattle.sw_memdisk.specs.Laws.{earlier, now}
use Rattle.sw_memdisk.specs.Memory.{LeftBy, MemDiskModel, crashed, seen_of, state_of}
use Rattle.sw_ring.specs.Cluster.{ClusterModel}
use Rattle.sw_message.specs.Message.{IsPlaceOf, is_primary, place_in}
use Rattle.sw_message.specs.Step.{Folders}
use Rattle.sw_message.specs.Table.{AskListed, FetchGone, FetchRead, FetchSpoiled, Found, HandlesAsk, HandlesFetch, Handling, IsHandled}
use Rattle.sw_message.specs.declared.message.Msg.{Msg}
use Rattle.sw_message.specs.declared.message.Msg.TheVariants as message
use Rattle.sw_message.specs.declared.reply.Reply.{Reply}
use Rattle.sw_message.specs.declared.reply.Reply.TheVariants.{DiskFault, NoMemory}
use Rattle.sw_objsrv.specs.Handling.{Handles, HandlesAt, IsBeforeOrAfter, StopsAt, StopsReading, folders_of, refused_reply, reply_of}
use Rattle.sw_objsrv.specs.Node.{Handled, IsNode}
use Rattle.sw_objsrv.proofs.Fetched.{stops_reading}
use Rattle.sw_hashpath.proofs.Folders.{one_place}
use Rattle.sw_objsrv.proofs.Walks.{IsKept, answered_keeps}
use Rattle.sw_law_scene.specs.Devices.{IsFree, capacity_of}
use Rattle.sw_law_scene.specs.Disks.{IsHeldWithin, IsLeftOf, Sure}
use Rattle.sw_sim_nodes.specs.Crashing.{IsCut, IsCutShort, fused}
use Rattle.sw_sim_nodes.specs.Nodes.{IsSettledDisk, MemNode}
use Rattle.sw_sim_nodes.proofs.CrashedDisks.{image_left}
use Rattle.sw_sim_nodes.proofs.CutRows.{by_row}
use Rattle.sw_sim_nodes.proofs.FolderRuns.{quiet_first}
use Rattle.sw_sim_nodes.proofs.Fuses.{fuse_fails}
use Rattle.sw_sim_nodes.proofs.Mounting.{settled_still}
use Rattle.sw_sim_nodes.proofs.NormalForms.{one_form}
use Rattle.sw_sim_nodes.proofs.Rooms.{room_is}

-- a mounted node handled a message over a disk with a fuse, with memory, and a failure was that of the fuse
pub record IsCutNode (cluster : ClusterModel) (msg : Msg) (calls : ℕ) (node between : MemNode) : Type 0 where
  pub reply : Reply
  pub handled : Handled seen_of LeftBy cluster msg reply (fused calls node) between
  pub right : IsPlaceOf cluster (place_in msg)
  pub mounted : node.is_due ≡ false
  pub is_node : IsNode cluster seen_of node
  pub settled : IsSettledDisk node.disk
  pub capacity : node.disk.capacity ≡ capacity_of cluster node.device
  pub memory : reply ≢ NoMemory
  pub used_up : reply ≡ DiskFault → node.disk.calls + max calls 1 < between.disk.calls

-- the count of device calls never falls
counts : IsKept seen_of LeftBy (λ a b. a.calls ≤ b.calls)
counts = record { none = λ a. omega arith; more = λ a b c first second. omega (arith, first, second); run = λ calls reason a b runs. runs.later }

-- what was refused is told by the reply
refused : (result : Result Reply DiskRefusal) (reason : DiskRefusal) → refusal_of result ≡ Some reason → reply_of result ≡ refused_reply reason
refused (Ok reply) reason is = absurd (cc)
refused (Err other) reason is = let same : other ≡ reason = cc in ap refused_reply same

module _ (cluster : ClusterModel) (calls pick : ℕ) (node between : MemNode) where
  abbrev before : Folders
  before = folders_of (state_of node.disk)

  abbrev after : Folders
  after = folders_of (state_of (crashed pick between.disk))

  module _ (msg : Msg) (is : IsCutNode cluster msg calls node between) where
    -- a folder that is as before stays so
    left_alone : (name : List ℕ) → IsAsBefore ((state_of node.disk).folder name) ((state_of between.disk).folder name) → after name ≡ before name
    left_alone name same = settled_still ((state_of node.disk).folder name) ((state_of between.disk).folder name) same (is.settled name) (after name) (image_left pick between.disk name) ∙ same.files

    elsewhere : (name : List ℕ) → ((place : PlaceModel) → place_in msg ≡ Some place → name ≢ folder_of place) → after name ≡ before name
    elsewhere name other = left_alone name (is.handled.others.stands name other)

    -- and that of the place is one of before or after the step
    abbrev Decided : PlaceModel → Type 0
    Decided place = IsBeforeOrAfter cluster node.device (free_of (state_of node.disk)) msg place before (after (folder_of place))

    decided : (place : PlaceModel) → place_in msg ≡ Some place → Decided place
    decided place about =
        let folder = folder_of place in
        let image = after folder in
        let later : node.disk.calls ≤ between.disk.calls =
        answered_keeps seen_of LeftBy (λ (a b : MemDiskModel). a.calls ≤ b.calls) counts cluster node.device node.floors msg is.handled.answered.0 (fused calls node).disk between.disk is.handled.answered.2 in
        is.handled.crash_within place about (settled_synced ((state_of node.disk).folder folder) (is.settled folder)) image
        (earlier between.disk node.disk.calls between.disk.calls folder image later (now between.disk folder image (image_left pick between.disk folder)))

    which : (place : PlaceModel) → IsPlace cluster.part_power place → (after (folder_of place) ≡ before (folder_of place)) ⊎ Decided place
    which place is_place = of (place_in msg) refl
      where
        of : (found : Option PlaceModel) → place_in msg ≡ found → (after (folder_of place) ≡ before (folder_of place)) ⊎ Decided place
        of None none = inl (elsewhere (folder_of place) (λ other some. absurd (cc)))
        of (Some other) about = ⊎_elim
            (λ here.
            let one = one_place cluster.part_power place other is_place (subst (IsPlaceOf cluster) about is.right) here.1 in
            inr (decided place (about ∙ ap (λ (p : PlaceModel). Some p) (sym one))))
            (λ apart. inl (elsewhere (folder_of place) (λ that some same. apart.1 (same ∙ ap folder_of (let one : that ≡ other = cc in one)))))
            (same_or_other (folder_of place) (folder_of other))

    -- ---- what is left

    free : IsFree (capacity_of cluster node.device) before (free_of (state_of node.disk))
    free = room_is cluster node is.is_node is.mounted (capacity_of cluster node.device) is.capacity

    abbrev These : Folders → Type 0
    These = IsHeldWithin cluster node.device msg (Sure before)

    was : These before
    was = inl refl

    pub left_of : IsLeftOf cluster node.device These after
    left_of = record {
      normal = λ place is_place. ⊎_elim
          (λ same. (before, was, subst (λ (files : List File). HaveOneNormalForm (is_primary cluster node.device place) files (before (folder_of place))) (sym same) (same_itself (is_primary cluster node.device place) (before (folder_of place)))))
          (λ decided. ⊎_elim
          (λ stays. (before, was, one_form (is_primary cluster node.device place) (after (folder_of place)) (before (folder_of place)) stays))
          (λ goes. (
            goes.0,
            inr (before, goes.1, refl, record { room = free_of (state_of node.disk); free = free; step = goes.2 }),
            one_form (is_primary cluster node.device place) (after (folder_of place)) (goes.0 (folder_of place)) goes.3,
          ))
          decided.normal)
          (which place is_place);
      files = λ place file is_place has. ⊎_elim
          (λ same. (before, was, subst (λ (files : List File). Contains files file) same has))
          (λ decided. ⊎_elim
          (λ old. (before, was, old))
          (λ new. (new.0, inr (before, new.1, refl, record { room = free_of (state_of node.disk); free = free; step = new.2 }), new.3))
          (decided.each file has))
          (which place is_place);
      others = λ name none. (before, was, elsewhere name (λ place about same. none place (subst (IsPlaceOf cluster) about is.right) same));
    }

    -- ---- messages that only read

    abbrev AreQuiet : List Call → Type 0
    AreQuiet list = (name : List ℕ) (temporary : Option Content) → changes_by name list temporary ≡ []

    abbrev StandsAll : Type 0
    StandsAll = (name : List ℕ) → IsAsBefore ((state_of node.disk).folder name) ((state_of between.disk).folder name)

    quiet : (list : List Call) (reason : Option DiskRefusal) → AreQuiet list → Runs seen_of LeftBy list reason (fused calls node).disk between.disk → StandsAll
    quiet list reason none run name = quiet_run name seen_of LeftBy list (fused calls node).disk between.disk (none name) reason run

    stopped : (list : List Call) → AreQuiet list → (result : Result Reply DiskRefusal) → StopsAt seen_of LeftBy list result (fused calls node).disk between.disk → StandsAll
    stopped list none (Ok reply) stops = absurd stops
    stopped list none (Err refusal.Failed) stops = quiet list (Some refusal.Failed) none stops
    stopped list none (Err (refusal.Full need room)) stops = absurd stops
    stopped list none (Err refusal.NoMemory) stops = ⊎_elim (λ run. quiet list (Some refusal.NoMemory) none run) (λ run. quiet list None none run.1) stops

    module _ (place : PlaceModel) (about : place_in msg ≡ Some place) (reads : (found : Found) (handling : Handling) → IsHandled cluster node.device found msg handling → AreQuiet handling.calls) where
      read : (result : Result Reply DiskRefusal) → Handles seen_of LeftBy (folder_of place) (λ found. IsHandled cluster node.device found msg) result (fused calls node).disk between.disk → StandsAll
      read result (inl early) = stopped (ListNames (folder_of place) ∷ []) (λ name temporary. refl) result early
      read (Ok reply) (inr follows) = quiet follows.handling.calls None (reads follows.found follows.handling follows.row) follows.runs.2
      read (Err refusal.Failed) (inr follows) = quiet follows.handling.calls (Some refusal.Failed) (reads follows.found follows.handling follows.row) follows.runs.0
      read (Err (refusal.Full need room)) (inr follows) =
          quiet (take 2 follows.handling.calls) (Some (refusal.Full need room)) (λ name temporary. quiet_first name 2 follows.handling.calls temporary (reads follows.found follows.handling follows.row name temporary)) follows.runs.1
      read (Err refusal.NoMemory) (inr follows) =
          quiet (take 2 follows.handling.calls) (Some refusal.NoMemory) (λ name temporary. quiet_first name 2 follows.handling.calls temporary (reads follows.found follows.handling follows.row name temporary)) follows.runs.1

      unchanged : (name : List ℕ) → after name ≡ before name
      unchanged name =
          let answered = is.handled.answered in
          left_alone name (⊎_elim
          (λ handles. read answered.0 handles name)
          (λ reading. let stops = stops_reading seen_of LeftBy (fused calls node).disk between.disk msg answered.0 reading in stopped stops.0 stops.1 answered.0 stops.2 name)
          (subst (λ (at : Option PlaceModel). HandlesAt seen_of LeftBy cluster node.device node.floors msg at answered.0 (fused calls node).disk between.disk) about answered.2))

    -- ---- messages that change something

    changing : (place : PlaceModel) → place_in msg ≡ Some place → ((result : Result Reply DiskRefusal) → StopsReading seen_of LeftBy msg result (fused calls node).disk between.disk → ⊥) → IsCutShort cluster node.device msg place calls pick before after
    changing place about none =
        let answered = is.handled.answered in
        by_row cluster node.device msg place about (fused calls node).disk between.disk calls pick is.settled
        (is.is_node.in_order is.mounted place (subst (IsPlaceOf cluster) about is.right)).nothing_pending
        (λ name differs. elsewhere name (λ other some same. differs (same ∙ ap folder_of (let one : other ≡ place = cc in one))))
        free (fuse_fails calls node) answered.0
        (⊎_elim (λ handles. handles) (λ reading. absurd (none answered.0 reading))
        (subst (λ (at : Option PlaceModel). HandlesAt seen_of LeftBy cluster node.device node.floors msg at answered.0 (fused calls node).disk between.disk) about answered.2))
        (λ want. is.memory (answered.1 ∙ refused answered.0 refusal.NoMemory want))
        (λ failed. is.used_up (answered.1 ∙ refused answered.0 refusal.Failed failed))

    surveyed : place_in msg ≡ None → (name : List ℕ) → after name ≡ before name
    surveyed none name = elsewhere name (λ place some. absurd (cc))

  -- ---- the message

  fetch_reads : (place : PlaceModel) (stamp index : ℕ) (found : Found) (handling : Handling) → HandlesFetch cluster place stamp index found handling → (name : List ℕ) (temporary : Option Content) → changes_by name handling.calls temporary ≡ []
  fetch_reads place stamp index found handling (FetchGone lacks listing lists is) name temporary = ap (λ (h : Handling). changes_by name h.calls temporary) is
  fetch_reads place stamp index found handling (FetchRead durable has archive is) name temporary = ap (λ (h : Handling). changes_by name h.calls temporary) is
  fetch_reads place stamp index found handling (FetchSpoiled durable has spoil spoils is) name temporary = ap (λ (h : Handling). changes_by name h.calls temporary) is

  ask_reads : (place : PlaceModel) (found : Found) (handling : Handling) → HandlesAsk place found handling → (name : List ℕ) (temporary : Option Content) → changes_by name handling.calls temporary ≡ []
  ask_reads place found handling (AskListed listing lists is) name temporary = ap (λ (h : Handling). changes_by name h.calls temporary) is

  pub is_cut : (msg : Msg) → IsCutNode cluster msg calls node between → IsCut cluster node.device msg calls pick before after
  is_cut (message.PutFrag place stamp index bytes) is = changing (message.PutFrag place stamp index bytes) is place refl (λ result none. none)
  is_cut (message.Commit place stamp index) is = changing (message.Commit place stamp index) is place refl (λ result none. none)
  is_cut (message.Delete place stamp) is = changing (message.Delete place stamp) is place refl (λ result none. none)
  is_cut (message.Remove place stamp index) is = changing (message.Remove place stamp index) is place refl (λ result none. none)
  is_cut (message.Ask place) is = unchanged (message.Ask place) is place refl (λ found handling row. ask_reads place found handling row)
  is_cut (message.Fetch place stamp index) is = unchanged (message.Fetch place stamp index) is place refl (λ found handling row. fetch_reads place stamp index found handling row)
  is_cut message.Parts is = surveyed message.Parts is refl
  is_cut (message.Suffixes part) is = surveyed (message.Suffixes part) is refl
  is_cut (message.Places part) is = surveyed (message.Places part) is refl
