-- What holds of each world on the way of a put that runs alone: a device has what it had at the start, or the entry of its index.
use Rattle.std.proofs.Common.{◌≡◌, ◌⊎◌, inl, inr, ⊎_elim, ℕ, ◌+◌, Contains, List, length, Some, None, refl, sym, ap, subst, ◌∙◌}
use Rattle.sw_types.specs.Name.{NameModel}
use Rattle.sw_types.specs.Object.{ObjectModel}
use Rattle.sw_disk.specs.Answers.{names_of}
use Rattle.sw_hashpath.specs.Place.{IsPlace, PlaceModel, folder_of}
use Rattle.sw_hashpath.specs.declared.file_name.FileName.{FileName}
use Rattle.sw_hashdir.specs.Directory.{IsDirectory, StandsAbove}
use Rattle.sw_archive.specs.Put.{IsPut, put_archive}
use Rattle.sw_ring.specs.Cluster.{ClusterModel, place_of_name}
use Rattle.sw_message.specs.Learnt.{HasOwn}
use Rattle.sw_message.specs.Message.{IsMember, IsPlaceOf, is_primary, place_in}
use Rattle.sw_message.specs.Step.{Folders}
use Rattle.sw_message.specs.Table.{LacksEntry}
use Rattle.sw_message.specs.Transcript.{Closed, IsRun, Step, given}
use Rattle.sw_message.specs.Warrant.{IsPrimaryOf}
use Rattle.sw_message.specs.declared.message.Msg.{Msg}
use Rattle.sw_message.specs.declared.message.Msg.TheVariants as message
use Rattle.sw_message.specs.declared.reply.Reply.{Reply}
use Rattle.sw_message.specs.declared.reply.Reply.TheVariants as reply
use Rattle.sw_message.specs.declared.sent.Sent.{Sent}
use Rattle.sw_message.specs.declared.target.Target.{Target}
use Rattle.sw_quorum.proofs.Places.{place_right}
use Rattle.sw_put.specs.Put as puts
use Rattle.sw_law_claim.specs.Claim.{AnEntry, AsksAway, Claim, Claims, ClaimsChange}
use Rattle.sw_law_claim.proofs.Steps.{step_bears}
use Rattle.sw_objsrv.specs.Handling.{IsStamped}
use Rattle.sw_law_scene.specs.Devices.{IsDeviceStep}
use Rattle.sw_law_scene.specs.Disks.{Disk, IsFoundOn, IsSide, Sure}
use Rattle.sw_law_scene.specs.Scene.{Scene, disk_of, known_to}
use Rattle.sw_law_owed.proofs.Kept.{DiskBears, handled_bears, sure_bears}
use Rattle.sw_core.specs.Event.{stamp_in}
use Rattle.sw_operation.specs.Operating.{Begun, IsNext, Put as PutBegun, own_of}
use Rattle.sw_core.specs.Sound.{IsSoundWorld, Stands}
use Rattle.sw_core.specs.World.{World}
use Rattle.sw_law_owed.specs.Decided.{KeepsStamps}
use Rattle.sw_law_homes.proofs.Devices.{one_index}
use Rattle.sw_law_complete.specs.Complete.{HaveRoom}
use Rattle.sw_law_complete.proofs.AnsweredRuns.{HandlesWell}
use Rattle.sw_law_complete.proofs.AnsweredStamps.{IsUnbeaten, is_side, put_unbeaten}
use Rattle.sw_law_complete.proofs.AnsweredWorlds.{IsFine, IsServed, IsServing}
use Rattle.sw_law_complete.proofs.PutDevices.{borne_there, commits, put_archive_is, stores}
use Rattle.sw_law_complete.proofs.PutRequests.{Commits, IsPrimaryTarget, IsRight, Stores, commit_message, given_right, store_message}
use Rattle.sw_law_complete.proofs.PutTranscripts.{AreDone, IsDone}

module _ (old : World) (name : NameModel) (object : ObjectModel) where
  -- what it is put to, when, and its number
  abbrev pub cluster : ClusterModel
  cluster = old.scene.cluster

  abbrev pub stamp : ℕ
  stamp = stamp_in old

  -- the put of an object
  abbrev pub put_of : puts.Begun
  put_of = record { cluster = cluster; stamp = stamp; name = name; object = object }

  abbrev pub number : ℕ
  number = length old.operations + 1

  abbrev at_place : PlaceModel
  at_place = place_of_name cluster name

  -- the entry of an index
  abbrev entry : ℕ → Claim
  entry index = record { stamp = stamp; what = AnEntry index }

  -- whatever a disk may hold has it
  abbrev HasIt : (device index : ℕ) → Disk → Type 0
  HasIt device index disk = DiskBears cluster device at_place (entry index) disk

  -- a disk is sure, and as it was, or has the entry of the device's index
  abbrev pub Holds : ℕ → Disk → Type 0
  Holds device disk = ((folders : Folders) × (disk ≡ Sure folders)) × ((disk ≡ disk_of old.scene device) ⊎ ((index : ℕ) × IsPrimaryOf cluster at_place index device × HasIt device index disk))

  -- a reply says that the write was done, and the disk has the entry
  abbrev pub Serves : ℕ → Disk → Msg → Reply → Type 0
  Serves device disk (message.PutFrag place at index bytes) answer = (answer ≡ reply.Synced) × IsPrimaryOf cluster at_place index device × HasIt device index disk
  Serves device disk (message.Commit place at index) answer = answer ≡ reply.Committed
  Serves device disk other answer = ⊥

  -- so it is done
  pub serves_done : (device : ℕ) (disk : Disk) (msg : Msg) (answer : Reply) → Serves device disk msg answer → IsDone msg (Some answer)
  serves_done device disk (message.PutFrag place at index bytes) answer is = ap (λ (one : Reply). Some one) is.0
  serves_done device disk (message.Commit place at index) answer is = ap (λ (one : Reply). Some one) is
  serves_done device disk other answer is = is

  -- so it is in a scene and in a world
  abbrev pub Serving : Scene → Type 0
  Serving = IsServing cluster number (PutBegun put_of) stamp Holds Serves

  abbrev pub Served : World → Type 0
  Served = IsServed cluster number (PutBegun put_of) stamp Holds Serves

  module _ (of : ClusterModel) (sound : IsSoundWorld of old) (may : IsPut cluster.policy stamp name object) (room : HaveRoom old.scene stamp name object) where
    valid : puts.IsBegun put_of
    valid = record { rules = sound.scene.rules }

    -- ---- a world on the way

    module _ (world : World) (is_sound : IsSoundWorld of world) (is : Served world) where
      abbrev past : List Step
      past = is.operation.past

      stands : Stands world.scene number is.operation
      stands = is_sound.operations number is.operation is.there

      -- the transcript is a run of the put's machine
      pub run_is : IsRun (puts.IsNext put_of) past
      run_is = subst (λ (one : Begun). IsRun (IsNext one) past) is.begun_is stands.run

      -- each reply that was taken was made for the put
      made : (sent : Sent) (answer : Reply) → Contains past (Closed sent (Some answer)) → Serves sent.device (disk_of world.scene sent.device) sent.msg answer
      made sent answer has = let was = stands.told sent answer has in is.scene.answers was.0 sent answer was.2

      -- so each answer says that a write was done
      pub are_done : AreDone past
      are_done sent None has = absurd (is.answered sent has)
      are_done sent (Some answer) has = serves_done sent.device (disk_of world.scene sent.device) sent.msg answer (made sent answer has)

      module _ (stamps : KeepsStamps world.scene) (device : ℕ) (member : IsMember cluster device) (found folders : Folders) (finds : IsFoundOn cluster device (disk_of world.scene device) found) where
        abbrev disk : Disk
        disk = disk_of world.scene device

        held : Holds device disk
        held = is.scene.disks device member

        -- what the device works on
        side : IsSide disk found
        side = is_side cluster device disk held.0.0 found held.0.1 finds

        right : IsPlace cluster.part_power at_place
        right = place_right cluster name

        unbeaten : IsUnbeaten (λ floor. StandsAbove floor stamp) (found (folder_of at_place))
        unbeaten =
            put_unbeaten world.scene is_sound.scene stamps stamp is.scene.last (record { stamp = stamp; name = name; object = object })
            (subst (λ (one : Begun). HasOwn (own_of one) (known_to world.scene)) is.begun_is stands.own) refl device found side at_place
            (subst (λ (one : ClusterModel). IsPlace one.part_power at_place) (sym is.scene.same_cluster) right)

        -- an entry that the disk has is found
        there : (index : ℕ) → HasIt device index disk → (names : List FileName) → IsDirectory (names_of (found (folder_of at_place))) names → LacksEntry names stamp index → ⊥
        there index has names directory = borne_there cluster at_place stamp index (is_primary cluster device at_place) (found (folder_of at_place)) names directory unbeaten (has found side)

        module _ (msg : Msg) (answer : Reply) (stamped : IsStamped msg) (about : IsPlaceOf cluster (place_in msg)) (stays : (index : ℕ) → AsksAway at_place (entry index) msg → ⊥) (step : IsDeviceStep cluster device msg answer found folders) where
          -- and stays there
          still : (index : ℕ) → HasIt device index disk → HasIt device index (Sure folders)
          still index has =
              sure_bears cluster device at_place (entry index) folders
              (handled_bears cluster device at_place right (entry index) msg about stamped (λ away. stays index away.1) answer found folders step (has found side))

          serves_still : (other : Msg) (given : Reply) → Serves device disk other given → Serves device (Sure folders) other given
          serves_still (message.PutFrag place at index bytes) given (synced, primary, has) = (synced, primary, still index has)
          serves_still (message.Commit place at index) given committed = committed
          serves_still other given none = none

        -- ---- its messages

        -- an archive comes
        store_fine : (ticket : ℕ) (target : Target) → target.device ≡ device → IsPrimaryTarget put_of target → (answer : Reply)
            → IsDeviceStep cluster device (store_message put_of ticket target).msg answer found folders
            → Holds device (Sure folders) × ((msg : Msg) (given : Reply) → Serves device disk msg given → Serves device (Sure folders) msg given) × Serves device (Sure folders) (store_message put_of ticket target).msg answer
        store_fine ticket target here (primary, below) answer step =
            let msg : Msg = (store_message put_of ticket target).msg in
            let index : ℕ = target.index in
            let own : IsPrimaryOf cluster at_place index device = subst (IsPrimaryOf cluster at_place index) here primary in
            let synced : answer ≡ reply.Synced =
            stores cluster at_place stamp index device answer found folders unbeaten (put_archive cluster.policy stamp name object index) (put_archive_is cluster stamp name object index may below)
            (λ names free directory is_free lacks. ⊎_elim
            (λ same. room device found free index member (sym same ∙ sure) is_free below)
            (λ has. absurd (there index (subst (λ (i : ℕ). HasIt device i disk) (one_index cluster (place_of_name cluster name) sound.scene.rules (place_right cluster name) has.0 index device has.1 own) has.2) names directory lacks))
            held.1) step in
            let claims : Claims (is_primary cluster device at_place) msg answer (entry index) = inl (subst (λ (one : Reply). ClaimsChange msg one (entry index)) (sym synced) refl) in
            let has : HasIt device index (Sure folders) = sure_bears cluster device at_place (entry index) folders (step_bears cluster device step.room msg found folders answer (entry index) at_place refl step.step tt claims) in
            (((folders, refl), inr (index, own, has)), serves_still msg answer tt right (λ other none. none) step, (synced, own, has))
          where
            sure : disk ≡ Sure found
            sure = held.0.1 ∙ ap (λ (these : Folders). Sure these) (sym (subst (λ (one : Disk). IsSide one found) held.0.1 side))

        -- a commit comes
        commit_fine : (ticket : ℕ) (target : Target) → target.device ≡ device → (asked : ℕ) → Contains past (Closed (store_message put_of asked target) (Some reply.Synced)) → (answer : Reply)
            → IsDeviceStep cluster device (commit_message put_of ticket target).msg answer found folders
            → Holds device (Sure folders) × ((msg : Msg) (given : Reply) → Serves device disk msg given → Serves device (Sure folders) msg given) × Serves device (Sure folders) (commit_message put_of ticket target).msg answer
        commit_fine ticket target here asked told answer step =
            let msg : Msg = (commit_message put_of ticket target).msg in
            let was = subst (λ (d : ℕ). Serves d (disk_of world.scene d) (store_message put_of asked target).msg reply.Synced) here (made (store_message put_of asked target) reply.Synced told) in (
              ((folders, refl), inr (target.index, was.1, still msg answer tt right (λ other none. none) step target.index was.2)),
              serves_still msg answer tt right (λ other none. none) step,
              commits cluster at_place stamp target.index device answer found folders unbeaten (there target.index was.2) step,
            )

    -- a device handles each message of the put well
    pub handles_put : HandlesWell of cluster number (PutBegun put_of) stamp Holds Serves
    handles_put world is_sound stamps is at sent has member found folders answer finds step =
        let given_it = subst (λ (one : Begun). Contains (given is.operation.past) sent) is.begun_is ((is_sound.operations number is.operation is.there).requests at sent has).1 in
        by (given_right put_of valid is.operation.past (run_is world is_sound is) (are_done world is_sound is) sent given_it)
      where
        Fine : Sent → Type 0
        Fine one = IsDeviceStep cluster sent.device one.msg answer found folders
            → Holds sent.device (Sure folders) × ((msg : Msg) (given : Reply) → Serves sent.device (disk_of world.scene sent.device) msg given → Serves sent.device (Sure folders) msg given) × Serves sent.device (Sure folders) one.msg answer

        by : IsRight put_of is.operation.past sent → IsFine cluster number (PutBegun put_of) stamp Holds Serves world.scene sent answer folders
        by (Stores target primary same) =
            subst Fine (sym same) (store_fine world is_sound is stamps sent.device member found folders finds sent.ticket target (ap (λ (one : Sent). one.device) (sym same)) primary answer) step
        by (Commits target asked told same) =
            subst Fine (sym same) (commit_fine world is_sound is stamps sent.device member found folders finds sent.ticket target (ap (λ (one : Sent). one.device) (sym same)) asked told answer) step
