-- What holds of each world on the way of a delete that runs alone: each device is sure of its disk, and answers that the tombstone is there.
use Rattle.std.proofs.Common.{◌≡◌, inl, inr, ℕ, ◌+◌, Bool, length, Some, None, refl, sym, ap, subst, ◌∙◌}
use Rattle.sw_types.specs.Name.{NameModel}
use Rattle.sw_hashpath.specs.Place.{IsPlace, PlaceModel, folder_of}
use Rattle.sw_ring.specs.Cluster.{ClusterModel, place_of_name}
use Rattle.sw_message.specs.Learnt.{HasOwn}
use Rattle.sw_message.specs.Step.{Folders}
use Rattle.sw_message.specs.Table.{Allows, DeleteSuperseded, DeleteThere, DeleteWritten, Found, HandlesDelete, Handling}
use Rattle.sw_message.specs.Transcript.{IsRun}
use Rattle.sw_message.specs.declared.message.Msg.{Msg}
use Rattle.sw_message.specs.declared.message.Msg.TheVariants as message
use Rattle.sw_message.specs.declared.reply.Reply.{Reply}
use Rattle.sw_message.specs.declared.reply.Reply.TheVariants as reply
use Rattle.sw_message.specs.declared.sent.Sent.{Sent}
use Rattle.sw_quorum.proofs.Places.{place_right}
use Rattle.sw_delete.specs.Delete as deletes
use Rattle.sw_law_scene.specs.Devices.{IsDeviceStep}
use Rattle.sw_law_scene.specs.Disks.{Disk, Sure}
use Rattle.sw_law_scene.specs.Scene.{Scene, disk_of, known_to}
use Rattle.sw_core.specs.Event.{stamp_in}
use Rattle.sw_operation.specs.Operating.{Begun, Delete as DeleteBegun, IsNext, own_of}
use Rattle.sw_core.specs.Sound.{IsSoundWorld, Stands}
use Rattle.sw_core.specs.World.{World}
use Rattle.sw_law_complete.proofs.AnsweredRuns.{HandlesWell}
use Rattle.sw_law_complete.proofs.AnsweredStamps.{IsUnbeaten, RefusesMark, delete_unbeaten, is_side, no_floor_beats}
use Rattle.sw_law_complete.proofs.AnsweredWorlds.{IsServed, IsServing}
use Rattle.sw_law_complete.proofs.DeleteTranscripts.{AreMarked, IsMarked, given_is}

-- ---- devices

marks_row : (primary : Bool) (place : PlaceModel) (stamp : ℕ) (found : Found) (handling : Handling) → Allows found.names stamp → HandlesDelete primary place stamp found handling → (existed : Bool) × (handling.reply ≡ reply.Deleted existed)
marks_row primary place stamp found handling allows (DeleteSuperseded floor refuses same) = absurd (allows floor refuses)
marks_row primary place stamp found handling allows (DeleteThere allowed existed tells has same) = (existed, ap (λ (one : Handling). one.reply) same)
marks_row primary place stamp found handling allows (DeleteWritten allowed existed tells new obsolete purged same) = (existed, ap (λ (one : Handling). one.reply) same)

-- a tombstone is written or there, where no floor refuses it
marks : (cluster : ClusterModel) (place : PlaceModel) (stamp device : ℕ) (answer : Reply) (before after : Folders) → IsUnbeaten (RefusesMark stamp) (before (folder_of place)) → IsDeviceStep cluster device (message.Delete place stamp) answer before after
    → (existed : Bool) × (answer ≡ reply.Deleted existed)
marks cluster place stamp device answer before after unbeaten is =
    let step = is.step in
    let row =
    marks_row _ place stamp step.found step.handling
    (λ floor refuses. no_floor_beats (RefusesMark stamp) (before (folder_of place)) step.found.names step.is_found.directory unbeaten floor refuses.0.0 refuses.1) step.handled in
    (row.0, step.replied ∙ row.1)

-- ---- worlds

module _ (old : World) (name : NameModel) where
  -- of which cluster it is deleted, when, and its number
  abbrev pub cluster : ClusterModel
  cluster = old.scene.cluster

  abbrev pub stamp : ℕ
  stamp = stamp_in old

  -- the delete of a name
  abbrev pub delete_of : deletes.Begun
  delete_of = record { cluster = cluster; stamp = stamp; name = name }

  abbrev pub number : ℕ
  number = length old.operations + 1

  -- a disk is sure
  abbrev pub Holds : ℕ → Disk → Type 0
  Holds device disk = (folders : Folders) × (disk ≡ Sure folders)

  -- a reply says that the tombstone is there
  abbrev pub Serves : ℕ → Disk → Msg → Reply → Type 0
  Serves device disk msg answer = IsMarked msg (Some answer)

  -- so it is in a scene and in a world
  abbrev pub Serving : Scene → Type 0
  Serving = IsServing cluster number (DeleteBegun delete_of) stamp Holds Serves

  abbrev pub Served : World → Type 0
  Served = IsServed cluster number (DeleteBegun delete_of) stamp Holds Serves

  module _ (of : ClusterModel) where
    module _ (world : World) (is_sound : IsSoundWorld of world) (is : Served world) where
      stands : Stands world.scene number is.operation
      stands = is_sound.operations number is.operation is.there

      -- the transcript is a run of the delete's machine
      pub run_is : IsRun (deletes.IsNext delete_of) is.operation.past
      run_is = subst (λ (one : Begun). IsRun (IsNext one) is.operation.past) is.begun_is stands.run

      -- each answer that was taken says so
      pub are_marked : AreMarked is.operation.past
      are_marked sent None has = absurd (is.answered sent has)
      are_marked sent (Some answer) has = let was = stands.told sent answer has in is.scene.answers was.0 sent answer was.2

    -- a device handles the delete well
    pub handles_delete : HandlesWell of cluster number (DeleteBegun delete_of) stamp Holds Serves
    handles_delete world is_sound stamps is at sent has member found folders answer finds step =
        let disk = disk_of world.scene sent.device in
        let held = is.scene.disks sent.device member in
        let place = place_of_name cluster name in
        let own = stands world is_sound is in
        let unbeaten =
        delete_unbeaten world.scene is_sound.scene stamps stamp is.scene.last (record { stamp = stamp; name = name })
        (subst (λ (one : Begun). HasOwn (own_of one) (known_to world.scene)) is.begun_is own.own) refl sent.device found (is_side cluster sent.device disk held.0 found held.1 finds) place
        (subst (λ (one : ClusterModel). IsPlace one.part_power place) (sym is.scene.same_cluster) (place_right cluster name)) in
        let given_it = given_is delete_of is.operation.past (run_is world is_sound is) sent (own.requests at sent has).1 in
        let msg : message.Delete place stamp ≡ sent.msg = sym (ap (λ (one : Sent). one.msg) given_it.1) in
        let marked = marks cluster place stamp sent.device answer found folders unbeaten (subst (λ (one : Msg). IsDeviceStep cluster sent.device one answer found folders) (sym msg) step) in
        ((folders, refl), (λ other given serves. serves), subst (λ (one : Msg). IsMarked one (Some answer)) msg (marked.0, ap (λ (one : Reply). Some one) marked.1))
