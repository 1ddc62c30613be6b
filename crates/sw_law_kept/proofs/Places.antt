-- Only the folders of places have files, whatever happens.
use Rattle.std.proofs.Common.{inl, inr, ⊎_elim, ℕ, false, Option, Some, None, refl, sym, subst, ◌∙◌}
use Rattle.std.proofs.lemmas.Bool.{cases_eq}
use Rattle.sw_hashpath.specs.Place.{PlaceModel}
use Rattle.sw_ring.specs.Cluster.{ClusterModel}
use Rattle.sw_message.specs.Message.{IsPlaceOf, place_in}
use Rattle.sw_message.specs.Step.{Folders, IsStepAt}
use Rattle.sw_message.specs.declared.message.Msg.{Msg}
use Rattle.sw_message.specs.declared.reply.Reply.{Reply}
use Rattle.sw_law_scene.specs.Devices.{IsDeviceStep, no_folders}
use Rattle.sw_law_scene.specs.Disks.{AreOfPlaces, Disk, IsFailedBy, IsFoundOn, IsHeldWithin, IsLeftOf, IsMounted, IsSide, Sure, Undecided}
use Rattle.sw_law_scene.specs.Scene.{DeviceState, Request, Scene, disk_of, empty_scene, set_device}
use Rattle.sw_law_scene.specs.SceneMove.{Asked, AtDevice, Crashed, CrashedMounting, DeviceMove, Failed, Handled, Lost, Notes, NotesDelete, NotesNothing, NotesPut, Passed, Restarted, SceneMove, Stopped}
use Rattle.sw_law_scene.specs.Sound.{IsSoundScene}
use Rattle.sw_law_scene.proofs.Disks.{disk_here, disk_there}

-- ---- the disk of a device

module _ (cluster : ClusterModel) (device : ℕ) where
  abbrev These : Folders → Type 0
  These folders = AreOfPlaces cluster folders

  abbrev IsOfPlaces : Disk → Type 0
  IsOfPlaces disk = (side : Folders) → IsSide disk side → These side

  sure : (folders : Folders) → These folders → IsOfPlaces (Sure folders)
  sure folders are side is = subst These (sym is) are

  undecided : (before after : Folders) → These before → These after → IsOfPlaces (Undecided before after)
  undecided before after first second side (inl is) = subst These (sym is) first
  undecided before after first second side (inr is) = subst These (sym is) second

  mounted : (before after : Folders) → IsMounted cluster device before after → These before → These after
  mounted before after is are name none = is.others name none ∙ are name none

  pub found_on : (disk : Disk) (found : Folders) → IsFoundOn cluster device disk found → IsOfPlaces disk → These found
  found_on (Sure folders) found is are = are found is
  found_on (Undecided before after) found (inl is) are = mounted before found is (are before (inl refl))
  found_on (Undecided before after) found (inr is) are = mounted after found is (are after (inr refl))

  left_of : (Held : Folders → Type 0) (image : Folders) → IsLeftOf cluster device Held image → ((these : Folders) → Held these → These these) → These image
  left_of Held image is are name none = let from = is.others name none in from.2 ∙ are from.0 from.1 name none

  -- a message about a place of the cluster changes no other folder
  step_at : (room : ℕ) (msg : Msg) (reply : Reply) (place : Option PlaceModel) (before after : Folders) → IsPlaceOf cluster place → IsStepAt cluster device room msg place before after reply → These before → These after
  step_at room msg reply None before after right step are name none = step.same name ∙ are name none
  step_at room msg reply (Some place) before after right step are name none = step.changed.others name (none place right) ∙ are name none

  module _ (msg : Msg) (right : IsPlaceOf cluster (place_in msg)) where
    stepped : (reply : Reply) (before after : Folders) → IsDeviceStep cluster device msg reply before after → These before → These after
    stepped reply before after is = step_at is.room msg reply (place_in msg) before after right is.step

    held_within : (disk : Disk) → IsOfPlaces disk → (these : Folders) → IsHeldWithin cluster device msg disk these → These these
    held_within disk are these (inl side) = are these side
    held_within disk are these (inr (found, reply, is_found, step)) = stepped reply found these step (found_on disk found is_found are)

    failed_by : (before after : Disk) → IsFailedBy cluster device msg before after → IsOfPlaces before → IsOfPlaces after
    failed_by (Sure folders) failed (reply, after, step, same) are = subst IsOfPlaces (sym same) (undecided folders after (are folders refl) (stepped reply folders after step (are folders refl)))
    failed_by (Undecided before after) failed (inl same) are = subst IsOfPlaces (sym same) are
    failed_by (Undecided before after) failed (inr (found, later, reply, is_found, step, same)) are =
        let here = found_on (Undecided before after) found is_found are in
        subst IsOfPlaces (sym same) (undecided found later here (stepped reply found later step here))

-- ---- scenes

abbrev pub AllOfPlaces : Scene → Type 0
AllOfPlaces scene = (device : ℕ) → IsOfPlaces scene.cluster device (disk_of scene device)

-- one device has such a disk
set_one : (scene : Scene) → AllOfPlaces scene → (device : ℕ) (state : DeviceState) → IsOfPlaces scene.cluster device state.disk → AllOfPlaces (set_device device state scene)
set_one scene are device state is other = ⊎_elim
    (λ same. subst (IsOfPlaces scene.cluster other) (sym (disk_here scene device state other same)) (subst (λ (one : ℕ). IsOfPlaces scene.cluster one state.disk) (sym same) is))
    (λ apart. subst (IsOfPlaces scene.cluster other) (sym (disk_there scene device state other apart)) (are other))
    (cases_eq other device)

module _ (scene : Scene) (sound : IsSoundScene scene) (are : AllOfPlaces scene) where
  at_device : (after : Scene) → DeviceMove scene after → AllOfPlaces after
  at_device _ Passed = are
  at_device _ (Handled at operation sent request after done) =
      let device = sent.device in
      let here = found_on scene.cluster device (disk_of scene device) done.found done.finds (are device) in
      let right = (sound.messages (Request at operation sent) request).0 in
      subst AllOfPlaces (sym done.after_is) (set_one scene are device _ (sure scene.cluster device done.folders (stepped scene.cluster device sent.msg right done.reply done.found done.folders done.step here)))
  at_device _ (Failed at operation sent request after done) =
      let device = sent.device in
      let right = (sound.messages (Request at operation sent) request).0 in
      subst AllOfPlaces (sym done.after_is) (set_one scene are device _ (failed_by scene.cluster device sent.msg right (disk_of scene device) done.disk done.failed (are device)))
  at_device _ (Crashed at operation sent request after done) =
      let device = sent.device in
      let right = (sound.messages (Request at operation sent) request).0 in
      let held = held_within scene.cluster device sent.msg right (disk_of scene device) (are device) in
      subst AllOfPlaces (sym done.after_is) (set_one scene are device _ (sure scene.cluster device done.image (left_of scene.cluster device _ done.image done.left held)))
  at_device _ (CrashedMounting device after done) =
      subst AllOfPlaces (sym done.after_is) (set_one scene are device _ (sure scene.cluster device done.image (left_of scene.cluster device _ done.image done.left (are device))))
  at_device _ (Stopped device) = set_one scene are device (record (scene.devices device) { is_up = false }) (are device)
  at_device _ (Restarted device after done) =
      subst AllOfPlaces (sym done.after_is) (set_one scene are device _ (sure scene.cluster device done.mounted (mounted scene.cluster device done.side done.mounted done.is_mounted (are device done.side done.is_side))))
  at_device _ (Lost device) = set_one scene are device (record (scene.devices device) { disk = Sure no_folders }) (sure scene.cluster device no_folders (λ name none. refl))

  noted_so : (clock : ℕ) (noted : Scene) → Notes clock scene noted → AllOfPlaces noted
  noted_so clock _ NotesNothing = are
  noted_so clock _ (NotesPut name object left put) = are
  noted_so clock _ (NotesDelete name left) = are

  -- whatever happens
  pub moves_so : (clock : ℕ) (after : Scene) → SceneMove clock scene after → AllOfPlaces after
  moves_so clock _ (AtDevice after move) = at_device after move
  moves_so clock _ (Asked noted begins number sents) = noted_so clock noted begins

-- of a cluster without files
pub empty_so : (cluster : ClusterModel) → AllOfPlaces (empty_scene cluster)
empty_so cluster device = sure cluster device no_folders (λ name none. refl)
