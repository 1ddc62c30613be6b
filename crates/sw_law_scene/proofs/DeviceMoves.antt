-- A scene stays sound whatever happens to a device.
use Rattle.std.proofs.Common.{◌≡◌, ℕ, Bool, true, false, Contains, sym, subst}
use Rattle.sw_message.specs.Learnt.{Learnt}
use Rattle.sw_message.specs.Step.{Folders}
use Rattle.sw_message.specs.declared.reply.Reply.TheVariants as reply
use Rattle.sw_message.specs.declared.sent.Sent.{Sent}
use Rattle.sw_law_scene.specs.Devices.{no_folders}
use Rattle.sw_law_scene.specs.Disks.{IsHeldWithin, IsSide, Sure}
use Rattle.sw_law_scene.specs.Filed.{FoldersFiled}
use Rattle.sw_law_scene.specs.Moves.{Crashes, CrashesMounting, Fails, Handles, Restarts, lost, stopped, ticked}
use Rattle.sw_law_scene.specs.Scene.{Request, Scene, disk_of, known_to, set_device, set_disk}
use Rattle.sw_law_scene.specs.Sound.{IsSoundScene, MayBeSent}
use Rattle.sw_law_scene.proofs.Filed.{stepped}
use Rattle.sw_law_scene.proofs.Held.{failed-filed, found-filed, held-filed, left-filed, mounted-filed, sure-filed}
use Rattle.sw_law_scene.proofs.Sounds.{empty-filed, replied-sound, set-sound, ticked-sound}

module _ (scene : Scene) (sound : IsSoundScene scene) where
  abbrev learnt : Learnt
  learnt = known_to scene

  -- these folders are on a disk
  holds-sound : (device : ℕ) (folders : Folders) (is_up : Bool) (after : Scene) → FoldersFiled scene.cluster learnt.book folders
      → after ≡ ticked (set_device device (record { disk = Sure folders; is_up = is_up }) scene) → IsSoundScene after
  holds-sound device folders is_up after filed is =
      subst IsSoundScene (sym is) (ticked-sound _ (set-sound scene sound device (record { disk = Sure folders; is_up = is_up }) (sure-filed scene.cluster learnt device folders filed)))

  -- ---- within a handling

  module _ (asked operation : ℕ) (sent : Sent) (request : Contains scene.messages (Request asked operation sent)) where
    may : MayBeSent scene.cluster learnt sent.msg
    may = sound.messages (Request asked operation sent) request

    pub handles-sound : (after : Scene) → Handles scene operation sent after → IsSoundScene after
    handles-sound after is =
        let found = found-filed scene.cluster learnt sent.device (disk_of scene sent.device) is.found is.finds (sound.filed sent.device) in
        let done = stepped scene.cluster learnt is.found is.folders found sent.device sent.msg is.reply sound.book may.0 is.step in
        let set = set-sound scene sound sent.device _ (sure-filed scene.cluster learnt sent.device is.folders (done.0 may.1)) in
        subst IsSoundScene (sym is.after_is) (replied-sound (set_disk sent.device (Sure is.folders) scene) set asked operation sent is.reply request done.1)

    pub fails-sound : (after : Scene) → Fails scene operation sent after → IsSoundScene after
    fails-sound after is =
        let failed = failed-filed scene.cluster learnt sent.device sent.msg sound.book may.0 may.1 (disk_of scene sent.device) is.disk is.failed (sound.filed sent.device) in
        let set = set-sound scene sound sent.device _ failed in
        subst IsSoundScene (sym is.after_is) (replied-sound (set_disk sent.device is.disk scene) set asked operation sent reply.DiskFault request tt)

    pub crashes-sound : (after : Scene) → Crashes scene sent after → IsSoundScene after
    crashes-sound after is =
        let held = held-filed scene.cluster learnt sent.device sent.msg sound.book may.0 may.1 (disk_of scene sent.device) (sound.filed sent.device) in
        let image = left-filed scene.cluster learnt sent.device (IsHeldWithin scene.cluster sent.device sent.msg (disk_of scene sent.device)) is.image is.left held in
        holds-sound sent.device is.image false after image is.after_is

  -- ---- between handlings

  module _ (device : ℕ) where
    pub crashes_mounting-sound : (after : Scene) → CrashesMounting scene device after → IsSoundScene after
    crashes_mounting-sound after is =
        holds-sound device is.image false after (left-filed scene.cluster learnt device (IsSide (disk_of scene device)) is.image is.left (sound.filed device)) is.after_is

    pub restarts-sound : (after : Scene) → Restarts scene device after → IsSoundScene after
    restarts-sound after is =
        holds-sound device is.mounted true after (mounted-filed scene.cluster learnt device is.side is.mounted is.is_mounted (sound.filed device is.side is.is_side)) is.after_is

    pub stopped-sound : IsSoundScene (stopped device scene)
    stopped-sound = ticked-sound _ (set-sound scene sound device (record (scene.devices device) { is_up = false }) (sound.filed device))

    pub lost-sound : IsSoundScene (lost device scene)
    lost-sound =
        let emptied = ticked-sound _ (set-sound scene sound device (record (scene.devices device) { disk = Sure no_folders }) (empty-filed scene.cluster learnt.book)) in
        record {
          rules = emptied.rules;
          book = emptied.book;
          booked = emptied.booked;
          marked = emptied.marked;
          filed = emptied.filed;
          messages = emptied.messages;
          before = emptied.before;
          asked = emptied.asked;
        }
