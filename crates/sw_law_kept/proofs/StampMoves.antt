-- A scene keeps what it does of stamps whatever happens to a device.
use Rattle.std.proofs.Common.{◌≡◌, ℕ, ◌≤◌, Bool, true, false, Contains, sym, subst, arith}
use Rattle.sw_types.specs.Stamp.{greatest_stamp}
use Rattle.sw_diskfile.proofs.Lists.{Contains-map, Contains-none}
use Rattle.sw_message.specs.Message.{IsPlaceOf, place_in}
use Rattle.sw_message.specs.Step.{Folders}
use Rattle.sw_message.specs.declared.message.Msg.{Msg}
use Rattle.sw_message.specs.declared.message.Msg.TheVariants as message
use Rattle.sw_message.specs.declared.reply.Reply.TheVariants as reply
use Rattle.sw_message.specs.declared.sent.Sent.{Sent}
use Rattle.sw_objsrv.specs.Handling.{IsStamped}
use Rattle.sw_law_scene.specs.Devices.{no_folders}
use Rattle.sw_law_scene.specs.Disks.{IsHeldWithin, IsSide, Sure}
use Rattle.sw_law_scene.specs.Moves.{Crashes, CrashesMounting, Fails, Handles, Restarts, lost, stopped, ticked}
use Rattle.sw_law_scene.specs.Scene.{Request, Scene, StartedDelete, disk_of, set_device}
use Rattle.sw_law_scene.specs.Sound.{IsSoundScene}
use Rattle.sw_law_kept.specs.Kept.{AreMarksStamped}
use Rattle.sw_law_owed.specs.Decided.{AreNamesBy, IsMessageBy}
use Rattle.sw_law_owed.proofs.Grown.{message_still, same_scene}
use Rattle.sw_law_owed.proofs.Held.{failed_names, found_names, held_names, left_names, mounted_names, sure_names}
use Rattle.sw_law_kept.proofs.StampNews.{IsKeeping}
use Rattle.sw_law_owed.proofs.Steps.{stepped}
use Rattle.sw_law_kept.proofs.Still.{lost_keeping, replies_keeping, set_keeping}

-- a message that buries only what was deleted has a stamp that there is
message_stamped : (scene : Scene) (by : ℕ) → AreMarksStamped scene → (msg : Msg) → IsMessageBy scene by msg → IsStamped msg
message_stamped scene by stamped (message.Delete place stamp) (delete, there, same, placed, started) =
    subst (λ (s : ℕ). s ≤ greatest_stamp) same (stamped delete.marked (Contains-map (λ (one : StartedDelete). one.marked) scene.marks delete there))
message_stamped scene by stamped other is = tt

module _ (scene : Scene) (sound : IsSoundScene scene) (keeping : IsKeeping scene) where
  -- a device has these folders on its disk
  holds_keeping : (device : ℕ) (folders : Folders) (is_up : Bool) (after : Scene) → AreNamesBy scene scene.now folders → after ≡ ticked (set_device device (record { disk = Sure folders; is_up = is_up }) scene) → IsKeeping after
  holds_keeping device folders is_up after names is = subst IsKeeping (sym is) (set_keeping scene keeping device (record { disk = Sure folders; is_up = is_up }) (sure_names scene scene.now folders names))

  -- ---- within a handling

  module _ (asked operation : ℕ) (sent : Sent) (request : Contains scene.messages (Request asked operation sent)) where
    -- the message is about a place of the cluster; what it says is by now, and its stamp is one that there is
    right : IsPlaceOf scene.cluster (place_in sent.msg)
    right = (sound.messages (Request asked operation sent) request).0

    may : IsMessageBy scene scene.now sent.msg
    may = message_still scene scene (same_scene scene) asked scene.now (omega (arith, sound.before (Request asked operation sent) request)) sent.msg (keeping.keeps.requests asked operation sent request)

    stamped : IsStamped sent.msg
    stamped = message_stamped scene scene.now keeping.marks sent.msg may

    -- the device handles the message
    pub handles_keeping : (after : Scene) → Handles scene operation sent after → IsKeeping after
    handles_keeping after is =
        let found = found_names scene scene.now sent.device (disk_of scene sent.device) is.found is.finds (keeping.keeps.disks sent.device) in
        let done = stepped scene scene.now is.found is.folders found sent.device sent.msg is.reply right stamped may is.step in
        subst IsKeeping (sym is.after_is) (replies_keeping scene keeping operation sent is.reply (record (scene.devices sent.device) { disk = Sure is.folders }) (sure_names scene scene.now is.folders done.0) done.1)

    -- its disk fails
    pub fails_keeping : (after : Scene) → Fails scene operation sent after → IsKeeping after
    fails_keeping after is =
        subst IsKeeping (sym is.after_is) (replies_keeping scene keeping operation sent reply.DiskFault (record (scene.devices sent.device) { disk = is.disk })
        (failed_names scene scene.now sent.device sent.msg right stamped may (disk_of scene sent.device) is.disk is.failed (keeping.keeps.disks sent.device))
        (λ place there. tt))

    -- it stops
    pub crashes_keeping : (after : Scene) → Crashes scene sent after → IsKeeping after
    crashes_keeping after is = holds_keeping sent.device is.image false after
        (left_names scene scene.now sent.device (IsHeldWithin scene.cluster sent.device sent.msg (disk_of scene sent.device)) is.image is.left
        (held_names scene scene.now sent.device sent.msg right stamped may (disk_of scene sent.device) (keeping.keeps.disks sent.device))) is.after_is

  -- ---- between handlings

  module _ (device : ℕ) where
    -- a device that is down stops again
    pub crashes_mounting_keeping : (after : Scene) → CrashesMounting scene device after → IsKeeping after
    crashes_mounting_keeping after is =
        holds_keeping device is.image false after (left_names scene scene.now device (IsSide (disk_of scene device)) is.image is.left (keeping.keeps.disks device)) is.after_is

    -- it mounts its disk
    pub restarts_keeping : (after : Scene) → Restarts scene device after → IsKeeping after
    restarts_keeping after is =
        holds_keeping device is.mounted true after (mounted_names scene scene.now device is.side is.mounted is.is_mounted (keeping.keeps.disks device is.side is.is_side)) is.after_is

    -- one that is up stops
    pub stopped_keeping : IsKeeping (stopped device scene)
    stopped_keeping = set_keeping scene keeping device (record (scene.devices device) { is_up = false }) (keeping.keeps.disks device)

    -- its disk is lost
    pub loses_keeping : IsKeeping (lost device scene)
    loses_keeping = lost_keeping scene keeping device (record (scene.devices device) { disk = Sure no_folders })
        (sure_names scene scene.now no_folders (λ place name is_place spelt has. absurd (Contains-none _ has))) (record { device = device; step = scene.now })
