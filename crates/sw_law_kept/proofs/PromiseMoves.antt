-- A scene keeps its promises whatever happens to a device.
use Rattle.std.proofs.Common.{◌≡◌, ◌⊎◌, inl, inr, ⊎_elim, ℕ, Bool, true, false, Contains, sym, subst}
use Rattle.sw_hashpath.specs.Place.{IsPlace, PlaceModel}
use Rattle.sw_message.specs.Message.{IsPlaceOf}
use Rattle.sw_message.specs.Step.{Folders}
use Rattle.sw_message.specs.declared.reply.Reply.TheVariants as reply
use Rattle.sw_message.specs.declared.sent.Sent.{Sent}
use Rattle.sw_objsrv.specs.Handling.{IsStamped}
use Rattle.sw_law_claim.specs.Claim.{ATombstone, Claim}
use Rattle.sw_law_claim.proofs.Steps.{step_bears, step_lists, step_stamped}
use Rattle.sw_law_scene.specs.Disks.{IsHeldWithin, IsSide, Sure}
use Rattle.sw_law_scene.specs.Moves.{Crashes, CrashesMounting, Fails, Handles, Restarts, stopped, ticked}
use Rattle.sw_law_scene.specs.Scene.{Request, Scene, disk_of, known_to, set_device}
use Rattle.sw_law_scene.specs.Sound.{IsSoundScene, MayBeSent}
use Rattle.sw_law_owed.specs.Promise.{BearsAt, WasHandedOn}
use Rattle.sw_law_owed.proofs.Faults.{no_claim}
use Rattle.sw_law_owed.proofs.Kept.{Bears, DiskBears, IsAway, away_or_not, failed_bears, found_bears, handled_bears, held_bears, left_bears, mounted_bears, sure_bears}
use Rattle.sw_law_kept.proofs.PromiseNews.{IsPromising}
use Rattle.sw_law_kept.proofs.Quiet.{set_promising}
use Rattle.sw_law_kept.proofs.Replying.{replies_promising}
use Rattle.sw_law_kept.proofs.Warrants.{handed_on, request_stamped}

module _ (scene : Scene) (sound : IsSoundScene scene) (promising : IsPromising scene) where
  -- a device has these folders on its disk, that bear what the one before did, or the duty was handed on
  holds_promising : (device : ℕ) (folders : Folders) (is_up : Bool) (after : Scene)
      → ((place : PlaceModel) (claim : Claim) → IsPlace scene.cluster.part_power place → BearsAt scene device place claim → Bears scene.cluster device place claim folders ⊎ WasHandedOn scene device place claim scene.now)
      → after ≡ ticked (set_device device (record { disk = Sure folders; is_up = is_up }) scene) → IsPromising after
  holds_promising device folders is_up after itself is =
      subst IsPromising (sym is) (set_promising scene sound device (record { disk = Sure folders; is_up = is_up }) (λ place claim is_place borne. ⊎_elim
      (λ bears. inl (sure_bears scene.cluster device place claim folders bears))
      (λ handed. inr handed)
      (itself place claim is_place borne)) promising)

  -- ---- within a handling

  module _ (asked operation : ℕ) (sent : Sent) (request : Contains scene.messages (Request asked operation sent)) where
    -- the message is a warranted one, and has a stamp that there is
    may : MayBeSent scene.cluster (known_to scene) sent.msg
    may = sound.messages (Request asked operation sent) request

    stamped : IsStamped sent.msg
    stamped = request_stamped scene promising sent.msg may.1

    -- what stays where the message does not ask it away is there, or was handed on
    module _ (place : PlaceModel) (claim : Claim) (is_place : IsPlace scene.cluster.part_power place) where
      unless_away : (P : Type 0) → ((IsAway scene.cluster sent.device place claim sent.msg → ⊥) → P) → P ⊎ WasHandedOn scene sent.device place claim scene.now
      unless_away P stays = ⊎_elim
          (λ away. inr (handed_on scene sound sent.device place claim sent.msg away.0 away.1 may.1))
          (λ not. inl (stays not))
          (away_or_not scene.cluster sent.device place is_place claim sent.msg may.0)

    -- what the device works on bears what its disk does
    found : (place : PlaceModel) (claim : Claim) → IsPlace scene.cluster.part_power place → (after : Scene) (is : Handles scene operation sent after) → BearsAt scene sent.device place claim
        → Bears scene.cluster sent.device place claim is.found
    found place claim is_place after is borne = found_bears scene.cluster sent.device place is_place claim (disk_of scene sent.device) is.found is.finds borne

    -- the device handles the message
    pub handles_promising : (after : Scene) → Handles scene operation sent after → IsPromising after
    handles_promising after is =
        subst IsPromising (sym is.after_is) (replies_promising scene sound operation sent is.reply (record (scene.devices sent.device) { disk = Sure is.folders })
        (λ place claim is_place borne. unless_away place claim is_place (DiskBears scene.cluster sent.device place claim (Sure is.folders)) (λ stays.
        sure_bears scene.cluster sent.device place claim is.folders
        (handled_bears scene.cluster sent.device place is_place claim sent.msg may.0 stamped stays is.reply is.found is.folders is.step (found place claim is_place after is borne))))
        (λ place claim there claims.
        sure_bears scene.cluster sent.device place claim is.folders (step_bears scene.cluster sent.device is.step.room sent.msg is.found is.folders is.reply claim place there is.step.step stamped claims))
        (λ place claim listing there has borne.
        step_lists scene.cluster sent.device is.step.room sent.msg is.found is.folders is.reply claim place there is.step.step listing has (found place claim (subst (IsPlaceOf scene.cluster) there may.0) after is borne))
        (λ place listing stamp there has lists.
        step_stamped scene.cluster sent.device is.step.room sent.msg is.found is.folders is.reply (record { stamp = stamp; what = ATombstone }) place there is.step.step listing has stamp lists)
        promising)

    -- its disk fails
    pub fails_promising : (after : Scene) → Fails scene operation sent after → IsPromising after
    fails_promising after is =
        subst IsPromising (sym is.after_is) (replies_promising scene sound operation sent reply.DiskFault (record (scene.devices sent.device) { disk = is.disk })
        (λ place claim is_place borne. unless_away place claim is_place (DiskBears scene.cluster sent.device place claim is.disk) (λ stays.
        failed_bears scene.cluster sent.device place is_place claim sent.msg may.0 stamped stays (disk_of scene sent.device) is.disk is.failed borne))
        (λ place claim there claims. absurd (no_claim _ sent.msg claim claims))
        (λ place claim listing there none. absurd none)
        (λ place listing stamp there none. absurd none)
        promising)

    -- it stops
    pub crashes_promising : (after : Scene) → Crashes scene sent after → IsPromising after
    crashes_promising after is =
        holds_promising sent.device is.image false after (λ place claim is_place borne. unless_away place claim is_place (Bears scene.cluster sent.device place claim is.image) (λ stays.
        left_bears scene.cluster sent.device place is_place claim (IsHeldWithin scene.cluster sent.device sent.msg (disk_of scene sent.device)) is.image is.left
        (held_bears scene.cluster sent.device place is_place claim sent.msg may.0 stamped stays (disk_of scene sent.device) borne))) is.after_is

  -- ---- between handlings

  module _ (device : ℕ) where
    -- a device that is down stops again
    pub crashes_mounting_promising : (after : Scene) → CrashesMounting scene device after → IsPromising after
    crashes_mounting_promising after is = holds_promising device is.image false after
        (λ place claim is_place borne. inl (left_bears scene.cluster device place is_place claim (IsSide (disk_of scene device)) is.image is.left borne)) is.after_is

    -- it mounts its disk
    pub restarts_promising : (after : Scene) → Restarts scene device after → IsPromising after
    restarts_promising after is = holds_promising device is.mounted true after
        (λ place claim is_place borne. inl (mounted_bears scene.cluster device place is_place claim is.side is.mounted is.is_mounted (borne is.side is.is_side))) is.after_is

    -- one that is up stops
    pub stopped_promising : IsPromising (stopped device scene)
    stopped_promising = set_promising scene sound device (record (scene.devices device) { is_up = false }) (λ place claim is_place borne. inl borne) promising
