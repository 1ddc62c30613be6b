-- Whatever may be tried at a device can be done, in a scene that keeps all that every scene of a run keeps.
use Rattle.std.proofs.Common.{◌≡◌, inl, ℕ, Contains, refl}
use Rattle.sw_message.specs.Step.{Folders}
use Rattle.sw_message.specs.declared.reply.Reply.{Reply}
use Rattle.sw_message.specs.declared.sent.Sent.{Sent}
use Rattle.sw_law_scene.specs.Devices.{IsDeviceStep}
use Rattle.sw_law_scene.specs.Disks.{Disk, IsFailedBy, IsHeldWithin, IsSide, Sure, Undecided}
use Rattle.sw_law_scene.specs.Moves.{Crashes, CrashesMounting, Fails, Handles, Restarts}
use Rattle.sw_law_scene.specs.Scene.{Request, Scene, disk_of, known_to}
use Rattle.sw_law_scene.specs.Sound.{MayBeSent}
use Rattle.sw_law_scene.proofs.Held.{found-filed}
use Rattle.sw_law_kept.specs.Kept.{KeepsAll}
use Rattle.sw_law_kept.proofs.Places.{found_on}
use Rattle.sw_law_possible.proofs.Disks.{found_of, left_of, mounted, side_of}
use Rattle.sw_law_possible.proofs.Steps.{device_step}

module _ (scene : Scene) where
  -- ---- within a handling

  module _ (sent : Sent) where
    -- a device crashes
    pub crashes : (after : Scene) × Crashes scene sent after
    crashes =
        let disk = disk_of scene sent.device in
        let side = side_of disk in
        (_, record { image = side.0; left = left_of scene.cluster sent.device (IsHeldWithin scene.cluster sent.device sent.msg disk) side.0 (inl side.1); after_is = refl })

    module _ (operation : ℕ) (keeps : KeepsAll scene) (at : ℕ) (request : Contains scene.messages (Request at operation sent)) where
      may : MayBeSent scene.cluster (known_to scene) sent.msg
      may = keeps.sound.messages (Request at operation sent) request

      step_on : (found : Folders) → ((side : Folders) → side ≡ found → IsSide (disk_of scene sent.device) side) → (answer : Reply) × (after : Folders) × IsDeviceStep scene.cluster sent.device sent.msg answer found after
      step_on found is =
          device_step scene.cluster (known_to scene) sent.device sent.msg found keeps.sound.book (keeps.sound.filed sent.device found (is found refl)) (keeps.of_places sent.device found (is found refl)) may

      -- it handles the request
      pub handles : (after : Scene) × Handles scene operation sent after
      handles =
          let disk = disk_of scene sent.device in
          let found = found_of scene.cluster sent.device disk in
          let filed = found-filed scene.cluster (known_to scene) sent.device disk found.0 found.1 (keeps.sound.filed sent.device) in
          let of_places = found_on scene.cluster sent.device disk found.0 found.1 (keeps.of_places sent.device) in
          let step = device_step scene.cluster (known_to scene) sent.device sent.msg found.0 keeps.sound.book filed of_places may in
          (_, record { found = found.0; finds = found.1; reply = step.0; folders = step.1; step = step.2; after_is = refl })

      -- its disk fails
      fails_by : (disk : Disk) → ((side : Folders) → IsSide disk side → IsSide (disk_of scene sent.device) side) → (failed : Disk) × IsFailedBy scene.cluster sent.device sent.msg disk failed
      fails_by (Sure folders) is = let step = step_on folders (λ side same. is side same) in (Undecided folders step.1, (step.0, step.1, step.2, refl))
      fails_by (Undecided before after) is = (Undecided before after, inl refl)

      pub fails : (after : Scene) × Fails scene operation sent after
      fails = let failed = fails_by (disk_of scene sent.device) (λ side is. is) in (_, record { disk = failed.0; failed = failed.1; after_is = refl })

  -- ---- between handlings

  module _ (device : ℕ) where
    -- a device that is down stops again within a mount
    pub crashes_mounting : (after : Scene) × CrashesMounting scene device after
    crashes_mounting =
        let side = side_of (disk_of scene device) in
        (_, record { image = side.0; left = left_of scene.cluster device (IsSide (disk_of scene device)) side.0 side.1; after_is = refl })

    -- or mounts its disk
    pub restarts : (after : Scene) × Restarts scene device after
    restarts =
        let side = side_of (disk_of scene device) in
        let is = mounted scene.cluster device side.0 in
        (_, record { side = side.0; is_side = side.1; mounted = is.0; is_mounted = is.1; after_is = refl })
