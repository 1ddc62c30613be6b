-- The disks of a scene where one device has another state.
use Rattle.std.proofs.Common.{◌≡◌, ◌≢◌, ℕ, ◌==◌, eq-eqb, ne_eqb, ap}
use Rattle.std.proofs.lemmas.Bool.{cond-false, cond-true}
use Rattle.sw_law_scene.specs.Scene.{DeviceState, Scene, disk_of, set_device}

module _ (scene : Scene) (device : ℕ) (state : DeviceState) where
  -- the device has the disk of that state
  pub disk_here : (other : ℕ) → other ≡ device → disk_of (set_device device state scene) other ≡ state.disk
  disk_here other same = ap (λ (one : DeviceState). one.disk) (cond-true (other == device) state (scene.devices other) (eq-eqb other device same))

  -- and the others have theirs
  pub disk_there : (other : ℕ) → other ≢ device → disk_of (set_device device state scene) other ≡ disk_of scene other
  disk_there other apart = ap (λ (one : DeviceState). one.disk) (cond-false (other == device) state (scene.devices other) (ne_eqb other device apart))
