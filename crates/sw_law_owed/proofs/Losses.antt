-- Since when a disk was lost.
use Rattle.std.proofs.Common.{ℕ, ◌≤◌, arith}
use Rattle.sw_law_scene.specs.Scene.{IsLostSince, Scene}

-- what was lost since a step was lost since an earlier one
pub lost_before : (scene : Scene) (device since before : ℕ) → before ≤ since → IsLostSince scene device since → IsLostSince scene device before
lost_before scene device since before early (loss, there, same, late) = (loss, there, same, omega (arith, early, late))
