-- How a get ends beside which nothing steps, by what devices have at its place.
use Rattle.std.specs.Prelude.{◌≡◌, ◌⊎◌, ℕ, List}
use Rattle.sw_types.specs.Object.{ObjectModel}
use Rattle.sw_hashpath.specs.Place.{PlaceModel}
use Rattle.sw_hashdir.specs.declared.floor.Floor.{Floor}
use Rattle.sw_message.specs.Floors.{durable_at, tombstone_floor}
use Rattle.sw_message.specs.declared.target.Target.{Target}
use Rattle.sw_get.specs.declared.end.GetEnd.{GetEnd}
use Rattle.sw_get.specs.declared.end.GetEnd.TheVariants as gets
use Rattle.sw_law_scene.specs.Scene.{Scene}
use Rattle.sw_law_complete.specs.Complete.{AreHeldThere, IsFloorThere, IsGreatestThere}

-- an object was found at a stamp
abbrev pub IsFoundAt : ℕ → GetEnd → Type 0
IsFoundAt stamp end = (object : ObjectModel) × (sources : List Target) × (end ≡ gets.Found stamp object sources)

-- Absent where no device has a floor, Buried where the greatest is a tombstone, and where it is durable Found or TooFew at its stamp:
-- Found if k indices of that are held, and TooFew only if they are not.
pub record EndsByWhatIsThere (scene : Scene) (place : PlaceModel) (end : GetEnd) : Type 0 where
  pub absent : ((floor : Floor) → IsFloorThere scene place floor → ⊥) → end ≡ gets.Absent
  pub buried : (stamp : ℕ) → IsGreatestThere scene place (tombstone_floor stamp) → end ≡ gets.Buried stamp
  pub durable : (stamp : ℕ) → IsGreatestThere scene place (durable_at stamp) → IsFoundAt stamp end ⊎ ((have : ℕ) × (end ≡ gets.TooFew stamp have))
  pub found : (stamp : ℕ) → IsGreatestThere scene place (durable_at stamp) → AreHeldThere scene place stamp scene.cluster.policy.k → IsFoundAt stamp end
  pub too_few : (stamp have : ℕ) → end ≡ gets.TooFew stamp have → AreHeldThere scene place stamp scene.cluster.policy.k → ⊥
