-- The greatest of floors that stand in two lists, or before one more.
use Rattle.std.specs.Prelude.{◌≡◌, List, [], ◌∷◌, ◌++◌, Option, Some, None}
use mathlib.Core.Path.{refl}
use Rattle.sw_hashdir.specs.declared.floor.Floor.{Floor}
use Rattle.sw_message.specs.Floors.{higher, highest, highest_from}

pub highest_from-append : (best : Option Floor) (floors others : List Floor) → highest_from best (floors ++ others) ≡ highest_from (highest_from best floors) others
highest_from-append best [] others = refl
highest_from-append best (floor ∷ floors) others = highest_from-append (Some (higher best floor)) floors others

pub highest-snoc : (floors : List Floor) (floor : Floor) → highest (floors ++ floor ∷ []) ≡ Some (higher (highest floors) floor)
highest-snoc floors floor = highest_from-append None floors (floor ∷ [])
