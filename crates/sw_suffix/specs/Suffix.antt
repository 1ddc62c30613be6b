-- The hash of a suffix folder: the MD5 of a text with a line for each hash folder in it that has a floor.
use Rattle.std.specs.Prelude.{ℕ, ◌+◌, ◌*◌, ◌%◌, codes, get_or, List, [], ◌∷◌, ◌++◌}
use Rattle.hex.specs.Hex.{encode_lower}
use Rattle.sw_types.specs.Stamp.{stamp_text}
use Rattle.sw_hashpath.specs.Place.{PlaceModel}
use Rattle.sw_hashdir.specs.declared.floor.Floor.{Floor}
use Rattle.sw_hashdir.specs.declared.floor.FloorKind.{FloorKind}
use Rattle.sw_hashdir.specs.declared.floor.FloorKind.TheVariants as kind

-- the last three hexadecimal digits of a hash, as a number
abbrev pub suffix_number : List ℕ → ℕ
suffix_number hash = (get_or hash 14 0 % 16) * 256 + get_or hash 15 0

abbrev pub kind_text : FloorKind → List ℕ
kind_text kind.Durable = codes ".data"
kind_text kind.Tombstone = codes ".ts"

-- the line of a hash folder with this floor
abbrev pub floor_line : PlaceModel → Floor → List ℕ
floor_line place floor = encode_lower place.hash ++ 32 ∷ stamp_text floor.stamp ++ kind_text floor.kind ++ 10 ∷ []

-- the lines of floors, each at its place, in their order
abbrev pub suffix_text : List (PlaceModel × Floor) → List ℕ
suffix_text [] = []
suffix_text (floor ∷ floors) = floor_line floor.0 floor.1 ++ suffix_text floors
