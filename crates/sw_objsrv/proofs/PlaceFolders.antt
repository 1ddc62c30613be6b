-- Places of a cluster, and the names of their folders.
use Rattle.std.proofs.Common.{◌≡◌, ℕ, ◌^◌, ◌<◌, ◌≤◌, List, ◌∷◌, ◌++◌, length, drop, codes, sym, subst, arith, length-append, length-drop}
use Rattle.std.specs.Fmt.{decimal}
use Rattle.std.proofs.Math.Nat.{pow-le-pow_right}
use Rattle.std.proofs.lemmas.Fmt.{length-decimal-le}
use Rattle.hex.specs.Hex.{encode_lower}
use Rattle.sw_hashpath.specs.Place.{IsPlace, PlaceModel, folder_of}
use Rattle.sw_hashpath.proofs.Hashes.{length-encode_lower}
use Rattle.sw_hashpath.proofs.Laws.{part_below}

-- the partition of a place is one of those that there are
pub part_within : (power : ℕ) (place : PlaceModel) → IsPlace power place → place.part < 2 ^ power
part_within power place is_place = subst (λ part. part < 2 ^ power) (sym is_place.part) (part_below place.hash power is_place.hash)

-- ---- the names of folders

digits_length : (power : ℕ) (place : PlaceModel) → IsPlace power place → length (encode_lower place.hash) ≡ 32
digits_length power place is_place = omega (arith, length-encode_lower place.hash, is_place.hash.sixteen)

-- a folder has a short name
pub folder_short : (power : ℕ) (place : PlaceModel) → IsPlace power place → power ≤ 16 → length (folder_of place) ≤ 64
folder_short power place is_place few =
    let most : 2 ^ power ≤ 2 ^ 16 = pow-le-pow_right {n = 2} (omega arith) {i = power} {j = 16} few in
    let below : place.part < 65536 = omega (arith, part_within power place is_place, most) in
    let five : length (decimal place.part) ≤ 5 = length-decimal-le 5 place.part (omega arith) (omega arith) (omega arith) in
    short (codes "objects/") (decimal place.part) (encode_lower place.hash) (omega arith) five (digits_length power place is_place)
  where
    short : (word part digits : List ℕ) → length word ≡ 8 → length part ≤ 5 → length digits ≡ 32 → length (word ++ part ++ 47 ∷ drop 29 digits ++ 47 ∷ digits) ≤ 64
    short word part digits eight five all = omega (arith, length-append {A = ℕ}, length-drop 29 digits)
