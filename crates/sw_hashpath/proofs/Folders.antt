-- The folder of a place is that of no other.
use Rattle.std.proofs.Common.{◌≡◌, ℕ, ◌-◌, List, drop, length, Ok, sym, ap, ◌∙◌, refl}
use Rattle.hex.specs.Hex.{decode_of, encode_lower}
use Rattle.hex.proofs.HexLemmas.{decode_of-encode_lower}
use Rattle.sw_hashpath.specs.Place.{IsPlace, PlaceModel, folder_of}
use Rattle.sw_hashpath.proofs.Hashes.{digits_at_end as text_end, folder_end, place_of-hash}

-- its name ends with the digits of the hash
digits_at_end : (power : ℕ) (place : PlaceModel) → IsPlace power place → drop (length (folder_of place) - 32) (folder_of place) ≡ encode_lower place.hash
digits_at_end power place is_place = let end = folder_end place in text_end (folder_of place) end.0 place.hash is_place.hash.sixteen end.1

-- the places of one folder are the same
pub one_place : (power : ℕ) (place other : PlaceModel) → IsPlace power place → IsPlace power other → folder_of place ≡ folder_of other → place ≡ other
one_place power place other is_place is_other same =
    let digits : encode_lower place.hash ≡ encode_lower other.hash =
    sym (digits_at_end power place is_place) ∙ ap (λ (text : List ℕ). drop (length text - 32) text) same ∙ digits_at_end power other is_other in
    let read : Ok place.hash ≡ Ok other.hash =
    sym (decode_of-encode_lower place.hash is_place.hash.bytes) ∙ ap decode_of digits ∙ decode_of-encode_lower other.hash is_other.hash.bytes in
    let hash : place.hash ≡ other.hash = cc in
    sym (place_of-hash power place other.hash is_place (sym hash)) ∙ place_of-hash power other other.hash is_other refl
