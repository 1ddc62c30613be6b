-- Hashes, and the digits that they are printed as.
use Rattle.std.proofs.Common.{◌≡◌, ℕ, ◌-◌, ◌*◌, ◌<◌, nat_lt, true, slice_index, List, [], ◌∷◌, ◌++◌, length, take, drop, Option, Some, Result, Ok, Err, codes, refl, sym, ap, ◌∙◌, arith, append_assoc, length-append}
use Rattle.std.specs.Prelude.{MatchResult, ◌↔◌}
use Rattle.std.specs.Fmt.{decimal}
use Rattle.std.proofs.lemmas.List.{append_cancel_left, append_cancel_right, drop_at, length-drop, take_all}
use Rattle.std.proofs.lemmas.Bool.{ltb-true}
use Rattle.std.proofs.lemmas.List.Elements.{All-weaker}
use Rattle.std.proofs.lemmas.List.Sums.{AllPass-from_list_all}
use Rattle.std.proofs.lemmas.Str.Ascii.{IsAscii-from_all}
use Rattle.std.specs.Str.{IsAscii}
use Rattle.hex.specs.Hex.{decode_sized, encode_lower, lower_digits}
use Rattle.hex.specs.declared.error.FromHexError.{FromHexError}
use Rattle.hex.proofs.HexLemmas.{IsAscii-encode_with, decode_of-encode_lower, decode_sized-twice, length-encode_with}
use Rattle.sw_hashpath.specs.Place.{IsHash, IsPlace, PlaceModel, folder_of, place_of, suffix_of}

-- two digits a byte
pub length-encode_lower : (hash : List ℕ) → length (encode_lower hash) ≡ 2 * length hash
length-encode_lower hash = length-encode_with lower_digits hash

-- a text that ends with the digits of a hash
pub digits_at_end : (text front hash : List ℕ) → length hash ≡ 16 → text ≡ front ++ encode_lower hash → drop (length text - 32) text ≡ encode_lower hash
digits_at_end text front hash sixteen ends =
    let size = length-encode_lower hash in
    let behind : length front ≡ length text - 32 = omega (arith, ap length ends, length-append front (encode_lower hash)) in
    ap (λ bytes. drop (length text - 32) bytes) ends ∙ drop_at front (encode_lower hash) (length text - 32) behind

-- what is read from the last 32 bytes of such a text is the hash
pub hash_from_end : (text front hash digits out : List ℕ) (result : Result (Unit {0}) FromHexError) → IsHash hash → text ≡ front ++ encode_lower hash → digits ≡ drop (length text - 32) text → MatchResult (decode_sized digits 16) (λ bytes. (result ≡ Ok tt) × (out ≡ bytes)) (λ fault. result ≡ Err fault) → (result ≡ Ok tt) × (out ≡ hash)
hash_from_end text front hash digits out result is_hash ends last read =
    let twice : length (encode_lower hash) ≡ 2 * 16 = omega (arith, length-encode_lower hash, is_hash.sixteen) in
    let decoded : decode_sized digits 16 ≡ Ok hash =
    ap (λ text. decode_sized text 16) (last ∙ digits_at_end text front hash is_hash.sixteen ends) ∙ decode_sized-twice (encode_lower hash) 16 twice ∙ decode_of-encode_lower hash is_hash.bytes in
    rw decoded at read

-- a folder ends with the digits of its hash
pub folder_end : (place : PlaceModel) → (front : List ℕ) × (folder_of place ≡ front ++ encode_lower place.hash)
folder_end place =
    let front = codes "objects/" ++ decimal place.part ++ 47 ∷ suffix_of place.hash in
    (front ++ 47 ∷ [], sym (append_assoc front (47 ∷ []) (encode_lower place.hash)))

-- what reads the hash at the end of a text reads that of a folder
pub folder_hash : (power : ℕ) (place : PlaceModel) (text : List ℕ) (read : Option (List ℕ)) → IsPlace power place → text ≡ folder_of place → ((front hash : List ℕ) → IsHash hash → text ≡ front ++ encode_lower hash → read ≡ Some hash) → read ≡ Some place.hash
folder_hash power place text read is_place printed reads =
    let end = folder_end place in
    reads end.0 place.hash is_place.hash (printed ∙ end.1)

-- a place is that of its hash
pub place_of-hash : (power : ℕ) (place : PlaceModel) (hash : List ℕ) → IsPlace power place → hash ≡ place.hash → place_of hash power ≡ place
place_of-hash power place hash is_place same =
    ap (λ hash. place_of hash power) same ∙ ap (λ part. record { part = part; hash = place.hash }) (sym is_place.part)

-- the digits are bytes of ASCII
IsAscii-lower_digits : IsAscii lower_digits
IsAscii-lower_digits =
    IsAscii-from_all lower_digits (All-weaker (λ digit. nat_lt digit 128 ≡ true) (λ digit. digit < 128) (λ digit. ltb-true digit 128) lower_digits (AllPass-from_list_all (λ digit. nat_lt digit 128) lower_digits refl))

-- and so is each digit of a hash
pub digits_ascii : (hash : List ℕ) (position : ℕ) → slice_index (encode_lower hash) position < 128
digits_ascii hash position = IsAscii-encode_with lower_digits hash IsAscii-lower_digits position

-- what shows that the text of a hash may be cut before each digit
pub ruleset digit_bytes = (digits_ascii, length-encode_lower)

-- the last three digits, as they are cut off
pub suffix_of-digits : (hash digits : List ℕ) → length digits ≡ 32 → digits ≡ encode_lower hash → take 3 (drop 29 digits) ≡ suffix_of hash
suffix_of-digits hash digits whole same =
    take_all 3 (drop 29 digits) (omega (arith, length-drop 29 digits)) ∙ ap (λ text. drop 29 text) same

-- a folder without its last part
pub folder_front : (text rest front part suffix digits : List ℕ) → text ≡ codes "objects/" ++ rest → rest ≡ front ++ 47 ∷ digits → text ≡ codes "objects/" ++ part ++ 47 ∷ suffix ++ 47 ∷ digits → front ≡ part ++ 47 ∷ suffix
folder_front text rest front part suffix digits after before whole =
    append_cancel_right front (part ++ 47 ∷ suffix) (47 ∷ digits) (sym before ∙ append_cancel_left (codes "objects/") rest (part ++ 47 ∷ suffix ++ 47 ∷ digits) (sym after ∙ whole))

-- a text in three parts is a folder where its first part is that of the folder
pub folder_by_parts : (text rest front part first suffix digits : List ℕ) → text ≡ codes "objects/" ++ rest → rest ≡ front ++ 47 ∷ digits → front ≡ first ++ 47 ∷ suffix → (text ≡ codes "objects/" ++ part ++ 47 ∷ suffix ++ 47 ∷ digits) ↔ (first ≡ part)
folder_by_parts text rest front part first suffix digits after before cut = (
  λ whole. append_cancel_right first part (47 ∷ suffix) (sym cut ∙ folder_front text rest front part suffix digits after before whole),
  λ same. after ∙ ap (λ rest. codes "objects/" ++ rest) (before ∙ ap (λ front. front ++ 47 ∷ digits) (cut ∙ ap (λ first. first ++ 47 ∷ suffix) same)),
)
