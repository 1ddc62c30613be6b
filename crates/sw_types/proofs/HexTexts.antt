-- Texts in hex, and the bytes that they spell.
use Rattle.std.proofs.Common.{◌≡◌, ℕ, ◌*◌, ◌≤◌, ◌==◌, Bool, true, false, cond, List, [], ◌∷◌, length, Option, Some, None, Result, Ok, Err, refl, ap, arith}
use Rattle.hex.specs.Hex.{IsBytes, decode_of, encode_with}
use Rattle.hex.specs.declared.error.FromHexError.{FromHexError}
use Rattle.hex.proofs.HexLemmas.{decode_of-encode_lower, decode_of-ok}
use Rattle.sw_types.specs.Hex.{bytes_of_hex, hex_text, if_decoded}

-- the text of some bytes spells them
pub bytes_of_hex-hex_text : (bytes : List ℕ) → IsBytes bytes → bytes_of_hex (hex_text bytes) ≡ Some bytes
unfolding encode_with
bytes_of_hex-hex_text [] small = refl
bytes_of_hex-hex_text (byte ∷ bytes) small = ap if_decoded (decode_of-encode_lower (byte ∷ bytes) small)

spelled_by_one : (dash : Bool) (bytes : List ℕ) → cond {A = Option (List ℕ)} dash (Some []) None ≡ Some bytes → 2 * length bytes ≤ 1
spelled_by_one true bytes h = let none : [] ≡ bytes = cc in omega (arith, ap length none)
spelled_by_one false bytes h = absurd (cc)

decoded : (text bytes : List ℕ) (read : Result (List ℕ) FromHexError) → decode_of text ≡ read → if_decoded read ≡ Some bytes → 2 * length bytes ≤ length text
decoded text bytes (Ok found) is h = let same : found ≡ bytes = cc in omega (arith, (decode_of-ok text found is).2, ap length same)
decoded text bytes (Err fault) is h = absurd (cc)

-- two digits a byte
pub bytes_of_hex-short : (text bytes : List ℕ) → bytes_of_hex text ≡ Some bytes → 2 * length bytes ≤ length text
bytes_of_hex-short [] bytes h = absurd (cc)
bytes_of_hex-short (first ∷ []) bytes h = spelled_by_one (first == 45) bytes h
bytes_of_hex-short (first ∷ second ∷ rest) bytes h = decoded (first ∷ second ∷ rest) bytes (decode_of (first ∷ second ∷ rest)) refl h
