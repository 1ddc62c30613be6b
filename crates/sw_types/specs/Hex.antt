-- Bytes as hex text: `-` for none, and else two digits a byte.
use Rattle.std.specs.Prelude.{ℕ, ◌==◌, if◌then◌else◌, List, [], ◌∷◌, Option, Some, None, Result, Ok, Err}
use Rattle.hex.specs.Hex.{decode_of, encode_lower}
use Rattle.hex.specs.declared.error.FromHexError.{FromHexError}

abbrev pub if_decoded : Result (List ℕ) FromHexError → Option (List ℕ)
if_decoded (Ok bytes) = Some bytes
if_decoded (Err fault) = None

-- what is spelled by a text of one byte, and by a longer one
abbrev pub spelled_by : ℕ → List ℕ → Option (List ℕ)
spelled_by first [] = if first == 45 then Some [] else None
spelled_by first (second ∷ rest) = if_decoded (decode_of (first ∷ second ∷ rest))

-- the bytes that a text spells, its digits in either case
abbrev pub bytes_of_hex : List ℕ → Option (List ℕ)
bytes_of_hex [] = None
bytes_of_hex (first ∷ rest) = spelled_by first rest

-- the text of some bytes, in lower case
abbrev pub hex_text : List ℕ → List ℕ
hex_text [] = 45 ∷ []
hex_text (byte ∷ bytes) = encode_lower (byte ∷ bytes)
