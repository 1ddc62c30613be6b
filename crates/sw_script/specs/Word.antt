-- What a word of a script's line spells.
use Rattle.std.specs.Prelude.{ℕ, ◌+◌, ◌*◌, ◌^◌, ◌==◌, Bool, true, false, not, ◌&&◌, if◌then◌else◌, nat_eq, nat_lt, is_none, codes, List, [], ◌∷◌, take, drop, Option, Some, None}
use Rattle.std.specs.Char.{is_digit}
use Rattle.std.specs.Cmp.Lexicographic.{pointwise}
use Rattle.std.specs.Fmt.{decimal}
use Rattle.std.specs.List.{before_first, after_first}
use Rattle.std.specs.Option.{option_map}
use Rattle.std.specs.Str.Parse.{digits_value}
use Rattle.percent_encoding.specs.Percent.{percent_decode}
use Rattle.sw_types.specs.Head.{HeadModel}
use Rattle.sw_types.specs.Hex.{bytes_of_hex}
use Rattle.sw_types.specs.Name.{NameModel, name_fault}
use Rattle.sw_types.specs.Object.{ObjectModel, object_of}
use Rattle.sw_types.specs.Stamp.{greatest_stamp, stamp_text}

abbrev pub is_word : List ℕ → List ℕ → Bool
is_word word other = pointwise nat_eq word other

-- the number below 2^64 whose decimal the word is: digits with no sign and no leading zero
abbrev pub number_of : List ℕ → Option ℕ
number_of word = if nat_lt (digits_value 10 word) (2 ^ 64) && is_word word (decimal (digits_value 10 word)) then Some (digits_value 10 word) else None

-- the units of 10 microseconds that ten digits of seconds and five behind a byte would tell
abbrev pub units_in : List ℕ → ℕ
units_in word = digits_value 10 (take 10 word) * 100000 + digits_value 10 (drop 11 word)

-- the stamp whose text the word is
abbrev pub stamp_of : List ℕ → Option ℕ
stamp_of word = if not (nat_lt greatest_stamp (units_in word)) && is_word word (stamp_text (units_in word)) then Some (units_in word) else None

abbrev pub begins_with_digits : List ℕ → Bool
begins_with_digits (high ∷ low ∷ rest) = is_digit high 16 && is_digit low 16
begins_with_digits other = false

-- each percent sign is followed by two hexadecimal digits
abbrev pub has_whole_escapes : List ℕ → Bool
has_whole_escapes [] = true
has_whole_escapes (byte ∷ []) = not (byte == 37)
has_whole_escapes (byte ∷ high ∷ []) = not (byte == 37) && not (high == 37)
has_whole_escapes (byte ∷ high ∷ low ∷ rest) = if byte == 37 then is_digit high 16 && is_digit low 16 && has_whole_escapes rest else has_whole_escapes (high ∷ low ∷ rest)

-- The first slash ends the account and the second the container; the object is the rest.
abbrev pub parts_of : List ℕ → NameModel
parts_of text =
    let rest = after_first (λ byte. byte == 47) text in
    record {
      account = before_first (λ byte. byte == 47) text;
      container = before_first (λ byte. byte == 47) rest;
      object = after_first (λ byte. byte == 47) rest;
    }

abbrev pub sound_name : NameModel → Option NameModel
sound_name name = if is_none (name_fault name) then Some name else None

-- the greatest number of bytes of a name, with its slashes
abbrev pub greatest_name : ℕ
greatest_name = 1538

-- the name that a word spells: its escapes are replaced by their bytes, and then it is cut at its slashes
abbrev pub name_of : List ℕ → Option NameModel
name_of word = if has_whole_escapes word then sound_name (parts_of (percent_decode word)) else None

-- the head of each object that a script puts
abbrev pub script_head : HeadModel
script_head = record { content_type = codes "application/octet-stream"; pairs = [] }

-- the object whose body a word spells in hex
abbrev pub object_in : List ℕ → Option ObjectModel
object_in word = option_map (object_of script_head) (bytes_of_hex word)
