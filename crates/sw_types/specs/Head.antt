-- Heads of objects: a content type, and pairs of a name and a value.
use Rattle.std.specs.Prelude.{◌≡◌, ◌<◌, ◌≤◌, ℕ, ◌+◌, ◌==◌, Bool, true, false, not, ◌&&◌, ◌||◌, if◌then◌else◌, nat_eq, nat_lt, nat_le, codes, List, [], ◌∷◌, ◌++◌, length, option_map, position, Option, Some, None}
use Rattle.std.specs.Char.{is_ascii_digit, is_ascii_lowercase}
use Rattle.std.specs.Cmp.Lexicographic.{pointwise}
use Rattle.std.specs.List.{list_all, list_any, sum_by}
use Rattle.std.specs.Option.{option_or}
use Rattle.sw_types.specs.declared.head.HeadFault.{HeadFault}
use Rattle.sw_types.specs.declared.head.HeadFault.TheVariants.{ContentType, TooManyPairs, PairName, PairValue, Overall, Twice}

-- the name of a pair, and its value
abbrev pub Pair : Type 0
Pair = List ℕ × List ℕ

-- what contracts see of a head
pub record HeadModel : Type 0 where
  pub content_type : List ℕ
  pub pairs : List Pair

-- the greatest numbers of bytes: of a content type and of a value, of a name, of all names and values; and of pairs
abbrev pub greatest_text : ℕ
greatest_text = 256

abbrev pub greatest_pair_name : ℕ
greatest_pair_name = 128

abbrev pub greatest_overall : ℕ
greatest_overall = 4096

abbrev pub greatest_pairs : ℕ
greatest_pairs = 90

-- no carriage return, line feed or NUL
abbrev pub is_plain : List ℕ → Bool
is_plain text = list_all (λ byte. not (byte == 13 || byte == 10 || byte == 0)) text

abbrev pub is_content_type : List ℕ → Bool
is_content_type text = nat_lt 0 (length text) && nat_le (length text) greatest_text && is_plain text

-- a digit, a lower-case letter, or one of the other characters of a token (RFC 9110, section 5.6.2)
abbrev pub is_name_byte : ℕ → Bool
is_name_byte byte = is_ascii_digit byte || is_ascii_lowercase byte || list_any (λ mark. mark == byte) (codes "!#$%&'*+-.^_`|~")

abbrev pub is_pair_name : List ℕ → Bool
is_pair_name name = nat_lt 0 (length name) && nat_le (length name) greatest_pair_name && list_all is_name_byte name

abbrev pub is_pair_value : List ℕ → Bool
is_pair_value value = nat_le (length value) greatest_text && is_plain value

-- how many bytes all names and values have
abbrev pub overall : List Pair → ℕ
overall pairs = sum_by (λ pair. length pair.0 + length pair.1) pairs

-- the first position, from this one on, whose name an earlier pair has
abbrev pub repeat_after : List Pair → ℕ → List Pair → Option ℕ
repeat_after earlier position [] = None
repeat_after earlier position (pair ∷ pairs) =
    if list_any (λ other. pointwise nat_eq other.0 pair.0) earlier then Some position
    else repeat_after (earlier ++ pair ∷ []) (position + 1) pairs

-- the first rule that the pairs break
unfoldable pub pairs_fault : List Pair → Option HeadFault
pairs_fault pairs =
    option_or (if nat_lt greatest_pairs (length pairs) then Some TooManyPairs else None)
    (option_or (option_map PairName (position (λ pair. not (is_pair_name pair.0)) pairs))
    (option_or (option_map PairValue (position (λ pair. not (is_pair_value pair.1)) pairs))
    (option_or (if nat_lt greatest_overall (overall pairs) then Some Overall else None) (option_map Twice (repeat_after [] 0 pairs)))))

-- the first rule that a content type and pairs break
abbrev pub head_fault : HeadModel → Option HeadFault
head_fault head = option_or (if is_content_type head.content_type then None else Some ContentType) (pairs_fault head.pairs)

-- a pair may stand behind these: there are not too many, it is in form, there is room for it, and its name is none of theirs
pub record FitsBehind (earlier : List Pair) (pair : Pair) : Type 0 where
  pub few : length earlier < greatest_pairs
  pub form : (is_pair_name pair.0 && is_pair_value pair.1) ≡ true
  pub small : overall earlier + (length pair.0 + length pair.1) ≤ greatest_overall
  pub new : list_any (λ other. pointwise nat_eq other.0 pair.0) earlier ≡ false
