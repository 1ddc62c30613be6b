-- What a target names: an account, a container and an object, behind `/v1`.
use Rattle.std.specs.Prelude.{ℕ, ◌==◌, Bool, true, false, not, ◌&&◌, ◌||◌, if◌then◌else◌, nat_eq, nat_lt, List, [], ◌∷◌, codes, length, take, drop, Option, Some, None}
use Rattle.std.specs.Char.{is_digit}
use Rattle.std.specs.List.{after_first, before_first, list_any, starts_with}
use Rattle.std.specs.Str.{is_utf8, str_eq_ignore_ascii_case}
use Rattle.percent_encoding.specs.Percent.{percent_decode}
use Rattle.sw_types.specs.Name.{NameModel, most_bytes}
use Rattle.sw_types.specs.declared.name.Part.{Part}
use Rattle.sw_types.specs.declared.name.Part.TheVariants.{Account, Container, Object}

-- ---- the path

abbrev pub is_slash : ℕ → Bool
is_slash byte = byte == 47

-- the target without a query
abbrev pub without_query : List ℕ → List ℕ
without_query target = before_first (λ byte. byte == 63) target

-- behind `http://` in any case stands an authority, which isn't empty
abbrev pub is_absolute : List ℕ → Bool
is_absolute text = str_eq_ignore_ascii_case (take 7 text) (codes "http://") && nat_lt 0 (length (before_first is_slash (drop 7 text)))

-- The path of a target (RFC 9112, section 3.2): of one in absolute form what begins at the first slash behind the authority, and any
-- other as it stands.
abbrev pub path_in : List ℕ → List ℕ
path_in target =
    let text = without_query target in
    if is_absolute text then drop (length (before_first is_slash (drop 7 text))) (drop 7 text) else text

-- ---- escapes

abbrev pub begins_with_digits : List ℕ → Bool
begins_with_digits (high ∷ low ∷ rest) = is_digit high 16 && is_digit low 16
begins_with_digits other = false

-- each percent sign is followed by two hexadecimal digits
abbrev pub has_whole_escapes : List ℕ → Bool
has_whole_escapes [] = true
has_whole_escapes (byte ∷ rest) = (not (byte == 37) || begins_with_digits rest) && has_whole_escapes rest

-- ---- the parts of a decoded path

-- The account and the container end at their slashes; the object is the rest. None is empty.
abbrev pub parts_in : List ℕ → Option NameModel
parts_in path =
    let behind = drop 4 path in
    let rest = after_first is_slash behind in
    let parts : NameModel = record { account = before_first is_slash behind; container = before_first is_slash rest; object = after_first is_slash rest } in
    if starts_with nat_eq path (codes "/v1/") && nat_lt 0 (length parts.account) && nat_lt 0 (length parts.container) && nat_lt 0 (length parts.object)
    then Some parts else None

-- a test of some part
abbrev pub some_part : (Part → List ℕ → Bool) → NameModel → Bool
some_part test parts = test Account parts.account || test Container parts.container || test Object parts.object

abbrev pub is_no_text : Part → List ℕ → Bool
is_no_text part text = not (is_utf8 text)

abbrev pub has_nul : Part → List ℕ → Bool
has_nul part text = list_any (λ byte. byte == 0) text

abbrev pub is_too_long : Part → List ℕ → Bool
is_too_long part text = nat_lt (most_bytes part) (length text)
