-- Fields of a head, by their names, which have no case (RFC 9110, section 5.1).
use Rattle.std.specs.Prelude.{◌≡◌, ◌≢◌, ◌⊎◌, ◌==◌, ◌&&◌, ℕ, Bool, true, List, [], ◌∷◌, ◌++◌, codes, if◌then◌else◌, Contains, Option, Some, None}
use Rattle.std.specs.List.{All, filter_map, last_or, list_any, slice_split}
use Rattle.std.specs.Str.{str_eq_ignore_ascii_case}
use Rattle.sw_httpread.specs.Request.{RequestHeadModel}

-- the name of a field, and its value
abbrev pub Field : Type 0
Field = List ℕ × List ℕ

-- the value of a field, if it has this name
abbrev pub value_under : List ℕ → Field → Option (List ℕ)
value_under name field = if str_eq_ignore_ascii_case field.0 name then Some field.1 else None

-- the values of all fields of a name, in order
abbrev pub values_of : List ℕ → List Field → List (List ℕ)
values_of name fields = filter_map (value_under name) fields

-- the last of them
abbrev pub last_value : List ℕ → List Field → Option (List ℕ)
last_value name fields = last_or None (values_of name fields)

-- HTTP/1.1; what isn't is HTTP/1.0
abbrev pub is_current : RequestHeadModel → Bool
is_current head = head.minor == 1

-- ---- asking to close the connection

-- a space or a tab (RFC 9110, section 5.6.3)
abbrev pub IsSpace : ℕ → Type 0
IsSpace byte = (byte ≡ 32) ⊎ (byte ≡ 9)

-- a part of a list that is this token, in any case, with white space around it
pub record IsToken (token part : List ℕ) : Type 0 where
  pub before : List ℕ
  pub word : List ℕ
  pub after : List ℕ
  pub spelled : part ≡ before ++ word ++ after
  pub spaces_before : All IsSpace before
  pub spaces_after : All IsSpace after
  pub same : str_eq_ignore_ascii_case word token ≡ true

-- a field of this name lists this token (RFC 9110, section 5.6.1)
abbrev pub Lists : List ℕ → List ℕ → List Field → Type 0
Lists name token fields =
    (value : List ℕ) × (part : List ℕ) × Contains (values_of name fields) value × Contains (slice_split (λ byte. byte == 44) value) part × IsToken token part

-- the connection ends behind the request (RFC 9112, section 9.6)
abbrev pub AsksToClose : RequestHeadModel → Type 0
AsksToClose head = (head.minor ≢ 1) ⊎ Lists (codes "connection") (codes "close") head.fields
