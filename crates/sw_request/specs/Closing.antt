-- Tokens in lists, as they are looked for.
use Rattle.std.specs.Prelude.{ℕ, ◌==◌, ◌&&◌, ◌||◌, Bool, List, [], ◌∷◌, drop, if◌then◌else◌, length, take}
use Rattle.std.specs.List.{list_all, list_any, slice_split}
use Rattle.std.specs.Str.{str_eq_ignore_ascii_case}

-- a space or a tab
abbrev pub is_space : ℕ → Bool
is_space byte = byte == 32 || byte == 9

-- what stands behind the white space at the front
abbrev pub trimmed : List ℕ → List ℕ
trimmed [] = []
trimmed (byte ∷ rest) = if is_space byte then trimmed rest else byte ∷ rest

-- a part of a list that is this token, with white space around it
abbrev pub is_token : List ℕ → List ℕ → Bool
is_token token part = str_eq_ignore_ascii_case (take (length token) (trimmed part)) token && list_all is_space (drop (length token) (trimmed part))

-- a list whose parts are separated by commas, with this token
abbrev pub has_token : List ℕ → List ℕ → Bool
has_token token value = list_any (is_token token) (slice_split (λ byte. byte == 44) value)
