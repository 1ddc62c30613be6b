-- Lines, and what is made of them: a head, a chunk line, a trailer section, as far as their ends tell.
use Rattle.std.specs.Prelude.{◌≡◌, ◌⊎◌, ℕ, ◌<◌, ◌==◌, false, List, [], ◌∷◌, ◌++◌, length}
use Rattle.std.specs.List.{flat_map, list_any, AllByRecursion}

-- lines, each with its line feed
abbrev pub joined : List (List ℕ) → List ℕ
joined lines = flat_map (λ line. line ++ 10 ∷ []) lines

-- a line without its line feed
abbrev pub IsLine : List ℕ → Type 0
IsLine line = list_any (λ byte. byte == 10) line ≡ false

-- nothing, or a carriage return alone
abbrev pub IsEmptyLine : List ℕ → Type 0
IsEmptyLine line = (line ≡ []) ⊎ (line ≡ 13 ∷ [])

abbrev pub IsFullLine : List ℕ → Type 0
IsFullLine line = IsLine line × (¬ IsEmptyLine line)

-- the bytes reach to their first line feed
abbrev pub IsWholeLine : List ℕ → Type 0
IsWholeLine bytes = (line : List ℕ) × IsLine line × (bytes ≡ line ++ 10 ∷ [])

-- the bytes reach to the end of their first empty line
pub record IsWholeSection (bytes : List ℕ) : Type 0 where
  pub lines : List (List ℕ)
  pub last : List ℕ
  pub each_line : AllByRecursion IsFullLine lines
  pub last_empty : IsEmptyLine last
  pub spelled : bytes ≡ joined (lines ++ last ∷ [])

-- the bytes reach to the end of the first empty line behind a line that isn't empty
pub record IsWholeHead (bytes : List ℕ) : Type 0 where
  pub blanks : List (List ℕ)
  pub lines : List (List ℕ)
  pub last : List ℕ
  pub each_blank : AllByRecursion IsEmptyLine blanks
  pub each_line : AllByRecursion IsFullLine lines
  pub some : 0 < length lines
  pub last_empty : IsEmptyLine last
  pub spelled : bytes ≡ joined (blanks ++ (lines ++ last ∷ []))
