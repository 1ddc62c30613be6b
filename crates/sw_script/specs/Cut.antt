-- A list of bytes that is cut at the first of a kind.
use Rattle.std.specs.Prelude.{◌≡◌, ℕ, Bool, List, [], ◌∷◌, Option, Some, None}
use Rattle.std.specs.List.{slice_split, before_first, after_first}

-- the parts round each byte of the kind, in what may be left after a cut
abbrev pub parts_left : (ℕ → Bool) → Option (List ℕ) → List (List ℕ)
parts_left is_end None = []
parts_left is_end (Some rest) = slice_split is_end rest

-- what stands after a cut, or nothing
abbrev pub or_nothing : Option (List ℕ) → List ℕ
or_nothing None = []
or_nothing (Some rest) = rest

-- a text before and after the first byte of the kind, where there is one
pub record IsCut (is_end : ℕ → Bool) (text before : List ℕ) (after : Option (List ℕ)) : Type 0 where
  pub front : before ≡ before_first is_end text
  pub back : or_nothing after ≡ after_first is_end text
  pub parts : slice_split is_end text ≡ before ∷ parts_left is_end after
