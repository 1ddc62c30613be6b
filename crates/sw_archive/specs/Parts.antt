-- The parts of an archive behind its header: the path of a name, and a head.
use Rattle.std.specs.Prelude.{◌≡◌, ℕ, ◌<◌, ◌^◌, List, ◌∷◌, ◌++◌, length, None}
use Rattle.std.specs.Int.{w16, to_be_bytes}
use Rattle.std.specs.List.{AllByRecursion, flat_map}
use Rattle.sw_types.specs.Head.{HeadModel, Pair, head_fault}
use Rattle.sw_types.specs.Name.{NameModel, name_fault, path_of}

-- the bytes are the path of the name, which breaks no rule
pub record IsPath (path : List ℕ) (name : NameModel) : Type 0 where
  pub rules : name_fault name ≡ None
  pub spelled : path ≡ path_of name

-- the length of the name in one byte, the name, the length of the value in two, the value
abbrev pub pair_bytes : Pair → List ℕ
pair_bytes pair = length pair.0 ∷ pair.0 ++ to_be_bytes w16 (length pair.1) ++ pair.1

-- the length of the content type in two bytes, the content type, the number of pairs in one, the pairs
abbrev pub head_bytes : HeadModel → List ℕ
head_bytes head = to_be_bytes w16 (length head.content_type) ++ head.content_type ++ length head.pairs ∷ flat_map pair_bytes head.pairs

-- the bytes are those of the head, which breaks no rule
pub record IsHead (bytes : List ℕ) (head : HeadModel) : Type 0 where
  pub rules : head_fault head ≡ None
  pub spelled : bytes ≡ head_bytes head

-- the length of each value fits two bytes
abbrev pub AreShort : List Pair → Type 0
AreShort pairs = AllByRecursion (λ pair. length pair.1 < 2 ^ 16) pairs
