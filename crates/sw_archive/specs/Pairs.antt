-- The pairs that bytes spell.
use Rattle.std.specs.Prelude.{◌≡◌, true, ℕ, zero, suc, ◌+◌, List, [], ◌∷◌, ◌++◌, length, take, drop, slice_index, None}
use Rattle.std.specs.Int.{w16, from_be_bytes}
use Rattle.std.specs.List.{flat_map}
use Rattle.sw_types.specs.Head.{Pair, greatest_overall, is_content_type, overall, pairs_fault}
use Rattle.sw_archive.specs.Parts.{AreShort, pair_bytes}

-- what stands behind the name of the first pair
abbrev pub behind_name : List ℕ → List ℕ
behind_name bytes = drop (slice_index bytes 0) (drop 1 bytes)

-- how long the value of the first pair is
abbrev pub value_length : List ℕ → ℕ
value_length bytes = from_be_bytes w16 (take 2 (behind_name bytes))

-- the first pair, and what stands behind it
unfoldable pub first_pair : List ℕ → Pair
first_pair bytes = (take (slice_index bytes 0) (drop 1 bytes), take (value_length bytes) (drop 2 (behind_name bytes)))

unfoldable pub behind_pair : List ℕ → List ℕ
behind_pair bytes = drop (value_length bytes) (drop 2 (behind_name bytes))

-- so many pairs, from the first on
unfoldable pub pairs_in : ℕ → List ℕ → List Pair
pairs_in zero bytes = []
pairs_in (suc count) bytes = first_pair bytes ∷ pairs_in count (behind_pair bytes)

-- these pairs stand at the front of the bytes, before the rest
pub record AreAtFront (bytes : List ℕ) (pairs : List Pair) (rest : List ℕ) : Type 0 where
  pub split : bytes ≡ flat_map pair_bytes pairs ++ rest
  pub short : AreShort pairs

-- so many pairs without a fault do, and leave so much room for others
pub record AreFaultless (bytes : List ℕ) (count room : ℕ) (pairs : List Pair) (rest : List ℕ) : Type 0 where
  pub split : bytes ≡ flat_map pair_bytes pairs ++ rest
  pub counted : length pairs ≡ count
  pub left : overall pairs + room ≡ greatest_overall
  pub rules : pairs_fault pairs ≡ None

-- the bytes are these pairs, so many, without a fault
pub record ArePairs (bytes : List ℕ) (count : ℕ) (pairs : List Pair) : Type 0 where
  pub spelled : bytes ≡ flat_map pair_bytes pairs
  pub counted : length pairs ≡ count
  pub rules : pairs_fault pairs ≡ None

-- a text is a content type, and the bytes are so many pairs that may stand in a head
pub record IsHeadText (content_type : List ℕ) (count : ℕ) (bytes : List ℕ) : Type 0 where
  pub content : is_content_type content_type ≡ true
  pub pairs : ArePairs bytes count (pairs_in count bytes)
