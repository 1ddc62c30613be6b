-- A segment and its fragments. The segment, padded with zeros, is cut into k pieces of one width, which stand one after
-- another; fragment i is, byte by byte, row i of the generator matrix times the pieces.
use Rattle.std.specs.Prelude.{ℕ, ◌+◌, ◌-◌, ◌*◌, ◌/◌, List, ◌++◌, length, map, replicate, slice_index}
use Rattle.std.specs.List.{range_with_len}
use Rattle.sw_cauchy.specs.Matrix.{entry, row_sum}

-- a k-th of so many bytes, rounded up
abbrev pub fragment_width : ℕ → ℕ → ℕ
fragment_width k bytes = (bytes + (k - 1)) / k

-- the pieces of a segment
abbrev pub padded : ℕ → List ℕ → List ℕ
padded k segment = segment ++ replicate (k * fragment_width k (length segment) - length segment) 0

-- the byte at a position of fragment i
abbrev pub fragment_byte : ℕ → ℕ → List ℕ → ℕ → ℕ → ℕ
fragment_byte k width pieces i position = row_sum k (entry k i) (λ j. slice_index pieces (j * width + position))

-- fragment i of k pieces
unfoldable pub fragment : ℕ → ℕ → List ℕ → ℕ → List ℕ
fragment k width pieces i = map (fragment_byte k width pieces i) (range_with_len 0 width)

-- fragment i of a segment
abbrev pub segment_fragment : ℕ → List ℕ → ℕ → List ℕ
segment_fragment k segment i = fragment k (fragment_width k (length segment)) (padded k segment) i

-- the first n fragments of a segment
abbrev pub segment_fragments : ℕ → ℕ → List ℕ → List (List ℕ)
segment_fragments k n segment = map (segment_fragment k segment) (range_with_len 0 n)
