-- Rows of coefficients, and rows times pieces of one width, which stand one after another.
use Rattle.std.specs.Prelude.{ℕ, ◌+◌, ◌*◌, List, map, slice_index}
use Rattle.std.specs.List.{range_with_len, flat_map}
use Rattle.sw_cauchy.specs.Matrix.{entry, row_sum}
use Rattle.sw_cauchy.specs.Linear.{matrix_entry}

-- row i of the generator matrix
unfoldable pub generator_row : ℕ → ℕ → List ℕ
generator_row k i = map (entry k i) (range_with_len 0 k)

-- the rows of these indices, one after another
abbrev pub generator_rows : ℕ → List ℕ → List ℕ
generator_rows k indices = flat_map (generator_row k) indices

-- the sum of the products of the row's first entries with as many pieces, byte by byte
unfoldable pub row_times : ℕ → ℕ → (ℕ → ℕ) → List ℕ → List ℕ
row_times count width row pieces =
    map (λ position. row_sum count row (λ j. slice_index pieces (j * width + position))) (range_with_len 0 width)

-- the first rows of a matrix of k columns, each times k pieces, one after another
abbrev pub rows_times : ℕ → ℕ → List ℕ → List ℕ → ℕ → List ℕ
rows_times k width matrix pieces count =
    flat_map (λ i. row_times k width (matrix_entry k matrix i) pieces) (range_with_len 0 count)
