-- The generator matrix: unit rows, and below them a Cauchy matrix, as ISA-L's `gf_gen_cauchy1_matrix` makes it.
use Rattle.std.specs.Prelude.{ℕ, zero, suc, ◌==◌, if◌then◌else◌, nat_lt, bit_xor}
use Rattle.sw_gf256.specs.Field.{product, inverse}

-- the entry in row i and column j, of k columns
abbrev pub entry : ℕ → ℕ → ℕ → ℕ
entry k i j = if nat_lt i k then (if i == j then 1 else 0) else inverse (bit_xor i j)

-- the sum of a row's products with a column, over as many of their positions
unfoldable pub row_sum : ℕ → (ℕ → ℕ) → (ℕ → ℕ) → ℕ
row_sum zero row column = 0
row_sum (suc count) row column = bit_xor (row_sum count row column) (product (row count) (column count))
