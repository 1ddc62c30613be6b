-- Square matrices over the field, kept as lists, row after row.
use Rattle.std.specs.Prelude.{◌≡◌, ℕ, ◌+◌, ◌*◌, ◌<◌, ◌==◌, if◌then◌else◌, List, length, slice_index}
use Rattle.sw_words.specs.Bytes.{IsBytes}
use Rattle.sw_cauchy.specs.Matrix.{row_sum}

-- the entry in row i and column j of a matrix of k columns
abbrev pub matrix_entry : ℕ → List ℕ → ℕ → ℕ → ℕ
matrix_entry k matrix i j = slice_index matrix (i * k + j)

-- the first matrix times the second has ones on its diagonal and zeros elsewhere
abbrev pub IsInverse : ℕ → List ℕ → List ℕ → Type 0
IsInverse k inverse matrix = (i j : ℕ) → i < k → j < k →
    row_sum k (matrix_entry k inverse i) (λ t. matrix_entry k matrix t j) ≡ (if i == j then 1 else 0)

-- only the column of zeros gives zero in each row
abbrev pub AreIndependent : ℕ → List ℕ → Type 0
AreIndependent k matrix = (column : List ℕ) → IsBytes column → length column ≡ k →
    ((i : ℕ) → i < k → row_sum k (matrix_entry k matrix i) (slice_index column) ≡ 0) →
    (j : ℕ) → slice_index column j ≡ 0
