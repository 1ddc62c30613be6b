-- What decodes the fragments of k indices.
use Rattle.std.specs.Prelude.{◌≡◌, ℕ, ◌*◌, List, length}
use Rattle.sw_words.specs.Bytes.{IsBytes}
use Rattle.sw_cauchy.specs.Linear.{IsInverse}
use Rattle.sw_cauchy.specs.Rows.{generator_rows}

-- a matrix of k rows and columns, the inverse of the generator matrix's rows of k indices
pub record Decodes (k : ℕ) (matrix indices : List ℕ) : Type 0 where
  pub count : length indices ≡ k
  pub square : length matrix ≡ k * k
  pub bytes : IsBytes matrix
  pub inverse : IsInverse k matrix (generator_rows k indices)
