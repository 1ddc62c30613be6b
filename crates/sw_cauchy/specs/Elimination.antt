-- Elimination on a square matrix. What is done to its rows is done to those of a companion beside it.
use Rattle.std.specs.Prelude.{◌≡◌, ◌≢◌, ℕ, ◌<◌, ◌==◌, if◌then◌else◌, List, bit_xor}
use Rattle.sw_words.specs.Bytes.{IsBytes}
use Rattle.sw_gf256.specs.Field.{product}
use Rattle.sw_cauchy.specs.Matrix.{row_sum}
use Rattle.sw_cauchy.specs.Linear.{matrix_entry, AreIndependent}

-- the first matrix times the second is the third
abbrev pub IsMatrixProduct : ℕ → List ℕ → List ℕ → List ℕ → Type 0
IsMatrixProduct k left right result = (i j : ℕ) → i < k → j < k →
    row_sum k (matrix_entry k left i) (λ t. matrix_entry k right t j) ≡ matrix_entry k result i j

-- the first columns, so many, are those of the unit matrix
abbrev pub HasUnitColumns : ℕ → List ℕ → ℕ → Type 0
HasUnitColumns k matrix count = (i j : ℕ) → i < k → j < count → matrix_entry k matrix i j ≡ (if i == j then 1 else 0)

-- a multiple of one row was added to another
pub record IsRowAdded (k : ℕ) (old new : List ℕ) (target source factor : ℕ) : Type 0 where
  pub sum : (j : ℕ) → j < k →
      matrix_entry k new target j ≡ bit_xor (matrix_entry k old target j) (product factor (matrix_entry k old source j))
  pub others : (i j : ℕ) → i < k → j < k → i ≢ target → matrix_entry k new i j ≡ matrix_entry k old i j

-- a row was multiplied
pub record IsRowScaled (k : ℕ) (old new : List ℕ) (row factor : ℕ) : Type 0 where
  pub multiple : (j : ℕ) → j < k → matrix_entry k new row j ≡ product factor (matrix_entry k old row j)
  pub others : (i j : ℕ) → i < k → j < k → i ≢ row → matrix_entry k new i j ≡ matrix_entry k old i j

-- operations on rows that keep what the elimination goes by, at a column
pub record IsRowOperation (k column : ℕ) (old old_companion new new_companion : List ℕ) : Type 0 where
  pub product_kept : (matrix : List ℕ) → IsBytes matrix → IsMatrixProduct k old_companion matrix old → IsMatrixProduct k new_companion matrix new
  pub independence_kept : AreIndependent k old → AreIndependent k new
  pub companion_independence_kept : AreIndependent k old_companion → AreIndependent k new_companion
  pub unit_columns_kept : HasUnitColumns k old column → HasUnitColumns k new column
