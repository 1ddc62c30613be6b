-- The steps of the elimination, each done to a matrix and to a companion beside it. At one column an entry other than zero
-- is brought to the diagonal and made one, and the other entries are cleared.
use Rattle.std.proofs.Common.{◌≡◌, ◌≢◌, ℕ, ◌+◌, ◌*◌, ◌<◌, ◌≤◌, List, length, sym, ap, ap₂, subst, ◌∙◌, inl, inr, arith, bit_xor}
use Rattle.std.proofs.lemmas.Bool.{cases_eq}
use lib.Bits.{xor_self, xor_zero_l}
use Rattle.sw_words.specs.Bytes.{IsBytes}
use Rattle.sw_gf256.specs.Field.{product, inverse}
use Rattle.sw_gf256.proofs.FieldLaws.{product_comm, product_inverse, inverse_lt, one_product, product_one}
use Rattle.sw_cauchy.specs.Elimination.{IsMatrixProduct, HasUnitColumns, IsRowAdded, IsRowScaled, IsRowOperation}
use Rattle.sw_cauchy.specs.Linear.{matrix_entry, AreIndependent, IsInverse}
use Rattle.sw_cauchy.proofs.FieldAlgebra.{inverse-pos}
use Rattle.sw_cauchy.proofs.RowOperations.{Operation-none, Operation-after, Operation-added, Operation-scaled}
use Rattle.sw_cauchy.proofs.UnitMatrix.{unit_independent, unit_product}

-- ---- entries

module _ (k column : ℕ) (current new companion new_companion : List ℕ) (inside : column < k) (bytes : IsBytes current) (companion_bytes : IsBytes companion) where
  -- where the entry on the diagonal is zero, a row whose entry is not zero is added
  pub Operation-filled : (row : ℕ) → row < k → column ≤ row → matrix_entry k current column column ≡ 0 → 0 < matrix_entry k current row column
      → IsRowAdded k current new column row 1 → IsRowAdded k companion new_companion column row 1 → IsRowOperation k column current companion new new_companion
  Operation-filled row within from zero pivot added beside =
      let apart : column ≢ row = (λ e. omega (arith, ap (λ i. matrix_entry k current i column) e)) in
      Operation-added k current new companion new_companion column row 1 inside within (omega arith) companion_bytes added beside column bytes apart from

  -- which brings that entry to the diagonal
  pub entry_filled : (row : ℕ) → matrix_entry k current column column ≡ 0 → IsRowAdded k current new column row 1 → matrix_entry k new column column ≡ matrix_entry k current row column
  entry_filled row zero added =
      added.sum column inside ∙ ap₂ bit_xor zero (one_product (matrix_entry k current row column) (bytes _)) ∙ xor_zero_l (matrix_entry k current row column)

  -- an entry on the diagonal that is not zero has its row multiplied by its inverse
  pub Operation-made_one : (scale : ℕ) → 0 < matrix_entry k current column column → scale ≡ inverse (matrix_entry k current column column)
      → IsRowScaled k current new column scale → IsRowScaled k companion new_companion column scale → IsRowOperation k column current companion new new_companion
  Operation-made_one scale pivot is scaled beside =
      let entry = matrix_entry k current column column in
      Operation-scaled k column current new companion new_companion column scale inside (omega arith) (subst (λ x. 0 < x) (sym is) (inverse-pos entry pivot (bytes _)))
      (subst (λ x. x < 256) (sym is) (inverse_lt entry)) bytes companion_bytes scaled beside

  -- which makes it one
  pub entry_made_one : (scale : ℕ) → 0 < matrix_entry k current column column → scale ≡ inverse (matrix_entry k current column column) → IsRowScaled k current new column scale
      → matrix_entry k new column column ≡ 1
  entry_made_one scale pivot is scaled =
      let entry = matrix_entry k current column column in
      scaled.multiple column inside ∙ ap (λ x. product x entry) is ∙ product_comm (inverse entry) entry (inverse_lt entry) (bytes _) ∙ product_inverse entry pivot (bytes _)

  -- the row with a one on the diagonal is added to another as often as that one's entry says
  pub Operation-cleared : (row : ℕ) → row < k → row ≢ column → IsRowAdded k current new row column (matrix_entry k current row column)
      → IsRowAdded k companion new_companion row column (matrix_entry k current row column) → IsRowOperation k column current companion new new_companion
  Operation-cleared row within apart added beside =
      Operation-added k current new companion new_companion row column (matrix_entry k current row column) within inside (bytes _) companion_bytes added beside column bytes apart (omega arith)

  -- which clears the entry
  pub entry_cleared : (row : ℕ) → matrix_entry k current column column ≡ 1 → IsRowAdded k current new row column (matrix_entry k current row column) → matrix_entry k new row column ≡ 0
  entry_cleared row one added =
      let entry = matrix_entry k current row column in
      added.sum column inside ∙ ap (bit_xor entry) (ap (product entry) one ∙ product_one entry (bytes _)) ∙ xor_self entry

-- ---- a column

-- the entries of the first rows, so many, are cleared beside the one on the diagonal
pub record IsCleared (k column : ℕ) (old old_companion new new_companion : List ℕ) (count : ℕ) : Type 0 where
  pub operation : IsRowOperation k column old old_companion new new_companion
  pub one : matrix_entry k new column column ≡ 1
  pub cleared : (i : ℕ) → i < count → i ≢ column → matrix_entry k new i column ≡ 0

-- none yet
pub Cleared-none : (k column : ℕ) (current companion : List ℕ) → matrix_entry k current column column ≡ 1 → IsCleared k column current companion current companion 0
Cleared-none k column current companion one = record {
  operation = Operation-none k column current companion;
  one = one;
  cleared = λ i h other. absurd (omega arith);
}

-- the row of the one itself is passed over
pub Cleared-past : (k column : ℕ) (old old_companion new new_companion : List ℕ) (row : ℕ) → row ≡ column
    → IsCleared k column old old_companion new new_companion row → IsCleared k column old old_companion new new_companion (row + 1)
Cleared-past k column old old_companion new new_companion row here before = record {
  operation = before.operation;
  one = before.one;
  cleared = λ i h other. before.cleared i (omega arith) other;
}

-- one more row
pub Cleared-more : (k column : ℕ) (old old_companion before before_companion new new_companion : List ℕ) (row : ℕ) → column < k → row ≢ column
    → IsCleared k column old old_companion before before_companion row → IsRowOperation k column before before_companion new new_companion
    → matrix_entry k new row column ≡ 0 → ((i : ℕ) → i < k → i ≢ row → matrix_entry k new i column ≡ matrix_entry k before i column) → row < k
    → IsCleared k column old old_companion new new_companion (row + 1)
Cleared-more k column old old_companion before before_companion new new_companion row inside apart done operation zero others within = record {
  operation = Operation-after k column old old_companion before before_companion new new_companion done.operation operation;
  one = others column inside (λ e. apart (sym e)) ∙ done.one;
  cleared = λ i h other.
      elim (cases_eq i row) [
        | inl e ↦ ap (λ n. matrix_entry k new n column) e ∙ zero
        | inr earlier ↦ others i (omega arith) earlier ∙ done.cleared i (omega arith) other
      ];
}

-- ---- all columns

-- The companion times the matrix that the elimination began with is the current matrix, whose first columns, so many, are
-- those of the unit matrix.
pub record IsEliminated (k : ℕ) (matrix current companion : List ℕ) (column : ℕ) : Type 0 where
  pub companion_square : length companion ≡ k * k
  pub companion_bytes : IsBytes companion
  pub product : IsMatrixProduct k companion matrix current
  pub independent : AreIndependent k current
  pub companion_independent : AreIndependent k companion
  pub unit_columns : HasUnitColumns k current column

-- none yet, with the unit matrix as the companion
pub Eliminated-none : (k : ℕ) (matrix unit : List ℕ) → length unit ≡ k * k → IsBytes unit → HasUnitColumns k unit k → IsBytes matrix → AreIndependent k matrix → IsEliminated k matrix matrix unit 0
Eliminated-none k matrix unit square unit_bytes is_unit bytes independent = record {
  companion_square = square;
  companion_bytes = unit_bytes;
  product = unit_product k unit matrix is_unit bytes;
  independent = independent;
  companion_independent = unit_independent k unit is_unit;
  unit_columns = λ i j hi hj. absurd (omega arith);
}

-- one more
pub Eliminated-more : (k : ℕ) (matrix before before_companion new new_companion : List ℕ) (column : ℕ) → IsBytes matrix → IsEliminated k matrix before before_companion column
    → IsRowOperation k column before before_companion new new_companion → HasUnitColumns k new (column + 1) → length new_companion ≡ k * k → IsBytes new_companion
    → IsEliminated k matrix new new_companion (column + 1)
Eliminated-more k matrix before before_companion new new_companion column bytes so_far operation after square companion_bytes = record {
  companion_square = square;
  companion_bytes = companion_bytes;
  product = operation.product_kept matrix bytes so_far.product;
  independent = operation.independence_kept so_far.independent;
  companion_independent = operation.companion_independence_kept so_far.companion_independent;
  unit_columns = after;
}

-- with all of them the companion is the inverse
pub Eliminated-all : (k : ℕ) (matrix current companion : List ℕ) → IsEliminated k matrix current companion k → IsInverse k companion matrix
Eliminated-all k matrix current companion done i j hi hj = done.product i j hi hj ∙ done.unit_columns i j hi hj
