-- Operations on the rows of a matrix and of a companion beside it keep what the elimination goes by.
use Rattle.std.proofs.Common.{◌≡◌, ◌≢◌, ℕ, ◌+◌, ◌<◌, ◌≤◌, ◌==◌, if◌then◌else◌, List, get_or, refl, sym, ap, ap₂, subst, ◌∙◌, inl, inr, arith, bit_xor}
use Rattle.std.proofs.lemmas.Bool.{cases_eq, eq-eqb, ne_eqb}
use lib.Bits.{xor_comm, xor_zero_r}
use Rattle.sw_words.specs.Bytes.{IsBytes}
use Rattle.sw_gf256.specs.Field.{product}
use Rattle.sw_gf256.proofs.Linear.{xor_twice}
use Rattle.sw_gf256.proofs.FieldLaws.{product_zero, one_product}
use Rattle.sw_cauchy.specs.Matrix.{row_sum}
use Rattle.sw_cauchy.specs.Linear.{matrix_entry, AreIndependent}
use Rattle.sw_cauchy.specs.Elimination.{IsMatrixProduct, HasUnitColumns, IsRowAdded, IsRowScaled, IsRowOperation}
use Rattle.sw_cauchy.proofs.FieldAlgebra.{xor_byte, xor_product, zero_from_product}
use Rattle.sw_cauchy.proofs.RowSums.{row_sum-same, row_sum-lt, row_sum-scaled, row_sum-added}

-- ---- none, and one after the other

-- no operation
pub Operation-none : (k column : ℕ) (matrix companion : List ℕ) → IsRowOperation k column matrix companion matrix companion
Operation-none k column matrix companion = record {
  product_kept = λ origin bytes h. h;
  independence_kept = λ h. h;
  companion_independence_kept = λ h. h;
  unit_columns_kept = λ h. h;
}

-- two operations
pub Operation-after : (k column : ℕ) (a b c d e f : List ℕ) → IsRowOperation k column a b c d → IsRowOperation k column c d e f → IsRowOperation k column a b e f
Operation-after k column a b c d e f first next = record {
  product_kept = λ origin bytes h. next.product_kept origin bytes (first.product_kept origin bytes h);
  independence_kept = λ h. next.independence_kept (first.independence_kept h);
  companion_independence_kept = λ h. next.companion_independence_kept (first.companion_independence_kept h);
  unit_columns_kept = λ h. next.unit_columns_kept (first.unit_columns_kept h);
}

-- ---- a multiple of a row is added

module _ (k : ℕ) (old new : List ℕ) (target source factor : ℕ) (target_in : target < k) (source_in : source < k) (low : factor < 256) (bytes : IsBytes old) (h : IsRowAdded k old new target source factor) where
  -- the sum of the row that was added to
  sum_added : (c : ℕ → ℕ) → ((t : ℕ) → t < k → c t < 256) → row_sum k (matrix_entry k new target) c ≡ bit_xor (row_sum k (matrix_entry k old target) c) (product factor (row_sum k (matrix_entry k old source) c))
  sum_added c columns =
      row_sum-added k (matrix_entry k old target) (matrix_entry k old source) (matrix_entry k new target) c factor low h.sum (λ t k. bytes _) columns

  -- and of another
  sum_other : (i : ℕ) (c : ℕ → ℕ) → i < k → i ≢ target → row_sum k (matrix_entry k new i) c ≡ row_sum k (matrix_entry k old i) c
  sum_other i c within other = row_sum-same k _ _ c c (λ t kt. h.others i t within kt other) (λ t kt. refl)

  -- independent rows stay so where the row that is added is another one
  independent_added : target ≢ source → AreIndependent k old → AreIndependent k new
  independent_added apart independent column column_bytes long none =
      independent column column_bytes long (λ i within. elim (cases_eq i target) [
        | inl e ↦ subst (λ n. row_sum k (matrix_entry k old n) (λ t. get_or column t 0) ≡ 0) (sym e)
            (sym (xor_zero_r _) ∙ ap (bit_xor _) (sym (ap (product factor) source_zero ∙ product_zero factor)) ∙ sym (sum_added (λ t. get_or column t 0) (λ t kt. column_bytes t)) ∙ none target target_in)
        | inr other ↦ sym (sum_other i (λ t. get_or column t 0) within other) ∙ none i within
      ])
    where
      source_zero : row_sum k (matrix_entry k old source) (λ t. get_or column t 0) ≡ 0
      source_zero = sym (sum_other source (λ t. get_or column t 0) source_in (λ e. apart (sym e))) ∙ none source source_in

  -- no entry changes in a column where the row that is added has a zero
  entry_kept : (i j : ℕ) → i < k → j < k → matrix_entry k old source j ≡ 0 → matrix_entry k new i j ≡ matrix_entry k old i j
  entry_kept i j within inside none =
      elim (cases_eq i target) [
        | inl e ↦ subst (λ n. matrix_entry k new n j ≡ matrix_entry k old n j) (sym e)
            (h.sum j inside ∙ ap (bit_xor (matrix_entry k old target j)) (ap (product factor) none ∙ product_zero factor)
            ∙ xor_zero_r (matrix_entry k old target j))
        | inr other ↦ h.others i j within inside other
      ]

  -- so columns of the unit matrix stay, left of the position of the row that is added
  unit_columns_added : (count : ℕ) → count ≤ source → HasUnitColumns k old count → HasUnitColumns k new count
  unit_columns_added count behind unit i j within before =
      entry_kept i j within (omega arith) (unit source j source_in before ∙ rw (ne_eqb source j (λ e. omega arith)) refl) ∙ unit i j within before

-- the same row added to a matrix and to its companion
module _ (k : ℕ) (old new old_companion new_companion : List ℕ) (target source factor : ℕ) (target_in : target < k) (source_in : source < k) (low : factor < 256)
    (companion_bytes : IsBytes old_companion) (h : IsRowAdded k old new target source factor) (in_companion : IsRowAdded k old_companion new_companion target source factor) where
  -- the companion times a matrix stays the matrix beside it
  product_added : (origin : List ℕ) → IsBytes origin → IsMatrixProduct k old_companion origin old → IsMatrixProduct k new_companion origin new
  product_added origin bytes result i j within inside =
      elim (cases_eq i target) [
        | inl e ↦ subst (λ n. row_sum k (matrix_entry k new_companion n) (λ t. matrix_entry k origin t j) ≡ matrix_entry k new n j) (sym e)
            (sum_added k old_companion new_companion target source factor target_in source_in low companion_bytes in_companion (λ t. matrix_entry k origin t j) (λ t kt. bytes _)
            ∙ ap₂ (λ x y. bit_xor x (product factor y)) (result target j target_in inside) (result source j source_in inside)
            ∙ sym (h.sum j inside))
        | inr other ↦
            sum_other k old_companion new_companion target source factor target_in source_in low companion_bytes in_companion i (λ t. matrix_entry k origin t j) within other
            ∙ result i j within inside ∙ sym (h.others i j within inside other)
      ]

  -- so it is an operation that the elimination may make
  pub Operation-added : (column : ℕ) → IsBytes old → target ≢ source → column ≤ source → IsRowOperation k column old old_companion new new_companion
  Operation-added column bytes apart behind = record {
    product_kept = product_added;
    independence_kept = independent_added k old new target source factor target_in source_in low bytes h apart;
    companion_independence_kept = independent_added k old_companion new_companion target source factor target_in source_in low companion_bytes in_companion apart;
    unit_columns_kept = unit_columns_added k old new target source factor target_in source_in low bytes h column behind;
  }

-- ---- a row is multiplied

-- to multiply a row is to add a multiple of it to itself
Added-from_scaled : (k : ℕ) (old new : List ℕ) (row factor : ℕ) → IsBytes old → IsRowScaled k old new row factor → IsRowAdded k old new row row (bit_xor factor 1)
Added-from_scaled k old new row factor bytes h = record {
  sum = λ j inside.
      let x = matrix_entry k old row j in
      h.multiple j inside ∙ sym (ap (bit_xor x) (xor_product factor 1 x ∙ ap (bit_xor (product factor x)) (one_product x (bytes _)) ∙ xor_comm (product factor x) x) ∙ xor_twice x (product factor x));
  others = h.others;
}

-- independent rows stay so where the factor is not 0
independent_scaled : (k : ℕ) (old new : List ℕ) (row factor : ℕ) → row < k → 0 < factor → factor < 256 → IsBytes old → IsRowScaled k old new row factor → AreIndependent k old → AreIndependent k new
independent_scaled k old new row factor row_in pos low bytes h independent column column_bytes long none =
    independent column column_bytes long (λ i within. elim (cases_eq i row) [
      | inl e ↦ subst (λ n. row_sum k (matrix_entry k old n) (λ t. get_or column t 0) ≡ 0) (sym e)
          (zero_from_product factor (row_sum k (matrix_entry k old row) (λ t. get_or column t 0)) pos low
          (row_sum-lt k (matrix_entry k old row) (λ t. get_or column t 0) (λ t kt. bytes _) (λ t kt. column_bytes t))
          (sym (row_sum-scaled k (matrix_entry k old row) (matrix_entry k new row) (λ t. get_or column t 0) factor low h.multiple (λ t kt. bytes _) (λ t kt. column_bytes t)) ∙ none row row_in))
      | inr other ↦
          row_sum-same k _ _ (λ t. get_or column t 0) (λ t. get_or column t 0) (λ t kt. sym (h.others i t within kt other)) (λ t kt. refl) ∙ none i within
    ])

-- so it is an operation that the elimination may make, below the columns before
pub Operation-scaled : (k column : ℕ) (old new old_companion new_companion : List ℕ) (row factor : ℕ) → row < k → column ≤ row → 0 < factor → factor < 256 → IsBytes old → IsBytes old_companion
    → IsRowScaled k old new row factor → IsRowScaled k old_companion new_companion row factor → IsRowOperation k column old old_companion new new_companion
Operation-scaled k column old new old_companion new_companion row factor row_in behind pos low bytes companion_bytes h in_companion = record {
  product_kept = product_added k old new old_companion new_companion row row (bit_xor factor 1) row_in row_in less companion_bytes added (Added-from_scaled k old_companion new_companion row factor companion_bytes in_companion);
  independence_kept = independent_scaled k old new row factor row_in pos low bytes h;
  companion_independence_kept = independent_scaled k old_companion new_companion row factor row_in pos low companion_bytes in_companion;
  unit_columns_kept = unit_columns_added k old new row row (bit_xor factor 1) row_in row_in less bytes added column behind;
}
  where
    less : bit_xor factor 1 < 256
    less = xor_byte factor 1 low (omega arith)

    added : IsRowAdded k old new row row (bit_xor factor 1)
    added = Added-from_scaled k old new row factor bytes h

-- one more column of the unit matrix
pub unit_columns_more : (k column : ℕ) (matrix : List ℕ) → column < k → HasUnitColumns k matrix column → matrix_entry k matrix column column ≡ 1
    → ((i : ℕ) → i < k → i ≢ column → matrix_entry k matrix i column ≡ 0) → HasUnitColumns k matrix (column + 1)
unit_columns_more k column matrix inside unit one zeros i j within before =
    elim (cases_eq j column) [
      | inl e ↦ subst (λ n. matrix_entry k matrix i n ≡ (if i == n then 1 else 0)) (sym e) at_column
      | inr other ↦ unit i j within (omega arith)
    ]
  where
    at_column : matrix_entry k matrix i column ≡ (if i == column then 1 else 0)
    at_column =
        elim (cases_eq i column) [
          | inl e ↦ ap (λ n. matrix_entry k matrix n column) e ∙ one ∙ sym (ap (λ b. if b then 1 else 0) (eq-eqb i column e))
          | inr other ↦ zeros i within other ∙ sym (ap (λ b. if b then 1 else 0) (ne_eqb i column other))
        ]
