-- A matrix whose rows are independent and whose first columns are those of the unit matrix has an entry that is not
-- zero in the next column, from the diagonal down.
use Rattle.std.proofs.Common.{◌≡◌, ◌≢◌, ℕ, ◌<◌, ◌≤◌, ◌==◌, cond, nat_lt, List, length, get_or, map, refl, sym, ap, ap₂, subst, ◌∙◌, inl, inr, arith, bit_xor}
use Rattle.std.proofs.lemmas.Bool.{cases_lt, cases_eq, cond_both, lt-ltb, le-ltb, eq-eqb, ne_eqb}
use Rattle.std.proofs.lemmas.List.{get_or_past}
use Rattle.std.proofs.lemmas.List.FromFn.{length-map-range_with_len, get_or-map-range_with_len}
use Rattle.std.specs.List.{range_with_len}
use lib.Bits.{xor_self}
use Rattle.sw_words.specs.Bytes.{IsBytes}
use Rattle.sw_gf256.specs.Field.{product}
use Rattle.sw_gf256.proofs.FieldLaws.{zero_product, product_zero, one_product, product_one}
use Rattle.sw_cauchy.specs.Matrix.{row_sum}
use Rattle.sw_cauchy.specs.Linear.{matrix_entry, AreIndependent}
use Rattle.sw_cauchy.specs.Elimination.{HasUnitColumns}
use Rattle.sw_cauchy.proofs.ColumnSums.{Has, Differ, LeftOut, leave_out, left_out_cases, differ_left_out, below, Has-below, differ_below, sum_over, sum_zero, sum_left_out, sum_only, row_sum-over}
use Rattle.sw_cauchy.proofs.RowSums.{row_sum-same}

-- Without such an entry a column other than that of zeros gives zero in each row: the next column above the diagonal,
-- a one on the diagonal, and zeros.
null_value : ℕ → List ℕ → ℕ → ℕ → ℕ
null_value k matrix column t = cond (t == column) 1 (cond (nat_lt t column) (matrix_entry k matrix t column) 0)

module _ (k column : ℕ) (matrix : List ℕ) (inside : column < k) (bytes : IsBytes matrix) (unit : HasUnitColumns k matrix column)
    (none : (i : ℕ) → column ≤ i → i < k → matrix_entry k matrix i column ≡ 0) where
  -- the value on the diagonal
  value_on : null_value k matrix column column ≡ 1
  unfolding null_value
  value_on = rw (eq-eqb column column refl) refl

  -- and above it
  value_above : (t : ℕ) → t < column → null_value k matrix column t ≡ matrix_entry k matrix t column
  unfolding null_value
  value_above t h = rw (ne_eqb t column (λ e. omega arith), lt-ltb t column h) refl

  -- and below it
  value_below : (t : ℕ) → column < t → null_value k matrix column t ≡ 0
  unfolding null_value
  value_below t h = rw (ne_eqb t column (λ e. omega arith), le-ltb t column (omega arith)) refl

  -- each is an element
  value_lt : (t : ℕ) → null_value k matrix column t < 256
  unfolding null_value
  value_lt t =
      cond_both (t == column) 1 (cond (nat_lt t column) (matrix_entry k matrix t column) 0) (λ n. n < 256) (λ e. omega arith)
      (λ e. cond_both (nat_lt t column) (matrix_entry k matrix t column) 0 (λ n. n < 256) (λ e. bytes _) (λ e. omega arith))

  -- the product at one position of row i
  term : ℕ → ℕ → ℕ
  term i t = product (matrix_entry k matrix i t) (null_value k matrix column t)

  -- beyond the column there is nothing
  term_beyond : (i t : ℕ) → column < t → term i t ≡ 0
  unfolding term
  term_beyond i t h = ap (product (matrix_entry k matrix i t)) (value_below t h) ∙ product_zero (matrix_entry k matrix i t)

  -- nor is there off the diagonal and beside the column
  term_beside : (i t : ℕ) → i < k → t ≢ column → t ≢ i → term i t ≡ 0
  unfolding term
  term_beside i t within other off =
      elim (cases_lt t column) [
        | inl low ↦
            ap (λ n. product n (null_value k matrix column t)) (unit i t within low ∙ ap (λ b. cond b 1 0) (ne_eqb i t (λ e. off (sym e))))
            ∙ zero_product (null_value k matrix column t)
        | inr high ↦ term_beyond i t (omega arith)
      ]

  -- in the column there is the entry itself
  term_at_column : (i : ℕ) → term i column ≡ matrix_entry k matrix i column
  unfolding term
  term_at_column i = ap (product (matrix_entry k matrix i column)) value_on ∙ product_one (matrix_entry k matrix i column) (bytes _)

  -- on the diagonal, left of the column, there is that entry once more
  term_on_diagonal : (i : ℕ) → i < column → term i i ≡ matrix_entry k matrix i column
  unfolding term
  term_on_diagonal i low =
      ap₂ product (unit i i (omega arith) low ∙ ap (λ b. cond b 1 0) (eq-eqb i i refl)) (value_above i low)
      ∙ one_product (matrix_entry k matrix i column) (bytes _)

  -- row i gives zero
  null_sum : (i : ℕ) → i < k → row_sum k (matrix_entry k matrix i) (null_value k matrix column) ≡ 0
  unfolding term
  null_sum i within =
      row_sum-over k (matrix_entry k matrix i) (null_value k matrix column) ∙ sum_left_out out.1 (term i)
      ∙ elim (cases_lt i column) [
        | inl low ↦ ap₂ bit_xor (term_at_column i) (others_above low) ∙ xor_self (matrix_entry k matrix i column)
        | inr high ↦ ap₂ bit_xor (term_at_column i ∙ none i high within) (others_below high)
      ]
    where
      out : (zs : List ℕ) × LeftOut (below k) column zs
      out = leave_out (below k) column (Has-below k column inside)

      rest : (Has out.0 column → ⊥) × Differ out.0
      rest = differ_left_out out.1 (differ_below k)

      apart : (t : ℕ) → Has out.0 t → t ≢ column
      apart t kt e = rest.0 (subst (Has out.0) e kt)

      stays : i < column → Has out.0 i
      stays low = elim (left_out_cases out.1 i (Has-below k i within)) [ inl e ↦ absurd (omega arith) | inr h ↦ h ]

      others_above : i < column → sum_over out.0 (term i) ≡ matrix_entry k matrix i column
      others_above low =
          sum_only out.0 i (term i) rest.1 (stays low) (λ t kt off. term_beside i t within (apart t kt) off) ∙ term_on_diagonal i low

      others_below : column ≤ i → sum_over out.0 (term i) ≡ 0
      others_below high =
          sum_zero out.0 (term i) (λ t kt. elim (cases_eq t i) [
            | inl e ↦ term_beyond i t (let other : t ≢ column = apart t kt in omega arith)
            | inr off ↦ term_beside i t within (apart t kt) off
          ])

  -- the column as a list
  null_column : List ℕ
  null_column = map (null_value k matrix column) (range_with_len 0 k)

  -- its values
  null_at : (t : ℕ) → t < k → get_or null_column t 0 ≡ null_value k matrix column t
  unfolding null_column
  null_at t h = get_or-map-range_with_len (null_value k matrix column) 0 k t t 0 h (omega arith)

  -- there are k of them
  null_length : length null_column ≡ k
  unfolding null_column
  null_length = length-map-range_with_len (null_value k matrix column) 0 k

  -- and each is a byte
  null_bytes : IsBytes null_column
  null_bytes t =
      elim (cases_lt t k) [
        | inl low ↦ rw (null_at t low) (value_lt t)
        | inr high ↦ rw (get_or_past null_column t 0 (omega (arith, null_length))) (omega arith)
      ]

  -- which independent rows don't allow
  pub pivot_exists : AreIndependent k matrix → ⊥
  pivot_exists independent =
      let zero = independent null_column null_bytes null_length (λ i within. row_sum-same k _ _ (λ t. get_or null_column t 0) (null_value k matrix column) (λ t kt. refl) null_at ∙ null_sum i within) column in
      let one = null_at column inside ∙ value_on in
      omega arith
