-- A Cauchy matrix takes no column to zero but the column of zeros: its rows are p, its columns j, and its entries the
-- inverses of p + j. By one elimination after another, each of which leaves a smaller Cauchy matrix.
use Rattle.std.proofs.Common.{◌≡◌, ◌≢◌, ℕ, ◌<◌, List, [], ◌∷◌, length, refl, sym, ap, ap₂, subst, ◌∙◌, inl, inr, arith, bit_xor}
use lib.Bits.{xor_self}
use Rattle.sw_gf256.specs.Field.{product, inverse}
use Rattle.sw_gf256.proofs.Products.{product_lt}
use Rattle.sw_gf256.proofs.FieldLaws.{product_zero, inverse_lt}
use Rattle.sw_cauchy.proofs.FieldAlgebra.{xor_byte, same_from_xor, pos-xor, xor_common, product-cancel, zero_from_inverse, zero_from_product, eliminated}
use Rattle.sw_cauchy.proofs.ColumnSums.{Has, Differ, sum_over, sum_same, sum_zero, sum_xor, sum_product, sum_lt}

-- the sum of row p over these columns, with the column of values v
abbrev pub cauchy_sum : List ℕ → (ℕ → ℕ) → ℕ → ℕ
cauchy_sum js v p = sum_over js (λ x. product (inverse (bit_xor p x)) (v x))

-- the column of values of the matrix that an elimination with row p and column j leaves
next_values : ℕ → ℕ → (ℕ → ℕ) → ℕ → ℕ
next_values p j v x = product (bit_xor j x) (product (inverse (bit_xor p x)) (v x))

-- each row gives zero
pub record HasZeroSums (ps js : List ℕ) (v : ℕ → ℕ) : Type 0 where
  pub rows_differ : Differ ps
  pub columns_differ : Differ js
  pub row_lt : (p : ℕ) → Has ps p → p < 256
  pub column_lt : (j : ℕ) → Has js j → j < 256
  pub value_lt : (j : ℕ) → Has js j → v j < 256
  pub apart : (p j : ℕ) → Has ps p → Has js j → p ≢ j
  pub zero_sum : (p : ℕ) → Has ps p → cauchy_sum js v p ≡ 0

module _ (p₁ j₁ : ℕ) (ps js : List ℕ) (v : ℕ → ℕ) (h : HasZeroSums (p₁ ∷ ps) (j₁ ∷ js) v) where
  -- a value over p + x is an element
  over_lt : (p x : ℕ) → Has js x → product (inverse (bit_xor p x)) (v x) < 256
  over_lt p x k = product_lt (inverse (bit_xor p x)) (v x) (inverse_lt (bit_xor p x)) (h.value_lt x (inr k))

  -- so is the sum of a row's and a column's number
  denominator_lt : (p x : ℕ) → Has (p₁ ∷ ps) p → Has (j₁ ∷ js) x → bit_xor p x < 256
  denominator_lt p x kp kx = xor_byte p x (h.row_lt p kp) (h.column_lt x kx)

  -- which is not 0
  denominator_pos : (p x : ℕ) → Has (p₁ ∷ ps) p → Has (j₁ ∷ js) x → 0 < bit_xor p x
  denominator_pos p x kp kx = pos-xor p x (h.apart p x kp kx)

  -- the sum of two columns' numbers is an element
  ahead_lt : (x : ℕ) → Has js x → bit_xor j₁ x < 256
  ahead_lt x k = xor_byte j₁ x (h.column_lt j₁ (inl refl)) (h.column_lt x (inr k))

  -- so are the values after the elimination
  next_lt : (x : ℕ) → Has js x → next_values p₁ j₁ v x < 256
  unfolding next_values
  next_lt x k = product_lt (bit_xor j₁ x) (product (inverse (bit_xor p₁ x)) (v x)) (ahead_lt x k) (over_lt p₁ x k)

  -- each row's sum over the other columns tells the value of the first column
  first_value : (p : ℕ) → Has (p₁ ∷ ps) p → product (bit_xor p j₁) (cauchy_sum js v p) ≡ v j₁
  first_value p k =
      ap (product (bit_xor p j₁)) (sym (same_from_xor (product (inverse (bit_xor p j₁)) (v j₁)) (cauchy_sum js v p) (h.zero_sum p k)))
      ∙ product-cancel (bit_xor p j₁) (v j₁) (denominator_pos p j₁ k (inl refl)) (denominator_lt p j₁ k (inl refl)) (h.value_lt j₁ (inl refl))

  -- one product of the sum of row p after the elimination
  next_term : (p x : ℕ) → Has ps p → Has js x
      → product (bit_xor p p₁) (product (inverse (bit_xor p x)) (next_values p₁ j₁ v x))
      ≡ bit_xor (product (bit_xor p j₁) (product (inverse (bit_xor p x)) (v x))) (product (bit_xor p₁ j₁) (product (inverse (bit_xor p₁ x)) (v x)))
  unfolding next_values
  next_term p x kp kx =
      ap (λ n. product n (product (inverse (bit_xor p x)) (next_values p₁ j₁ v x))) (sym (xor_common p p₁ x))
      ∙ eliminated (bit_xor p x) (bit_xor p₁ x) (bit_xor j₁ x) (v x) (denominator_pos p x (inr kp) (inr kx)) (denominator_pos p₁ x (inl refl) (inr kx))
      (denominator_lt p x (inr kp) (inr kx)) (denominator_lt p₁ x (inl refl) (inr kx)) (ahead_lt x kx) (h.value_lt x (inr kx))
      ∙ ap₂ (λ n m. bit_xor (product n (product (inverse (bit_xor p x)) (v x))) (product m (product (inverse (bit_xor p₁ x)) (v x)))) (xor_common p j₁ x) (xor_common p₁ j₁ x)

  -- the sum of row p after the elimination is zero
  next_sum : (p : ℕ) → Has ps p → cauchy_sum js (next_values p₁ j₁ v) p ≡ 0
  next_sum p k =
      zero_from_product (bit_xor p p₁) (cauchy_sum js (next_values p₁ j₁ v) p)
      (pos-xor p p₁ (λ e. h.rows_differ.0 (subst (Has ps) e k))) (xor_byte p p₁ (h.row_lt p (inr k)) (h.row_lt p₁ (inl refl)))
      (sum_lt js (λ x. product (inverse (bit_xor p x)) (next_values p₁ j₁ v x)) (λ x kx. product_lt (inverse (bit_xor p x)) (next_values p₁ j₁ v x) (inverse_lt (bit_xor p x)) (next_lt x kx)))
      (sym (sum_product js (bit_xor p p₁) (λ x. product (inverse (bit_xor p x)) (next_values p₁ j₁ v x)))
      ∙ sum_same js _ _ (λ x kx. next_term p x k kx)
      ∙ sum_xor js (λ x. product (bit_xor p j₁) (product (inverse (bit_xor p x)) (v x))) (λ x. product (bit_xor p₁ j₁) (product (inverse (bit_xor p₁ x)) (v x)))
      ∙ ap₂ bit_xor
      (sum_product js (bit_xor p j₁) (λ x. product (inverse (bit_xor p x)) (v x)) ∙ first_value p (inr k))
      (sum_product js (bit_xor p₁ j₁) (λ x. product (inverse (bit_xor p₁ x)) (v x)) ∙ first_value p₁ (inl refl))
      ∙ xor_self (v j₁))

  -- what the elimination leaves, without the first row and column
  smaller : HasZeroSums ps js (next_values p₁ j₁ v)
  smaller = record {
    rows_differ = h.rows_differ.1;
    columns_differ = h.columns_differ.1;
    row_lt = λ p k. h.row_lt p (inr k);
    column_lt = λ x k. h.column_lt x (inr k);
    value_lt = next_lt;
    apart = λ p x kp kx. h.apart p x (inr kp) (inr kx);
    zero_sum = next_sum;
  }

  -- where the values after the elimination are zero, those before it are
  rest_zero : ((x : ℕ) → Has js x → next_values p₁ j₁ v x ≡ 0) → (x : ℕ) → Has js x → v x ≡ 0
  unfolding next_values
  rest_zero none x k =
      let other : j₁ ≢ x = (λ e. h.columns_differ.0 (subst (Has js) (sym e) k)) in
      zero_from_inverse (bit_xor p₁ x) (v x) (denominator_pos p₁ x (inl refl) (inr k)) (denominator_lt p₁ x (inl refl) (inr k)) (h.value_lt x (inr k))
      (zero_from_product (bit_xor j₁ x) (product (inverse (bit_xor p₁ x)) (v x)) (pos-xor j₁ x other) (ahead_lt x k) (over_lt p₁ x k) (none x k))

  -- then the first value is zero too
  first_zero : ((x : ℕ) → Has js x → v x ≡ 0) → v j₁ ≡ 0
  first_zero none =
      sym (first_value p₁ (inl refl))
      ∙ ap (product (bit_xor p₁ j₁)) (sum_zero js (λ x. product (inverse (bit_xor p₁ x)) (v x)) (λ x k. ap (product (inverse (bit_xor p₁ x))) (none x k) ∙ product_zero (inverse (bit_xor p₁ x))))
      ∙ product_zero (bit_xor p₁ j₁)

-- as many rows as columns, none of them twice, and no row the same as a column: only the column of zeros gives zero
pub cauchy_independent : (js ps : List ℕ) (v : ℕ → ℕ) → length ps ≡ length js → HasZeroSums ps js v → (x : ℕ) → Has js x → v x ≡ 0
cauchy_independent [] ps v e h x k = absurd k
cauchy_independent (j ∷ js) [] v e h x k = absurd (omega arith)
cauchy_independent (j ∷ js) (p ∷ ps) v e h x k =
    let rest : (y : ℕ) → Has js y → v y ≡ 0 = rest_zero p j ps js v h (cauchy_independent js ps (next_values p j v) (omega arith) (smaller p j ps js v h)) in
    elim k [ inl same ↦ ap v (sym same) ∙ first_zero p j ps js v h rest | inr later ↦ rest x later ]
