-- Any k rows of the generator matrix are independent: a unit row tells one value of the column, which leaves the rows
-- of a Cauchy matrix over the columns that have no unit row.
use Rattle.std.proofs.Common.{◌≡◌, ◌≢◌, ℕ, suc, ◌+◌, ◌<◌, ◌≤◌, List, [], ◌∷◌, length, get_or, refl, sym, ap, subst, ◌∙◌, inl, inr, arith, bit_xor}
use Rattle.std.proofs.lemmas.Bool.{cases_lt}
use Rattle.std.proofs.lemmas.List.{get_or_past}
use Rattle.std.specs.List.{All, AllPairs}
use lib.Bits.{xor_zero_l}
use Rattle.sw_gf256.specs.Field.{product}
use Rattle.sw_gf256.proofs.FieldLaws.{zero_product, product_zero, one_product}
use Rattle.sw_cauchy.specs.Matrix.{entry, row_sum}
use Rattle.sw_cauchy.specs.Linear.{matrix_entry, AreIndependent}
use Rattle.sw_cauchy.specs.Rows.{generator_rows}
use Rattle.sw_cauchy.proofs.ColumnSums.{Has, Differ, LeftOut, leave_out, length-left_out, left_out_cases, left_out_from, differ_left_out, below, length-below, Has-below, below-lt, differ_below, sum_over, sum_same, sum_left_out, sum_only, row_sum-over}
use Rattle.sw_cauchy.proofs.GeneratorRows.{unit_entry, unit_diagonal, parity_entry, matrix_entry-generator_rows}
use Rattle.sw_cauchy.proofs.CauchyElimination.{HasZeroSums, cauchy_independent}

-- the sum of row i over these columns
abbrev pub generator_sum : ℕ → List ℕ → (ℕ → ℕ) → ℕ → ℕ
generator_sum k js v i = sum_over js (λ x. product (entry k i x) (v x))

-- ---- unit rows

-- The rows `is` are still to be looked at, the rows `ps` are no unit rows, and the columns `js` are those whose unit row
-- was not met.
pub record IsReduced (k : ℕ) (is ps js : List ℕ) (v : ℕ → ℕ) : Type 0 where
  pub rows_differ : Differ is
  pub parity_differ : Differ ps
  pub columns_differ : Differ js
  pub separate : (i : ℕ) → Has is i → Has ps i → ⊥
  pub row_lt : (i : ℕ) → Has is i → i < 256
  pub parity_lt : (p : ℕ) → Has ps p → p < 256
  pub parity : (p : ℕ) → Has ps p → k ≤ p
  pub column_lt : (j : ℕ) → Has js j → j < k
  pub unit_column : (i : ℕ) → Has is i → i < k → Has js i
  pub zero_sum : (i : ℕ) → Has is i → generator_sum k js v i ≡ 0
  pub parity_zero_sum : (p : ℕ) → Has ps p → generator_sum k js v p ≡ 0

module _ (k : ℕ) (v : ℕ → ℕ) (small : k ≤ 256) (bytes : (x : ℕ) → v x < 256) where
  -- a unit row whose sum is zero tells that the value at its column is zero
  unit_value : (i : ℕ) (js : List ℕ) → i < k → Differ js → Has js i → generator_sum k js v i ≡ 0 → v i ≡ 0
  unit_value i js h differ has none =
      sym (one_product (v i) (bytes i)) ∙ ap (λ n. product n (v i)) (sym (unit_diagonal k i h))
      ∙ sym (sum_only js i (λ x. product (entry k i x) (v x)) differ has (λ x kx other. ap (λ n. product n (v x)) (unit_entry k i x h other) ∙ zero_product (v x)))
      ∙ none

  -- a column whose value is zero adds nothing
  without_zero : (r i : ℕ) (js zs : List ℕ) → LeftOut js i zs → v i ≡ 0 → generator_sum k js v r ≡ 0 → generator_sum k zs v r ≡ 0
  without_zero r i js zs left none h =
      sym (xor_zero_l (generator_sum k zs v r)) ∙ ap (λ n. bit_xor n (generator_sum k zs v r)) (sym (ap (product (entry k r i)) none ∙ product_zero (entry k r i)))
      ∙ sym (sum_left_out left (λ x. product (entry k r x) (v x))) ∙ h

  -- a unit row is met
  met_unit : (i : ℕ) (is ps js zs : List ℕ) → v i ≡ 0 → LeftOut js i zs → IsReduced k (i ∷ is) ps js v → IsReduced k is ps zs v
  met_unit i is ps js zs none left h = record {
    rows_differ = h.rows_differ.1;
    parity_differ = h.parity_differ;
    columns_differ = (differ_left_out left h.columns_differ).1;
    separate = λ r kr. h.separate r (inr kr);
    row_lt = λ r kr. h.row_lt r (inr kr);
    parity_lt = h.parity_lt;
    parity = h.parity;
    column_lt = λ x kx. h.column_lt x (left_out_from left x kx);
    unit_column = λ r kr low.
        elim (left_out_cases left r (h.unit_column r (inr kr) low)) [
          | inl e ↦ absurd (h.rows_differ.0 (subst (Has is) (sym e) kr))
          | inr stays ↦ stays
        ];
    zero_sum = λ r kr. without_zero r i js zs left none (h.zero_sum r (inr kr));
    parity_zero_sum = λ p kp. without_zero p i js zs left none (h.parity_zero_sum p kp);
  }

  -- a row that is no unit row is met
  met_parity : (i : ℕ) (is ps js : List ℕ) → k ≤ i → IsReduced k (i ∷ is) ps js v → IsReduced k is (i ∷ ps) js v
  met_parity i is ps js high h = record {
    rows_differ = h.rows_differ.1;
    parity_differ = (h.separate i (inl refl), h.parity_differ);
    columns_differ = h.columns_differ;
    separate = λ r kr kp. elim kp [ inl e ↦ h.rows_differ.0 (subst (Has is) (sym e) kr) | inr later ↦ h.separate r (inr kr) later ];
    row_lt = λ r kr. h.row_lt r (inr kr);
    parity_lt = λ p kp. elim kp [ inl e ↦ h.row_lt p (inl e) | inr later ↦ h.parity_lt p later ];
    parity = λ p kp. elim kp [ inl e ↦ subst (λ n. k ≤ n) e high | inr later ↦ h.parity p later ];
    column_lt = h.column_lt;
    unit_column = λ r kr. h.unit_column r (inr kr);
    zero_sum = λ r kr. h.zero_sum r (inr kr);
    parity_zero_sum = λ p kp. elim kp [ inl e ↦ h.zero_sum p (inl e) | inr later ↦ h.parity_zero_sum p later ];
  }

  -- no row is left to be looked at
  only_parity : (ps js : List ℕ) → IsReduced k [] ps js v → HasZeroSums ps js v
  only_parity ps js h = record {
    rows_differ = h.parity_differ;
    columns_differ = h.columns_differ;
    row_lt = h.parity_lt;
    column_lt = λ x kx. omega (arith, h.column_lt x kx);
    value_lt = λ x kx. bytes x;
    apart = λ p x kp kx e. omega (arith, h.parity p kp, h.column_lt x kx);
    zero_sum = λ p kp. sum_same js _ _ (λ x kx. ap (λ n. product n (v x)) (sym (parity_entry k p x (h.parity p kp)))) ∙ h.parity_zero_sum p kp;
  }

  -- row by row: every value is zero
  all_zero : (is ps js : List ℕ) → length is + length ps ≡ length js → IsReduced k is ps js v → (x : ℕ) → Has js x → v x ≡ 0
  all_zero [] ps js e h x kx = cauchy_independent js ps v (omega arith) (only_parity ps js h) x kx
  all_zero (i ∷ is) ps js e h x kx =
      elim (cases_lt i k) [
        | inl low ↦
            let out = leave_out js i (h.unit_column i (inl refl) low) in
            let none = unit_value i js low h.columns_differ (h.unit_column i (inl refl) low) (h.zero_sum i (inl refl)) in
            elim (left_out_cases out.1 x kx) [
              | inl same ↦ ap v (sym same) ∙ none
              | inr stays ↦
                  all_zero is ps out.0 (omega (arith, length-left_out out.1)) (met_unit i is ps js out.0 none out.1 h) x stays
            ]
        | inr high ↦ all_zero is (i ∷ ps) js (omega arith) (met_parity i is ps js high h) x kx
      ]

-- ---- the matrix of these rows

-- where an element stands
position_of : (xs : List ℕ) (x : ℕ) → Has xs x → (t : ℕ) × (t < length xs) × (get_or xs t 0 ≡ x)
position_of [] x h = absurd h
position_of (y ∷ ys) x (inl e) = (0, omega arith, e)
position_of (y ∷ ys) x (inr h) = let rest = position_of ys x h in (suc rest.0, omega (arith, rest.1), rest.2)

-- indices of which no two are equal
differ_from_pairs : (xs : List ℕ) → AllPairs (λ i j. i ≢ j) xs → Differ xs
differ_from_pairs [] h = tt
differ_from_pairs (x ∷ xs) h = (
  (λ k. let position = position_of xs x k in h 0 (suc position.0) 0 (omega arith) (omega (arith, position.1)) (sym position.2)),
  differ_from_pairs xs (λ i j d low high. h (suc i) (suc j) d (omega arith) (omega arith)),
)

-- before any row was looked at
nothing_met : (k : ℕ) (indices : List ℕ) (v : ℕ → ℕ) → length indices ≡ k → All (λ i. i < 256) indices → AllPairs (λ i j. i ≢ j) indices
    → ((t : ℕ) → t < k → row_sum k (matrix_entry k (generator_rows k indices) t) v ≡ 0) → IsReduced k indices [] (below k) v
nothing_met k indices v long bytes differ none = record {
  rows_differ = differ_from_pairs indices differ;
  parity_differ = tt;
  columns_differ = differ_below k;
  separate = λ i ki kp. kp;
  row_lt = λ i ki. let position = position_of indices i ki in subst (λ n. n < 256) position.2 (bytes position.0 0 position.1);
  parity_lt = λ p kp. absurd kp;
  parity = λ p kp. absurd kp;
  column_lt = λ x kx. below-lt k x kx;
  unit_column = λ i ki low. Has-below k i low;
  zero_sum = λ i ki.
      let position = position_of indices i ki in
      let within : position.0 < k = omega (arith, position.1) in
      sum_same (below k) _ _ (λ x kx. ap (λ n. product n (v x)) (ap (λ r. entry k r x) (sym position.2) ∙ sym (matrix_entry-generator_rows k indices position.0 x position.1 (below-lt k x kx))))
      ∙ sym (row_sum-over k (matrix_entry k (generator_rows k indices) position.0) v) ∙ none position.0 within;
  parity_zero_sum = λ p kp. absurd kp;
}

-- any k rows, no two of them the same
pub any_rows_independent : (k : ℕ) (indices : List ℕ) → k ≤ 256 → length indices ≡ k → All (λ i. i < 256) indices → AllPairs (λ i j. i ≢ j) indices → AreIndependent k (generator_rows k indices)
any_rows_independent k indices small long bytes differ column column_bytes column_long none j =
    elim (cases_lt j k) [
      | inl low ↦
          all_zero k (λ x. get_or column x 0) small column_bytes indices [] (below k) (omega (arith, length-below k))
          (nothing_met k indices (λ x. get_or column x 0) long bytes differ none) j (Has-below k j low)
      | inr high ↦ get_or_past column j 0 (omega arith)
    ]
