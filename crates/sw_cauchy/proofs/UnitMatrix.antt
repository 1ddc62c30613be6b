-- The unit matrix.
use Rattle.std.proofs.Common.{◌≡◌, ◌≢◌, ℕ, ◌+◌, ◌*◌, ◌<◌, if◌then◌else◌, List, length, get_or, set, replicate, sym, ap, subst, ◌∙◌, inl, inr, arith}
use Rattle.std.proofs.lemmas.Bool.{cases_lt, cases_eq, eq-eqb, ne_eqb}
use Rattle.std.proofs.lemmas.Nat.{mul-add-lt, same_from_place}
use Rattle.std.proofs.lemmas.List.{length-replicate, get_or_past, get_or-replicate, get_or-set_same, get_or-set_other}
use Rattle.sw_words.specs.Bytes.{IsBytes}
use Rattle.sw_cauchy.specs.Linear.{matrix_entry, AreIndependent}
use Rattle.sw_cauchy.specs.Elimination.{IsMatrixProduct, HasUnitColumns}
use Rattle.sw_cauchy.proofs.RowSums.{row_sum-unit}

-- zeros, and ones on the diagonal in the first rows
pub record HasUnitRows (k : ℕ) (matrix : List ℕ) (count : ℕ) : Type 0 where
  pub diagonal : (i : ℕ) → i < count → matrix_entry k matrix i i ≡ 1
  pub bytes : IsBytes matrix
  pub others : (i j : ℕ) → i < k → j < k → i ≢ j → matrix_entry k matrix i j ≡ 0

-- a matrix of zeros
pub UnitRows-none : (k : ℕ) → HasUnitRows k (replicate (k * k) 0) 0
UnitRows-none k = record {
  diagonal = λ i h. absurd (omega arith);
  bytes = λ position.
      elim (cases_lt position (k * k)) [
        | inl low ↦ omega (arith, get_or-replicate {A = ℕ} (k * k) position 0 0 low)
        | inr high ↦ omega (arith, get_or_past {X = ℕ} (replicate (k * k) 0) position 0 (omega (arith, length-replicate {A = ℕ} (k * k) 0)))
      ];
  others = λ i j hi hj other. get_or-replicate (k * k) (i * k + j) 0 0 (mul-add-lt i k j k hi hj);
}

-- one more row
pub UnitRows-more : (k : ℕ) (matrix : List ℕ) (row : ℕ) → row < k → length matrix ≡ k * k → HasUnitRows k matrix row → HasUnitRows k (set matrix (row * k + row) 1) (row + 1)
UnitRows-more k matrix row within square h = record {
  diagonal = λ i before.
      elim (cases_eq i row) [
        | inl e ↦ subst (λ n. matrix_entry k (set matrix (row * k + row) 1) n n ≡ 1) (sym e)
            (get_or-set_same matrix (row * k + row) 1 0 (omega (arith, mul-add-lt row k row k within within)))
        | inr other ↦
            get_or-set_other matrix (row * k + row) (i * k + i) 1 0 (λ e. other (same_from_place i i row row k (omega arith) within e).0)
            ∙ h.diagonal i (omega arith)
      ];
  bytes = λ position.
      elim (cases_eq position (row * k + row)) [
        | inl e ↦ subst (λ n. get_or (set matrix (row * k + row) 1) n 0 < 256) (sym e)
            (omega (arith, get_or-set_same {A = ℕ} matrix (row * k + row) 1 0 (omega (arith, mul-add-lt row k row k within within))))
        | inr other ↦ omega (arith, get_or-set_other {A = ℕ} matrix (row * k + row) position 1 0 other, h.bytes position)
      ];
  others = λ i j hi hj other.
      get_or-set_other matrix (row * k + row) (i * k + j) 1 0
      (λ e. let position = same_from_place i j row row k hj within e in other (position.0 ∙ sym position.1))
      ∙ h.others i j hi hj other;
}

-- all rows
pub UnitRows-all : (k : ℕ) (matrix : List ℕ) → HasUnitRows k matrix k → HasUnitColumns k matrix k
UnitRows-all k matrix h i j hi hj =
    elim (cases_eq i j) [
      | inl e ↦ subst (λ n. matrix_entry k matrix i n ≡ 1) e (h.diagonal i hi) ∙ sym (ap (λ b. if b then 1 else 0) (eq-eqb i j e))
      | inr other ↦ h.others i j hi hj other ∙ sym (ap (λ b. if b then 1 else 0) (ne_eqb i j other))
    ]

-- it leaves a matrix as it is
pub unit_product : (k : ℕ) (unit matrix : List ℕ) → HasUnitColumns k unit k → IsBytes matrix → IsMatrixProduct k unit matrix matrix
unit_product k unit matrix h bytes i j hi hj =
    row_sum-unit k i (matrix_entry k unit i) (λ t. matrix_entry k matrix t j) hi (λ t ht. h i t hi ht) (bytes _)

-- its rows are independent
pub unit_independent : (k : ℕ) (unit : List ℕ) → HasUnitColumns k unit k → AreIndependent k unit
unit_independent k unit h column column_bytes long none j =
    elim (cases_lt j k) [
      | inl low ↦ sym (row_sum-unit k j (matrix_entry k unit j) (λ t. get_or column t 0) low (λ t ht. h j t low ht) (column_bytes j)) ∙ none j low
      | inr high ↦ get_or_past column j 0 (omega arith)
    ]
