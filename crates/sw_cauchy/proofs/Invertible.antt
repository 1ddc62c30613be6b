-- Independent rows have an inverse: the elimination on matrices that are made entry by entry, with a search for each pivot.
use Rattle.std.proofs.Common.{◌≡◌, ◌≢◌, ◌⊎◌, ℕ, zero, suc, ◌+◌, ◌-◌, ◌*◌, ◌/◌, ◌%◌, ◌<◌, ◌≤◌, ◌==◌, if◌then◌else◌, List, length, map, refl, sym, ap₂, subst, ◌∙◌, inl, inr, add-one, arith, bit_xor}
use Rattle.std.specs.List.{range_with_len}
use Rattle.std.proofs.lemmas.Bool.{cases_lt, cases_eq, cond_both, eq-eqb, ne_eqb}
use Rattle.std.proofs.lemmas.List.{get_or_past}
use Rattle.std.proofs.lemmas.List.FromFn.{length-map-range_with_len, get_or-map-range_with_len}
use Rattle.std.proofs.lemmas.Nat.{mul-add-lt, div-mul-add, mod-mul-add}
use Rattle.sw_words.specs.Bytes.{IsBytes}
use Rattle.sw_gf256.specs.Field.{product, inverse}
use Rattle.sw_gf256.proofs.FieldLaws.{product_lt, inverse_lt}
use Rattle.sw_cauchy.specs.Elimination.{HasUnitColumns, IsRowAdded, IsRowScaled, IsRowOperation}
use Rattle.sw_cauchy.specs.Linear.{matrix_entry, AreIndependent, IsInverse}
use Rattle.sw_cauchy.proofs.EliminationSteps.{Operation-filled, entry_filled, Operation-made_one, entry_made_one, Operation-cleared, entry_cleared, IsCleared, Cleared-none, Cleared-past, Cleared-more, IsEliminated, Eliminated-none, Eliminated-more, Eliminated-all}
use Rattle.sw_cauchy.proofs.FieldAlgebra.{xor_byte}
use Rattle.sw_cauchy.proofs.Inverses.{Undoes, undoes_both}
use Rattle.sw_cauchy.proofs.Pivot.{pivot_exists}
use Rattle.sw_cauchy.proofs.RowOperations.{Operation-none, Operation-after, unit_columns_more}

-- ---- matrices by their entries

-- the matrix of k rows and columns with these entries
matrix_of : ℕ → (ℕ → ℕ → ℕ) → List ℕ
matrix_of k entries = map (λ position. entries (position / k) (position % k)) (range_with_len 0 (k * k))

length-matrix_of : (k : ℕ) (entries : ℕ → ℕ → ℕ) → length (matrix_of k entries) ≡ k * k
unfolding matrix_of
length-matrix_of k entries = length-map-range_with_len _ 0 (k * k)

matrix_entry-matrix_of : (k : ℕ) (entries : ℕ → ℕ → ℕ) (i j : ℕ) → i < k → j < k → matrix_entry k (matrix_of k entries) i j ≡ entries i j
unfolding matrix_of
matrix_entry-matrix_of k entries i j hi hj =
    get_or-map-range_with_len (λ position. entries (position / k) (position % k)) 0 (k * k) (i * k + j) (i * k + j) 0 (mul-add-lt i k j k hi hj) (omega arith)
    ∙ ap₂ entries (div-mul-add i k j hj) (mod-mul-add i k j hj)

IsBytes-matrix_of : (k : ℕ) (entries : ℕ → ℕ → ℕ) → ((i j : ℕ) → entries i j < 256) → IsBytes (matrix_of k entries)
unfolding matrix_of
IsBytes-matrix_of k entries small position =
    elim (cases_lt position (k * k)) [
      | inl low ↦
          subst (λ n. n < 256) (sym (get_or-map-range_with_len (λ position. entries (position / k) (position % k)) 0 (k * k) position position 0 low (omega arith)))
          (small (position / k) (position % k))
      | inr high ↦ subst (λ n. n < 256) (sym (get_or_past (matrix_of k entries) position 0 (omega (arith, length-matrix_of k entries)))) (omega arith)
    ]

-- ---- a matrix with another row

abbrev with_row : ℕ → List ℕ → ℕ → (ℕ → ℕ) → List ℕ
with_row k matrix row entries = matrix_of k (λ i j. if i == row then entries j else matrix_entry k matrix i j)

entry_written : (k : ℕ) (matrix : List ℕ) (row : ℕ) (entries : ℕ → ℕ) (j : ℕ) → row < k → j < k → matrix_entry k (with_row k matrix row entries) row j ≡ entries j
entry_written k matrix row entries j within h = matrix_entry-matrix_of k _ row j within h ∙ rw (eq-eqb row row refl) refl

entry_kept : (k : ℕ) (matrix : List ℕ) (row : ℕ) (entries : ℕ → ℕ) (i j : ℕ) → i < k → j < k → i ≢ row → matrix_entry k (with_row k matrix row entries) i j ≡ matrix_entry k matrix i j
entry_kept k matrix row entries i j hi h other = matrix_entry-matrix_of k _ i j hi h ∙ rw (ne_eqb i row other) refl

IsBytes-with_row : (k : ℕ) (matrix : List ℕ) (row : ℕ) (entries : ℕ → ℕ) → ((j : ℕ) → entries j < 256) → IsBytes matrix → IsBytes (with_row k matrix row entries)
IsBytes-with_row k matrix row entries small bytes = IsBytes-matrix_of k _ (λ i j. cond_both (i == row) _ _ (λ n. n < 256) (λ e. small j) (λ e. bytes _))

-- a row with a multiple of another added to it
abbrev sums : ℕ → ℕ → ℕ → ℕ → List ℕ → ℕ → ℕ
sums k target source factor matrix j = bit_xor (matrix_entry k matrix target j) (product factor (matrix_entry k matrix source j))

IsRowAdded-sums : (k : ℕ) (matrix : List ℕ) (target source factor : ℕ) → target < k → IsRowAdded k matrix (with_row k matrix target (sums k target source factor matrix)) target source factor
IsRowAdded-sums k matrix target source factor within = record {
  sum = λ j h. entry_written k matrix target _ j within h;
  others = λ i j hi h other. entry_kept k matrix target _ i j hi h other;
}

-- a row multiplied
abbrev multiples : ℕ → ℕ → ℕ → List ℕ → ℕ → ℕ
multiples k row factor matrix j = product factor (matrix_entry k matrix row j)

IsRowScaled-multiples : (k : ℕ) (matrix : List ℕ) (row factor : ℕ) → row < k → IsRowScaled k matrix (with_row k matrix row (multiples k row factor matrix)) row factor
IsRowScaled-multiples k matrix row factor within = record {
  multiple = λ j h. entry_written k matrix row _ j within h;
  others = λ i j hi h other. entry_kept k matrix row _ i j hi h other;
}

-- ---- a matrix and a companion beside it

record Pair (k : ℕ) : Type 0 where
  current : List ℕ
  companion : List ℕ
  current_bytes : IsBytes current
  companion_bytes : IsBytes companion
  companion_square : length companion ≡ k * k

-- each with another row, made from its own
abbrev pair_with : (k : ℕ) → Pair k → ℕ → (entries : List ℕ → ℕ → ℕ) → ((matrix : List ℕ) → IsBytes matrix → (j : ℕ) → entries matrix j < 256) → Pair k
pair_with k pair row entries small = record {
  current = with_row k pair.current row (entries pair.current);
  companion = with_row k pair.companion row (entries pair.companion);
  current_bytes = IsBytes-with_row k pair.current row (entries pair.current) (small pair.current pair.current_bytes) pair.current_bytes;
  companion_bytes = IsBytes-with_row k pair.companion row (entries pair.companion) (small pair.companion pair.companion_bytes) pair.companion_bytes;
  companion_square = length-matrix_of k _;
}

abbrev pair_added : (k : ℕ) → Pair k → (target source factor : ℕ) → factor < 256 → Pair k
pair_added k pair target source factor low =
    pair_with k pair target (sums k target source factor) (λ matrix bytes j. xor_byte _ _ (bytes _) (product_lt factor _ low (bytes _)))

abbrev pair_scaled : (k : ℕ) → Pair k → (row factor : ℕ) → factor < 256 → Pair k
pair_scaled k pair row factor low = pair_with k pair row (multiples k row factor) (λ matrix bytes j. product_lt factor _ low (bytes _))

abbrev Operates : (k column : ℕ) → Pair k → Pair k → Type 0
Operates k column before after = IsRowOperation k column before.current before.companion after.current after.companion

-- ---- the elimination

-- the first rows, so many, are cleared beside the one on the diagonal
abbrev Cleared : (k column : ℕ) → Pair k → ℕ → Type 0
Cleared k column begin count = (end : Pair k) × IsCleared k column begin.current begin.companion end.current end.companion count

rows_cleared : (k column : ℕ) (begin : Pair k) (count : ℕ) → column < k → count ≤ k → matrix_entry k begin.current column column ≡ 1 → Cleared k column begin count
rows_cleared k column begin zero inside within one = (begin, Cleared-none k column begin.current begin.companion one)
rows_cleared k column begin (suc row) inside within one =
    let so_far = rows_cleared k column begin row inside (omega arith) one in
    let before = so_far.0 in
    let factor = matrix_entry k before.current row column in
    let after = pair_added k before row column factor (before.current_bytes _) in
    let in_range : row < k = omega arith in
    subst (Cleared k column begin) (add-one row)
    (elim (cases_eq row column) [
      | inl here ↦ (before, Cleared-past k column begin.current begin.companion before.current before.companion row here so_far.1)
      | inr apart ↦
          let added = IsRowAdded-sums k before.current row column factor in_range in
          let beside = IsRowAdded-sums k before.companion row column factor in_range in (
            after,
            Cleared-more k column begin.current begin.companion before.current before.companion after.current after.companion row inside apart so_far.1
                (Operation-cleared k column before.current after.current before.companion after.companion inside before.current_bytes before.companion_bytes row in_range apart added beside)
                (entry_cleared k column before.current after.current before.companion after.companion inside before.current_bytes before.companion_bytes row so_far.1.one added)
                (λ i hi other. added.others i column hi inside other) in_range,
          )
    ])

-- a row from the diagonal on, of as many as are looked at, whose entry is not zero, or none
abbrev HasPivot : ℕ → ℕ → List ℕ → ℕ → Type 0
HasPivot k column matrix count = (row : ℕ) × (column ≤ row) × (row < column + count) × (0 < matrix_entry k matrix row column)

search_pivot : (k column : ℕ) (matrix : List ℕ) (count : ℕ) → HasPivot k column matrix count ⊎ ((i : ℕ) → column ≤ i → i < column + count → matrix_entry k matrix i column ≡ 0)
search_pivot k column matrix zero = inr (λ i from to. absurd (omega arith))
search_pivot k column matrix (suc count) =
    elim (search_pivot k column matrix count) [
      | inl found ↦ inl (found.0, found.1, omega (arith, found.2), found.3)
      | inr none ↦
          elim (cases_lt 0 (matrix_entry k matrix (column + count) column)) [
            | inl pivot ↦ inl (column + count, omega arith, omega arith, pivot)
            | inr no_pivot ↦ inr (λ i from to. elim (cases_eq i (column + count)) [
              | inl last ↦ subst (λ n. matrix_entry k matrix n column ≡ 0) (sym last) (omega arith)
              | inr earlier ↦ none i from (omega arith)
            ])
          ]
    ]

pivot_row : (k column : ℕ) (matrix : List ℕ) → column < k → IsBytes matrix → AreIndependent k matrix → HasUnitColumns k matrix column
    → (row : ℕ) × (column ≤ row) × (row < k) × (0 < matrix_entry k matrix row column)
pivot_row k column matrix inside bytes independent unit =
    elim (search_pivot k column matrix (k - column)) [
      | inl found ↦ (found.0, found.1, omega (arith, found.2), found.3)
      | inr none ↦ absurd (pivot_exists k column matrix inside bytes unit (λ i from within. none i from (omega arith)) independent)
    ]

-- the entry on the diagonal is made other than zero
diagonal_filled : (k column : ℕ) (pair : Pair k) → column < k → AreIndependent k pair.current → HasUnitColumns k pair.current column
    → (filled : Pair k) × Operates k column pair filled × (0 < matrix_entry k filled.current column column)
diagonal_filled k column pair inside independent unit =
    elim (cases_lt 0 (matrix_entry k pair.current column column)) [
      | inl pivot ↦ (pair, Operation-none k column pair.current pair.companion, pivot)
      | inr none ↦
          let zero : matrix_entry k pair.current column column ≡ 0 = omega arith in
          let found = pivot_row k column pair.current inside pair.current_bytes independent unit in
          let filled = pair_added k pair column found.0 1 (omega arith) in
          let added = IsRowAdded-sums k pair.current column found.0 1 inside in
          let beside = IsRowAdded-sums k pair.companion column found.0 1 inside in (
            filled,
            Operation-filled k column pair.current filled.current pair.companion filled.companion inside pair.current_bytes pair.companion_bytes found.0 found.2 found.1 zero found.3 added beside,
            subst (λ n. 0 < n)
                (sym (entry_filled k column pair.current filled.current pair.companion filled.companion inside pair.current_bytes pair.companion_bytes found.0 zero added)) found.3,
          )
    ]

-- one more column is that of the unit matrix
column_eliminated : (k column : ℕ) (pair : Pair k) → column < k → AreIndependent k pair.current → HasUnitColumns k pair.current column
    → (after : Pair k) × Operates k column pair after × HasUnitColumns k after.current (column + 1)
column_eliminated k column pair inside independent unit =
    let step = diagonal_filled k column pair inside independent unit in
    let filled = step.0 in
    let scale = inverse (matrix_entry k filled.current column column) in
    let scaled = pair_scaled k filled column scale (inverse_lt (matrix_entry k filled.current column column)) in
    let multiple = IsRowScaled-multiples k filled.current column scale inside in
    let beside = IsRowScaled-multiples k filled.companion column scale inside in
    let one = entry_made_one k column filled.current scaled.current filled.companion scaled.companion inside filled.current_bytes filled.companion_bytes scale step.2 refl multiple in
    let cleared = rows_cleared k column scaled k inside (omega arith) one in
    let after = cleared.0 in
    let operation : Operates k column pair after =
    Operation-after k column pair.current pair.companion filled.current filled.companion after.current after.companion step.1
    (Operation-after k column filled.current filled.companion scaled.current scaled.companion after.current after.companion
    (Operation-made_one k column filled.current scaled.current filled.companion scaled.companion inside filled.current_bytes filled.companion_bytes scale step.2 refl multiple beside)
    cleared.1.operation) in
    (after, operation, unit_columns_more k column after.current inside (operation.unit_columns_kept unit) cleared.1.one cleared.1.cleared)

-- the first columns, so many, are those of the unit matrix
abbrev Eliminated : ℕ → List ℕ → ℕ → Type 0
Eliminated k matrix count = (pair : Pair k) × IsEliminated k matrix pair.current pair.companion count

columns_eliminated : (k : ℕ) (matrix : List ℕ) → IsBytes matrix → AreIndependent k matrix → (count : ℕ) → count ≤ k → Eliminated k matrix count
columns_eliminated k matrix bytes independent zero within =
    let unit = matrix_of k (λ i j. if i == j then 1 else 0) in
    let unit_bytes : IsBytes unit = IsBytes-matrix_of k _ (λ i j. cond_both (i == j) 1 0 (λ n. n < 256) (λ e. omega arith) (λ e. omega arith)) in (
      record { current = matrix; companion = unit; current_bytes = bytes; companion_bytes = unit_bytes; companion_square = length-matrix_of k _ },
      Eliminated-none k matrix unit (length-matrix_of k _) unit_bytes (λ i j hi hj. matrix_entry-matrix_of k _ i j hi hj) bytes independent,
    )
columns_eliminated k matrix bytes independent (suc column) within =
    let so_far = columns_eliminated k matrix bytes independent column (omega arith) in
    let before = so_far.0 in
    let step = column_eliminated k column before (omega arith) so_far.1.independent so_far.1.unit_columns in
    let after = step.0 in
    subst (Eliminated k matrix) (add-one column)
    (after, Eliminated-more k matrix before.current before.companion after.current after.companion column bytes so_far.1 step.1 step.2 after.companion_square after.companion_bytes)

-- so a matrix undoes independent rows, and has independent rows itself
undone_by : (k : ℕ) (matrix : List ℕ) → IsBytes matrix → AreIndependent k matrix
    → (inverse : List ℕ) × (length inverse ≡ k * k) × IsBytes inverse × AreIndependent k inverse × Undoes k (matrix_entry k inverse) (matrix_entry k matrix)
undone_by k matrix bytes independent =
    let all = columns_eliminated k matrix bytes independent k (omega arith) in
    let inverse = all.0.companion in (
      inverse,
      all.1.companion_square,
      all.1.companion_bytes,
      all.1.companion_independent,
      record {
        units = Eliminated-all k matrix all.0.current inverse all.1;
        inverse_bytes = λ i t. all.1.companion_bytes (i * k + t);
        matrix_bytes = λ t j. bytes (t * k + j);
      },
    )

-- and independent rows have an inverse, on both sides
pub independent_invertible : (k : ℕ) (matrix : List ℕ) → IsBytes matrix → AreIndependent k matrix
    → (inverse : List ℕ) × IsBytes inverse × (length inverse ≡ k * k) × IsInverse k inverse matrix × IsInverse k matrix inverse
independent_invertible k matrix bytes independent =
    let first = undone_by k matrix bytes independent in
    let second = undone_by k first.0 first.2 first.3 in
    (first.0, first.2, first.1, first.4.units, undoes_both k (matrix_entry k second.0) (matrix_entry k first.0) (matrix_entry k matrix) second.4 first.4)
