-- Entries of the generator matrix, and its rows of some indices.
use Rattle.std.proofs.Common.{◌≡◌, ◌≢◌, ℕ, ◌*◌, ◌<◌, ◌≤◌, ◌==◌, nat_lt, List, length, get_or, refl, sym, subst, ◌∙◌, inl, inr, arith, bit_xor}
use Rattle.std.proofs.lemmas.Bool.{cases_Bool, cases_lt, lt-ltb, le-ltb, eq-eqb, ne_eqb}
use Rattle.std.proofs.lemmas.List.{get_or_past}
use Rattle.std.proofs.lemmas.List.FromFn.{length-map-range_with_len, get_or-map-range_with_len}
use Rattle.sw_words.specs.Bytes.{IsBytes}
use Rattle.sw_words.proofs.ByteLists.{IsBytes-flat_map}
use Rattle.sw_gf256.specs.Field.{inverse}
use Rattle.sw_gf256.proofs.FieldLaws.{inverse_lt}
use Rattle.sw_cauchy.specs.Linear.{matrix_entry}
use Rattle.sw_cauchy.specs.Matrix.{entry}
use Rattle.sw_cauchy.specs.Rows.{generator_row, generator_rows}
use Rattle.sw_cauchy.proofs.Parts.{length-parts, get_or-part}

-- ---- entries

-- an entry is an element
pub entry-lt : (k i j : ℕ) → entry k i j < 256
entry-lt k i j =
    elim (cases_Bool (nat_lt i k)) [
      | inl unit ↦ elim (cases_Bool (i == j)) [ inl here ↦ rw (unit, here) (omega arith) | inr away ↦ rw (unit, away) (omega arith) ]
      | inr parity ↦ rw parity (inverse_lt (bit_xor i j))
    ]

-- a unit row has zeros beside the diagonal
pub unit_entry : (k i j : ℕ) → i < k → j ≢ i → entry k i j ≡ 0
unit_entry k i j h other = rw (lt-ltb i k h, ne_eqb i j (λ e. other (sym e)))

-- and a one on it
pub unit_diagonal : (k i : ℕ) → i < k → entry k i i ≡ 1
unit_diagonal k i h = rw (lt-ltb i k h, eq-eqb i i refl)

-- the rows below are those of a Cauchy matrix
pub parity_entry : (k p j : ℕ) → k ≤ p → entry k p j ≡ inverse (bit_xor p j)
parity_entry k p j h = rw (le-ltb p k h)

-- ---- rows

-- a row has k entries
pub length-generator_row : (k i : ℕ) → length (generator_row k i) ≡ k
unfolding generator_row
length-generator_row k i = length-map-range_with_len (entry k i) 0 k

-- an entry of a row
pub get_or-generator_row : (k i j : ℕ) → j < k → get_or (generator_row k i) j 0 ≡ entry k i j
unfolding generator_row
get_or-generator_row k i j h = get_or-map-range_with_len (entry k i) 0 k j j 0 h (omega arith)

-- the rows of some indices have k entries each
pub length-generator_rows : (k : ℕ) (indices : List ℕ) → length (generator_rows k indices) ≡ length indices * k
length-generator_rows k indices = length-parts (generator_row k) k indices (length-generator_row k)

-- an entry of these rows
pub matrix_entry-generator_rows : (k : ℕ) (indices : List ℕ) (t j : ℕ) → t < length indices → j < k → matrix_entry k (generator_rows k indices) t j ≡ entry k (get_or indices t 0) j
matrix_entry-generator_rows k indices t j h l =
    get_or-part (generator_row k) k indices t j (length-generator_row k) h l ∙ get_or-generator_row k (get_or indices t 0) j l

-- each is an element
pub IsBytes-generator_rows : (k : ℕ) (indices : List ℕ) → IsBytes (generator_rows k indices)
IsBytes-generator_rows k indices =
    IsBytes-flat_map (generator_row k) indices (λ i j. elim (cases_lt j k) [
      | inl low ↦ subst (λ n. n < 256) (sym (get_or-generator_row k i j low)) (entry-lt k i j)
      | inr high ↦ subst (λ n. n < 256) (sym (get_or_past (generator_row k i) j 0 (omega (arith, length-generator_row k i)))) (omega arith)
    ])
