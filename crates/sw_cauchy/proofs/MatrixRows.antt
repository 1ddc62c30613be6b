-- A row of a matrix is written as a part of the list.
use Rattle.std.proofs.Common.{◌≡◌, ◌≢◌, ℕ, ◌+◌, ◌-◌, ◌*◌, ◌<◌, ◌≤◌, List, ◌++◌, length, get_or, take, drop, sym, ap, ap₂, subst, ◌∙◌, inl, inr, arith, bit_xor}
use Rattle.std.proofs.lemmas.Bool.{cases_lt}
use Rattle.std.proofs.lemmas.Nat.{row_fits}
use Rattle.std.proofs.lemmas.List.{append_assoc, take-append-drop, length-take-le, length-drop, get_or_append_left, get_or-append-add, get_or-append_right, get_or-take, get_or-drop}
use borrow.Rule.Slice.PartMut.{put_mid}
use Rattle.sw_gf256.specs.Field.{product, plus_multiple}
use Rattle.sw_cauchy.specs.Linear.{matrix_entry}
use Rattle.sw_cauchy.specs.Elimination.{IsRowAdded, IsRowScaled}
use Rattle.sw_cauchy.proofs.Multiples.{length-plus_multiple, get_or-plus_multiple}

-- ---- the entries of a matrix that is given as a row, and what stands before and after it

-- an entry of the row
entry_in : (k row j : ℕ) (before items after : List ℕ) → length before ≡ row * k → j < length items → matrix_entry k (before ++ (items ++ after)) row j ≡ get_or items j 0
entry_in k row j before items after position within =
    ap (λ n. get_or (before ++ (items ++ after)) (n + j) 0) (sym position)
    ∙ get_or-append-add before (items ++ after) j 0 ∙ get_or_append_left items after 0 j within

-- an entry of another row does not depend on it
entry_beside : (k row i j : ℕ) (before items new after : List ℕ) → length before ≡ row * k → length items ≡ k → length new ≡ k → j < k → i ≢ row
    → matrix_entry k (before ++ (new ++ after)) i j ≡ matrix_entry k (before ++ (items ++ after)) i j
entry_beside k row i j before items new after position long new_long inside other =
    elim (cases_lt i row) [
      | inl low ↦
          let fits = row_fits i k row k low (omega arith) in
          get_or_append_left before (new ++ after) 0 (i * k + j) (omega arith) ∙ sym (get_or_append_left before (items ++ after) 0 (i * k + j) (omega arith))
      | inr high ↦
          let fits = row_fits row k i k (omega arith) (omega arith) in
          past new new_long (omega arith) ∙ sym (past items long (omega arith))
    ]
  where
    past : (xs : List ℕ) → length xs ≡ k → row * k + k ≤ i * k → get_or (before ++ (xs ++ after)) (i * k + j) 0 ≡ get_or after (i * k + j - row * k - k) 0
    past xs known fits =
        get_or-append_right before (xs ++ after) (row * k) (i * k + j) 0 position (omega arith)
        ∙ get_or-append_right xs after k (i * k + j - row * k) 0 known (omega arith)

-- a row was replaced by itself and a multiple of another
Added-from_parts : (k target source factor : ℕ) (old before items new after added : List ℕ) → old ≡ before ++ (items ++ after) → length before ≡ target * k → length items ≡ k → length added ≡ k
    → ((j : ℕ) → j < k → get_or added j 0 ≡ matrix_entry k old source j) → new ≡ plus_multiple items added factor → IsRowAdded k old (before ++ (new ++ after)) target source factor
Added-from_parts k target source factor old before items new after added parts position long added_long reads written = record {
  sum = λ j inside.
      entry_in k target j before new after position (omega (arith, new_long)) ∙ ap (λ xs. get_or xs j 0) written
      ∙ get_or-plus_multiple items added factor j (omega arith) (omega arith)
      ∙ ap₂ (λ x y. bit_xor x (product factor y)) (sym (ap (λ xs. matrix_entry k xs target j) parts ∙ entry_in k target j before items after position (omega arith))) (reads j inside);
  others = λ i j within inside other.
      entry_beside k target i j before items new after position long new_long inside other ∙ ap (λ xs. matrix_entry k xs i j) (sym parts);
}
  where
    new_long : length new ≡ k
    new_long = ap length written ∙ length-plus_multiple items added factor ∙ long

-- the row that is added stands above
pub Added-from_above : (k target source factor n : ℕ) (old above below new : List ℕ) → old ≡ above ++ below → length above ≡ target * k → k ≤ length below → source < target → n ≡ k
    → new ≡ plus_multiple (take k below) (take n (drop (source * k) above)) factor → IsRowAdded k old (above ++ (new ++ drop k below)) target source factor
Added-from_above k target source factor n old above below new parts position room order whole written =
    let fits = row_fits source k target k order (omega arith) in
    let rest : n ≤ length (drop (source * k) above) = omega (arith, length-drop (source * k) above) in
    Added-from_parts k target source factor old above (take k below) new (drop k below) (take n (drop (source * k) above))
    (parts ∙ ap (λ xs. above ++ xs) (sym (take-append-drop k below))) position (length-take-le k below room) (length-take-le n (drop (source * k) above) rest ∙ whole)
    (λ j inside. get_or-take n (drop (source * k) above) j 0 (omega arith) ∙ get_or-drop (source * k) above j 0
    ∙ sym (get_or_append_left above below 0 (source * k + j) (omega arith)) ∙ ap (λ xs. matrix_entry k xs source j) (sym parts)) written

-- the row that is added stands below
pub Added-from_below : (k target source factor n : ℕ) (old above below new : List ℕ) → old ≡ above ++ below → length above ≡ source * k → k ≤ length below → target < source → n ≡ k
    → new ≡ plus_multiple (take n (drop (target * k) above)) (take k below) factor → IsRowAdded k old (put_mid (target * k) n above new ++ below) target source factor
Added-from_below k target source factor n old above below new parts position room order whole written =
    let fits = row_fits target k source k order (omega arith) in
    let rest : n ≤ length (drop (target * k) above) = omega (arith, length-drop (target * k) above) in
    subst (λ xs. IsRowAdded k old xs target source factor)
    (sym (append_assoc before (new ++ after) below ∙ ap (λ xs. before ++ xs) (append_assoc new after below)))
    (Added-from_parts k target source factor old before (take n (drop (target * k) above)) new (after ++ below) (take k below)
    (parts ∙ ap (λ xs. xs ++ below) (sym (take-append-drop (target * k) above) ∙ ap (λ xs. before ++ xs) (sym (take-append-drop n (drop (target * k) above))))
    ∙ append_assoc before (take n (drop (target * k) above) ++ after) below ∙ ap (λ xs. before ++ xs) (append_assoc (take n (drop (target * k) above)) after below))
    (length-take-le (target * k) above (omega arith)) (length-take-le n (drop (target * k) above) rest ∙ whole) (length-take-le k below room)
    (λ j inside. get_or-take k below j 0 inside ∙ sym (get_or-append-add above below j 0)
    ∙ ap₂ (λ m xs. get_or xs (m + j) 0) position (sym parts)) written)
  where
    before : List ℕ
    before = take (target * k) above

    after : List ℕ
    after = drop n (drop (target * k) above)

-- a row was replaced by a multiple of itself
pub Scaled-from_parts : (k row factor n : ℕ) (old new : List ℕ) → length old ≡ k * k → row < k → n ≡ k → length new ≡ k
    → ((j : ℕ) → j < k → get_or new j 0 ≡ product factor (get_or (take n (drop (row * k) old)) j 0)) → IsRowScaled k old (put_mid (row * k) n old new) row factor
Scaled-from_parts k row factor n old new square inside whole new_long written = record {
  multiple = λ j h.
      entry_in k row j before new after position (omega arith) ∙ written j h
      ∙ ap (product factor) (get_or-take n (drop (row * k) old) j 0 (omega arith) ∙ get_or-drop (row * k) old j 0);
  others = λ i j within h other.
      entry_beside k row i j before items new after position long new_long h other ∙ ap (λ xs. matrix_entry k xs i j) parts;
}
  where
    before : List ℕ
    before = take (row * k) old

    items : List ℕ
    items = take n (drop (row * k) old)

    after : List ℕ
    after = drop n (drop (row * k) old)

    fits : row * k + k ≤ length old
    fits = omega (arith, row_fits row k k k inside (omega arith))

    position : length before ≡ row * k
    position = length-take-le (row * k) old (omega (arith, fits))

    long : length items ≡ k
    long = length-take-le n (drop (row * k) old) (omega (arith, fits, length-drop (row * k) old)) ∙ whole

    parts : before ++ (items ++ after) ≡ old
    parts = ap (λ xs. before ++ xs) (take-append-drop n (drop (row * k) old)) ∙ take-append-drop (row * k) old
