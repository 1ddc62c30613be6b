-- Digits that are written from the last to the first.
use Rattle.std.proofs.Common.{◌≡◌, ℕ, zero, suc, ◌+◌, ◌-◌, ◌/◌, ◌%◌, ◌<◌, ◌≤◌, List, [], ◌∷◌, ◌++◌, length, take, drop, set, refl, sym, ◌∙◌, ap, arith, append_assoc, append-nil, length-append, add-one}
use borrow.Rule.Slice.PartMut.{put_mid}
use Rattle.std.proofs.Math.ListN.{drop_of_length-le}
use Rattle.std.proofs.Math.Seq.{drop-length}
use Rattle.std.proofs.lemmas.List.{drop-set, take_at, drop_at, length-drop, length-take}
use Rattle.sw_types.specs.Decimal.{last_digits}
use Rattle.sw_types.specs.Stamp.{stamp_text}

-- the digit at a place is written, and the digits before it are still to come
written_at : (place rest : ℕ) (text : List ℕ) → place < length text → last_digits place (rest / 10) ++ drop place (set text place (48 + rest % 10)) ≡ last_digits (suc place) rest ++ drop (suc place) text
unfolding last_digits
written_at place rest text within =
    ap (λ digits. last_digits place (rest / 10) ++ digits) (drop-set text place (48 + rest % 10) within ∙ ap (λ n. (48 + rest % 10) ∷ drop n text) (add-one place))
    ∙ sym (append_assoc (last_digits place (rest / 10)) ((48 + rest % 10) ∷ []) (drop (suc place) text))

-- one digit more is written, before those from a place on
pub one_more_digit : (place rest : ℕ) (text : List ℕ) → 0 < place → place ≤ length text → last_digits (place - 1) (rest / 10) ++ drop (place - 1) (set text (place - 1) (48 + rest % 10)) ≡ last_digits place rest ++ drop place text
one_more_digit zero rest text positive within = absurd (omega arith)
one_more_digit (suc place) rest text positive within =
    let before : suc place - 1 ≡ place = omega arith in
    rw before (written_at place rest text (omega arith))

-- all digits are to come
pub digits_to_come : (digits text : List ℕ) → digits ++ drop (length text) text ≡ digits
digits_to_come digits text = ap (λ rest. digits ++ rest) (drop-length text) ∙ append-nil digits

-- none is to come
pub digits_written : (place rest : ℕ) (text digits : List ℕ) → place ≤ 0 → last_digits place rest ++ drop place text ≡ digits → text ≡ digits
unfolding last_digits
digits_written zero rest text digits end written = written
digits_written (suc place) rest text digits end written = absurd (omega arith)

pub length-last_digits : (count n : ℕ) → length (last_digits count n) ≡ count
unfolding last_digits
length-last_digits zero n = refl
length-last_digits (suc count) n =
    length-append (last_digits count (n / 10)) ((48 + n % 10) ∷ []) ∙ ap (λ k. k + 1) (length-last_digits count (n / 10)) ∙ add-one count

-- a text of ten digits, a point and five digits, written over sixteen points in two parts
around_point : (whole points fraction : List ℕ) → length whole ≡ 10 → length points ≡ 5 → put_mid 11 5 (whole ++ 46 ∷ points) fraction ≡ whole ++ 46 ∷ fraction
around_point whole points fraction ten five =
    let front : whole ++ 46 ∷ points ≡ (whole ++ 46 ∷ []) ++ points = sym (append_assoc whole (46 ∷ []) points) in
    let eleven : length (whole ++ 46 ∷ []) ≡ 11 = length-append whole (46 ∷ []) ∙ ap (λ n. n + 1) ten in
    let kept : take 11 (whole ++ 46 ∷ points) ≡ whole ++ 46 ∷ [] = ap (λ t. take 11 t) front ∙ take_at (whole ++ 46 ∷ []) points 11 eleven in
    let none : drop 5 (drop 11 (whole ++ 46 ∷ points)) ≡ [] = ap (λ t. drop 5 (drop 11 t)) front ∙ ap (λ t. drop 5 t) (drop_at (whole ++ 46 ∷ []) points 11 eleven) ∙ drop_of_length-le points {i = 5} (omega arith) in
    ap (λ t. t ++ (fraction ++ drop 5 (drop 11 (whole ++ 46 ∷ points)))) kept ∙ ap (λ t. (whole ++ 46 ∷ []) ++ (fraction ++ t)) none
    ∙ ap (λ t. (whole ++ 46 ∷ []) ++ t) (append-nil fraction) ∙ append_assoc whole (46 ∷ []) fraction

pub printed_stamp : (units : ℕ) (whole points fraction : List ℕ) → length points ≡ 5 → whole ≡ last_digits 10 (units / 100000) → fraction ≡ last_digits (length (take 5 (drop 11 (whole ++ 46 ∷ points)))) (units % 100000) → put_mid 11 5 (whole ++ 46 ∷ points) fraction ≡ stamp_text units
printed_stamp units whole points fraction five seconds below =
    let ten : length whole ≡ 10 = ap length seconds ∙ length-last_digits 10 (units / 100000) in
    let room : length (take 5 (drop 11 (whole ++ 46 ∷ points))) ≡ 5 = simp (length-take, length-drop, length-append) (omega arith) in
    let digits : fraction ≡ last_digits 5 (units % 100000) = below ∙ ap (λ n. last_digits n (units % 100000)) room in
    around_point whole points fraction ten five ∙ ap (λ t. t ++ 46 ∷ fraction) seconds ∙ ap (λ t. last_digits 10 (units / 100000) ++ 46 ∷ t) digits
