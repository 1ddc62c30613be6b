-- Different names of files have different texts.
use Rattle.std.proofs.Common.{◌≡◌, ℕ, zero, suc, ◌/◌, ◌%◌, ◌+◌, ◌^◌, ◌<◌, ◌≤◌, Bool, true, false, codes, List, [], ◌∷◌, ◌++◌, drop, length, take, refl, sym, ap, ◌∙◌, append_assoc, arith}
use Rattle.std.specs.Fmt.{decimal}
use Rattle.std.specs.Char.{digit_value}
use Rattle.std.specs.Str.Parse.{AllDigits}
use Rattle.std.proofs.lemmas.Fmt.{decimal_injective, decimal_is_IsNumeral}
use Rattle.std.proofs.lemmas.List.{drop_at, take_at}
use Rattle.sw_types.specs.Decimal.{last_digits}
use Rattle.sw_types.specs.Policy.{greatest_total}
use Rattle.sw_types.specs.Stamp.{greatest_stamp, stamp_text}
use Rattle.sw_hashpath.specs.FileName.{IsFileName, ending, file_name_text}
use Rattle.sw_hashpath.specs.declared.file_name.FileName.{FileName}
use Rattle.sw_hashpath.specs.declared.file_name.FileName.TheVariants.{Data, Tombstone}
use Rattle.sw_types.proofs.Digits.{length-last_digits}
use Rattle.sw_types.proofs.DigitsRead.{length-stamp_text}

-- two texts in parts of which the first are as long
parted : (a b c d : List ℕ) (n : ℕ) → length a ≡ n → length c ≡ n → a ++ b ≡ c ++ d → (a ≡ c) × (b ≡ d)
parted a b c d n first second same = (
  sym (take_at a b n first) ∙ ap (take n) same ∙ take_at c d n second,
  sym (drop_at a b n first) ∙ ap (drop n) same ∙ drop_at c d n second,
)

one_head : (a b : ℕ) (us vs : List ℕ) → a ∷ us ≡ b ∷ vs → (a ≡ b) × (us ≡ vs)
one_head a b us vs same =
    let head : a ≡ b = cc in
    let tail : us ≡ vs = cc in
    (head, tail)

one_number : (count m n : ℕ) → m < 10 ^ count → n < 10 ^ count → last_digits count m ≡ last_digits count n → m ≡ n
unfolding last_digits
one_number zero m n first second same = omega arith
one_number (suc count) m n first second same =
    let parts = parted (last_digits count (m / 10)) ((48 + m % 10) ∷ []) (last_digits count (n / 10)) ((48 + n % 10) ∷ []) count
    (length-last_digits count (m / 10)) (length-last_digits count (n / 10)) same in
    let front = one_number count (m / 10) (n / 10) (omega arith) (omega arith) parts.0 in
    let last = (one_head (48 + m % 10) (48 + n % 10) [] [] parts.1).0 in
    omega arith

one_stamp : (a b : ℕ) → a ≤ greatest_stamp → b ≤ greatest_stamp → stamp_text a ≡ stamp_text b → a ≡ b
one_stamp a b first second same =
    let parts = parted (last_digits 10 (a / 100000)) (46 ∷ last_digits 5 (a % 100000)) (last_digits 10 (b / 100000)) (46 ∷ last_digits 5 (b % 100000)) 10
    (length-last_digits 10 (a / 100000)) (length-last_digits 10 (b / 100000)) same in
    let seconds = one_number 10 (a / 100000) (b / 100000) (omega arith) (omega arith) parts.0 in
    let fraction = one_number 5 (a % 100000) (b % 100000) (omega arith) (omega arith) (one_head 46 46 _ _ parts.1).1 in
    omega arith

-- digits and what stands behind them, which begins with no digit
digits_parted : (xs ys : List ℕ) (c d : ℕ) (us vs : List ℕ) → AllDigits 10 xs → AllDigits 10 ys → 10 ≤ digit_value c → 10 ≤ digit_value d → xs ++ c ∷ us ≡ ys ++ d ∷ vs → (xs ≡ ys) × (c ∷ us ≡ d ∷ vs)
digits_parted [] [] c d us vs first second plain none same = (refl, same)
digits_parted [] (y ∷ ys) c d us vs first second plain none same =
    let head = ap digit_value (one_head c y us (ys ++ d ∷ vs) same).0 in absurd (omega (arith, head, second.0))
digits_parted (x ∷ xs) [] c d us vs first second plain none same =
    let head = ap digit_value (one_head x d (xs ++ c ∷ us) vs same).0 in absurd (omega (arith, head, first.0))
digits_parted (x ∷ xs) (y ∷ ys) c d us vs first second plain none same =
    let both = one_head x y (xs ++ c ∷ us) (ys ++ d ∷ vs) same in
    let rest = digits_parted xs ys c d us vs first.1 second.1 plain none both.1 in
    let front : x ∷ xs ≡ y ∷ ys = ap (λ h. h ∷ xs) both.0 ∙ ap (λ t. y ∷ t) rest.0 in
    (front, rest.1)

abbrev ending_head : Bool → ℕ
ending_head true = 35
ending_head false = 46

abbrev ending_tail : Bool → List ℕ
ending_tail true = codes "d.data"
ending_tail false = codes "data"

ending_is : (durable : Bool) → ending durable ≡ ending_head durable ∷ ending_tail durable
ending_is true = refl
ending_is false = refl

no_digit : (durable : Bool) → 10 ≤ digit_value (ending_head durable)
no_digit true = omega arith
no_digit false = omega arith

one_ending : (a b : Bool) → ending_head a ≡ ending_head b → a ≡ b
one_ending true true same = refl
one_ending true false same = absurd (omega arith)
one_ending false true same = absurd (omega arith)
one_ending false false same = refl

one_index : (i j : ℕ) (a b : Bool) → i < greatest_total → j < greatest_total → decimal i ++ ending a ≡ decimal j ++ ending b → (i ≡ j) × (a ≡ b)
one_index i j a b first second same =
    let cut = digits_parted (decimal i) (decimal j) (ending_head a) (ending_head b) (ending_tail a) (ending_tail b) (decimal_is_IsNumeral i (omega arith)).0.1 (decimal_is_IsNumeral j (omega arith)).0.1
    (no_digit a) (no_digit b) (ap (λ t. decimal i ++ t) (sym (ending_is a)) ∙ same ∙ ap (λ t. decimal j ++ t) (ending_is b)) in
    (decimal_injective i j (omega arith) (omega arith) cut.0, one_ending a b (one_head (ending_head a) (ending_head b) (ending_tail a) (ending_tail b) cut.1).0)

pub one_text : (a b : FileName) → IsFileName a → IsFileName b → file_name_text a ≡ file_name_text b → a ≡ b
one_text (Data s i a) (Data t j b) first second same =
    let parts = parted (stamp_text s) (35 ∷ decimal i ++ ending a) (stamp_text t) (35 ∷ decimal j ++ ending b) 16 (length-stamp_text s) (length-stamp_text t)
    (sym (append_assoc (stamp_text s) (35 ∷ decimal i) (ending a)) ∙ same ∙ append_assoc (stamp_text t) (35 ∷ decimal j) (ending b)) in
    let stamp = one_stamp s t first.0 second.0 parts.0 in
    let rest = one_index i j a b first.1 second.1 (one_head 35 35 (decimal i ++ ending a) (decimal j ++ ending b) parts.1).1 in
    ap (λ u. Data u i a) stamp ∙ ap (λ k. Data t k a) rest.0 ∙ ap (λ e. Data t j e) rest.1
one_text (Data s i a) (Tombstone t) first second same =
    let parts = parted (stamp_text s) (35 ∷ decimal i ++ ending a) (stamp_text t) (codes ".ts") 16 (length-stamp_text s) (length-stamp_text t)
    (sym (append_assoc (stamp_text s) (35 ∷ decimal i) (ending a)) ∙ same) in
    let head = (one_head 35 46 (decimal i ++ ending a) (codes "ts") parts.1).0 in
    absurd (omega arith)
one_text (Tombstone s) (Data t j b) first second same =
    let parts = parted (stamp_text s) (codes ".ts") (stamp_text t) (35 ∷ decimal j ++ ending b) 16 (length-stamp_text s) (length-stamp_text t)
    (same ∙ append_assoc (stamp_text t) (35 ∷ decimal j) (ending b)) in
    let head = (one_head 46 35 (codes "ts") (decimal j ++ ending b) parts.1).0 in
    absurd (omega arith)
one_text (Tombstone s) (Tombstone t) first second same =
    ap (λ u. Tombstone u) (one_stamp s t first second (parted (stamp_text s) (codes ".ts") (stamp_text t) (codes ".ts") 16 (length-stamp_text s) (length-stamp_text t) same).0)
