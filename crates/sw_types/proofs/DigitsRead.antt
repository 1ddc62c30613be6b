-- Digits that are read.
use Rattle.std.proofs.Common.{◌≡◌, ℕ, zero, suc, ◌+◌, ◌-◌, ◌*◌, ◌/◌, ◌%◌, ◌^◌, ◌<◌, ◌≤◌, ◌==◌, cond, false, List, [], ◌∷◌, ◌++◌, length, get_or, take, drop, Result, Ok, Err, refl, sym, ◌∙◌, ap, subst, arith, add-one, append_assoc, length-append}
use Rattle.std.specs.Str.Parse.{AllDigits, IsNumeral, ParsesUnsigned, digits_value, without_leading_plus}
use Rattle.std.specs.Char.{digit_value}
use Rattle.std.specs.Int.{IsInRange}
use Rattle.std.proofs.Math.Nat.{pow-le-pow_right, pow-succ'}
use Rattle.std.proofs.lemmas.Bool.Decides.{nat_tests}
use Rattle.std.proofs.lemmas.List.{drop_at, drop_more, get_or_at, length-drop, length-take-le, take_all, take_at, take_more, take-append-drop}
use Rattle.std.proofs.lemmas.Int.Digits.{digits_value_push}
use Rattle.std.proofs.lemmas.Str.{digit_value_digit}
use Rattle.std.proofs.lemmas.Str.Parse.{digit_from_value, numerals_by_value, tells_by_index}
use Rattle.sw_types.specs.Decimal.{last_digits}
use Rattle.sw_types.specs.Stamp.{greatest_stamp, stamp_text}
use Rattle.sw_types.proofs.Digits.{length-last_digits}

digit : (d : ℕ) → d < 10 → digit_value (48 + d) ≡ d
digit d small = let same = digit_value_digit (48 + d) (omega arith, omega arith) in omega (arith, same)

last_digit : (n : ℕ) → digit_value (48 + n % 10) ≡ n % 10
last_digit n = digit (n % 10) (omega arith)

AllDigits-push : (digits : List ℕ) (c : ℕ) → AllDigits 10 digits → digit_value c < 10 → AllDigits 10 (digits ++ c ∷ [])
AllDigits-push [] c all small = (small, tt)
AllDigits-push (first ∷ rest) c all small = (all.0, AllDigits-push rest c all.1 small)

AllDigits-last_digits : (count n : ℕ) → AllDigits 10 (last_digits count n)
unfolding last_digits
AllDigits-last_digits zero n = tt
AllDigits-last_digits (suc count) n = AllDigits-push (last_digits count (n / 10)) (48 + n % 10) (AllDigits-last_digits count (n / 10)) (omega (arith, last_digit n))

-- the digits write the number
pub digits_value-last_digits : (count n : ℕ) → n < 10 ^ count → digits_value 10 (last_digits count n) ≡ n
unfolding last_digits
digits_value-last_digits zero n small = omega arith
digits_value-last_digits (suc count) n small =
    digits_value_push 10 (last_digits count (n / 10)) (48 + n % 10)
    ∙ ap (λ front. front * 10 + digit_value (48 + n % 10)) (digits_value-last_digits count (n / 10) (omega arith)) ∙ omega (arith, last_digit n)

-- digits have no plus in front
no_plus : (digits : List ℕ) → AllDigits 10 digits → without_leading_plus digits ≡ digits
no_plus [] all = refl
no_plus (c ∷ rest) all =
    let range = digit_from_value c all.0 in
    let other : (c == 43) ≡ false = grind (arith, nat_tests, range) in
    ap (λ plus. drop (cond plus 1 0) (c ∷ rest)) other

-- what std reads of a numeral
pub parsed : {E : Type 0} (digits : List ℕ) (result : Result ℕ E) → IsNumeral 10 digits → digits_value 10 digits < 2 ^ 64 → ParsesUnsigned 64 10 digits result → result ≡ Ok (digits_value 10 digits)
parsed digits (Ok m) numeral fits parses = ap Ok (parses.1 ∙ ap (digits_value 10) (no_plus digits numeral.1))
parsed digits (Err error) numeral fits parses = absurd (parses (rw (no_plus digits numeral.1) (numeral, fits)))

-- ---- digits that are read one after the other

-- the digits are the last ones of a number that has no more
abbrev pub AreOf : ℕ → List ℕ → ℕ → Type 0
AreOf count digits number = (digits ≡ last_digits count number) × (number < 10 ^ count)

-- no two numbers have them
pub one_number : (count : ℕ) (digits : List ℕ) (m n : ℕ) → AreOf count digits m → AreOf count digits n → m ≡ n
one_number count digits m n first second =
    sym (digits_value-last_digits count m first.1) ∙ ap (digits_value 10) (sym first.0 ∙ second.0) ∙ digits_value-last_digits count n second.1

-- each of them is a digit
pub each_digit : (count number : ℕ) (text : List ℕ) (i : ℕ) → text ≡ last_digits count number → i < length text → IsInRange 48 57 (get_or text i 0)
each_digit count number text i are within = (numerals_by_value _ tells_by_index).from text (subst (AllDigits 10) (sym are) (AllDigits-last_digits count number)) i within

-- one digit behind them makes them those of a number ten times as great, and the digit
one_more : (count number c : ℕ) (digits : List ℕ) → IsInRange 48 57 c → AreOf count digits number → AreOf (count + 1) (digits ++ c ∷ []) (number * 10 + (c - 48))
unfolding last_digits
one_more count number c digits range are =
    let next = number * 10 + (c - 48) in
    let front : number ≡ next / 10 = omega (arith, range) in
    let last : c ≡ 48 + next % 10 = omega (arith, range) in (
      ap (λ t. t ++ c ∷ []) are.0 ∙ ap (λ n. last_digits count n ++ c ∷ []) front ∙ ap (λ d. last_digits count (next / 10) ++ d ∷ []) last ∙ ap (λ n. last_digits n next) (sym (add-one count)),
      omega (arith, range, are.1, ap (λ n. 10 ^ n) (add-one count) ∙ pow-succ' 10 count),
    )

-- a digit more of a text is read
pub digit_read : (text : List ℕ) (i number : ℕ) → i < length text → IsInRange 48 57 (get_or text i 0) → AreOf i (take i text) number → AreOf (i + 1) (take (i + 1) text) (number * 10 + (get_or text i 0 - 48))
digit_read text i number within range are =
    let next = number * 10 + (get_or text i 0 - 48) in
    subst (λ digits. AreOf (i + 1) digits next) (sym (take_more text i 0 within)) (one_more i number (get_or text i 0) (take i text) range are)

-- all of a text's digits, as many as it is long
pub as_long : (count number : ℕ) (digits : List ℕ) → AreOf count digits number → AreOf (length digits) digits number
as_long count number digits are = subst (λ n. AreOf n digits number) (sym (ap length are.0 ∙ length-last_digits count number)) are

as_many : (count number : ℕ) (digits : List ℕ) → length digits ≡ count → AreOf (length digits) digits number → AreOf count digits number
as_many count number digits long are = subst (λ n. AreOf n digits number) long are

-- all are read
pub digits_read : (text : List ℕ) (i number : ℕ) → i ≡ length text → AreOf i (take i text) number → AreOf (length text) text number
digits_read text i number all are = subst (λ digits. AreOf (length text) digits number) (take_all (length text) text (omega arith)) (subst (λ n. AreOf n (take n text) number) all are)

-- a number of few digits has room for one more
pub digit_fits : (count number d : ℕ) → count < 15 → number < 10 ^ count → d < 10 → number * 10 + d < 2 ^ 64
digit_fits count number d few small one =
    let bound : 10 ^ count ≤ 10 ^ 14 = pow-le-pow_right (omega arith) {i = count} {j = 14} (omega arith) in omega (arith, bound, small, one)

-- ---- the text of a stamp

-- the digits of its seconds and of its fraction
pub seconds_digits : (text : List ℕ) (stamp : ℕ) → text ≡ stamp_text stamp → take 10 text ≡ last_digits 10 (stamp / 100000)
seconds_digits text stamp printed =
    ap (take 10) printed ∙ take_at (last_digits 10 (stamp / 100000)) (46 ∷ last_digits 5 (stamp % 100000)) 10 (length-last_digits 10 (stamp / 100000))

pub fraction_digits : (text : List ℕ) (stamp : ℕ) → text ≡ stamp_text stamp → take 5 (drop 11 text) ≡ last_digits 5 (stamp % 100000)
fraction_digits text stamp printed =
    let front = last_digits 10 (stamp / 100000) in
    let back = last_digits 5 (stamp % 100000) in
    let eleven : length (front ++ 46 ∷ []) ≡ 11 = length-append front (46 ∷ []) ∙ ap (λ n. n + 1) (length-last_digits 10 (stamp / 100000)) in
    let behind : drop 11 text ≡ back = ap (drop 11) (printed ∙ sym (append_assoc front (46 ∷ []) back)) ∙ drop_at (front ++ 46 ∷ []) back 11 eleven in
    let five : length back ≡ 5 = length-last_digits 5 (stamp % 100000) in
    ap (take 5) behind ∙ take_all 5 back (omega (arith, five))

pub length-stamp_text : (stamp : ℕ) → length (stamp_text stamp) ≡ 16
length-stamp_text stamp =
    let ten = length-last_digits 10 (stamp / 100000) in
    let five = length-last_digits 5 (stamp % 100000) in
    length-append (last_digits 10 (stamp / 100000)) (46 ∷ last_digits 5 (stamp % 100000)) ∙ omega (arith, ten, five)

-- its seconds and its fraction are read from it
pub seconds_are : (text : List ℕ) (stamp : ℕ) → stamp ≤ greatest_stamp → text ≡ stamp_text stamp → AreOf 10 (take 10 text) (stamp / 100000)
seconds_are text stamp within printed = (seconds_digits text stamp printed, omega arith)

pub fraction_is : (text : List ℕ) (stamp : ℕ) → text ≡ stamp_text stamp → AreOf 5 (take 5 (drop 11 text)) (stamp % 100000)
fraction_is text stamp printed = (fraction_digits text stamp printed, omega arith)

pub point_is : (text : List ℕ) (stamp : ℕ) → text ≡ stamp_text stamp → get_or text 10 0 ≡ 46
point_is text stamp printed =
    let front = last_digits 10 (stamp / 100000) in
    ap (λ t. get_or t 10 0) printed ∙ get_or_at front 46 (last_digits 5 (stamp % 100000)) 0 10 (length-last_digits 10 (stamp / 100000))

-- a text in three parts
in_parts : (text : List ℕ) (i k : ℕ) → length text ≡ i + 1 + k → text ≡ take i text ++ get_or text i 0 ∷ take k (drop (i + 1) text)
in_parts text i k long =
    let rest = drop (i + 1) text in
    sym (take-append-drop i text) ∙ ap (λ t. take i text ++ t) (drop_more text i 0 (omega (arith, long)))
    ∙ ap (λ t. take i text ++ get_or text i 0 ∷ t) (sym (take_all k rest (omega (arith, long, length-drop (i + 1) text))))

stamp_of_digits : (text : List ℕ) (seconds fraction : ℕ) → length text ≡ 16 → get_or text 10 0 ≡ 46 → AreOf 10 (take 10 text) seconds → AreOf 5 (take 5 (drop 11 text)) fraction → text ≡ stamp_text (seconds * 100000 + fraction)
stamp_of_digits text seconds fraction long point front back =
    let units = seconds * 100000 + fraction in
    let whole : seconds ≡ units / 100000 = omega (arith, back.1) in
    let part : fraction ≡ units % 100000 = omega (arith, back.1) in
    in_parts text 10 5 long ∙ ap (λ c. take 10 text ++ c ∷ take 5 (drop 11 text)) point
    ∙ ap (λ t. t ++ 46 ∷ take 5 (drop 11 text)) (front.0 ∙ ap (last_digits 10) whole) ∙ ap (λ t. last_digits 10 (units / 100000) ++ 46 ∷ t) (back.0 ∙ ap (last_digits 5) part)

part_long : (text : List ℕ) (i k : ℕ) → i + k ≤ length text → length (take k (drop i text)) ≡ k
part_long text i k within = length-take-le k (drop i text) (omega (arith, within, length-drop i text))

-- a text that has a stamp's parts is the stamp's
pub stamp_of_parts : (text : List ℕ) (seconds fraction : ℕ) → length text ≡ 16 → get_or text 10 0 ≡ 46 → AreOf (length (take 10 text)) (take 10 text) seconds → AreOf (length (take 5 (drop 11 text))) (take 5 (drop 11 text)) fraction → text ≡ stamp_text (seconds * 100000 + fraction)
stamp_of_parts text seconds fraction long point whole part = stamp_of_digits text seconds fraction long point
    (as_many 10 seconds (take 10 text) (part_long text 0 10 (omega (arith, long))) whole)
    (as_many 5 fraction (take 5 (drop 11 text)) (part_long text 11 5 (omega (arith, long))) part)
