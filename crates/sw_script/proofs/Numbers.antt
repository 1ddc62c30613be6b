-- Numbers and stamps that are spelled by words.
use Rattle.std.proofs.Common.{◌≡◌, ℕ, ◌/◌, ◌%◌, ◌^◌, ◌<◌, ◌≤◌, Bool, true, false, not, ◌&&◌, cond, nat_lt, List, length, take, drop, Option, Some, None, IfSome, refl, sym, subst, ap, ◌∙◌, arith}
use Rattle.std.specs.Cmp.Lexicographic.{bytes_decides}
use Rattle.std.specs.Fmt.{decimal}
use Rattle.std.specs.Str.Parse.{digits_value}
use Rattle.std.proofs.lemmas.Bool.Decides.{nat_tests}
use Rattle.std.proofs.lemmas.Fmt.{decimal_is_IsNumeral}
use Rattle.std.proofs.lemmas.List.{length-drop, take_all}
use Rattle.sw_types.specs.Stamp.{greatest_stamp, stamp_text}
use Rattle.sw_types.proofs.DigitsRead.{digits_value-last_digits, fraction_digits, length-stamp_text, seconds_digits}
use Rattle.sw_script.specs.Word.{is_word, number_of, stamp_of, units_in}

-- a value where a bound and a text hold, and a reader that answers exactly there
told_by : (bound : Bool) (same : Bool) (value : ℕ) (result : Option ℕ) → (bound ≡ true → same ≡ true → result ≡ Some value) → ((number : ℕ) → result ≡ Some number → (bound ≡ true) × (same ≡ true))
    → result ≡ cond (bound && same) (Some value) None
told_by true true value result reads found = reads refl refl
told_by true false value None reads found = refl
told_by true false value (Some number) reads found = let no = (found number refl).1 in absurd (cc)
told_by false same value None reads found = refl
told_by false same value (Some number) reads found = let no = (found number refl).0 in absurd (cc)

decimal_value : (word : List ℕ) (number : ℕ) → number < 2 ^ 64 → word ≡ decimal number → digits_value 10 word ≡ number
decimal_value word number small printed = ap (digits_value 10) printed ∙ (decimal_is_IsNumeral number small).1

below : (value : ℕ) → nat_lt value (2 ^ 64) ≡ true → value < 2 ^ 64
below value holds = grind (arith, nat_tests)

is_below : (value : ℕ) → value < 2 ^ 64 → nat_lt value (2 ^ 64) ≡ true
is_below value small = grind (arith, nat_tests)

some_holds : (P : ℕ → Type 0) (result : Option ℕ) (value : ℕ) → result ≡ Some value → IfSome result P → P value
some_holds P None value is holds = absurd (cc)
some_holds P (Some found) value is holds = let same : found ≡ value = cc in subst P same holds

number_tests : (word : List ℕ) (number : ℕ) → number < 2 ^ 64 → word ≡ decimal number → (nat_lt (digits_value 10 word) (2 ^ 64) ≡ true) × (is_word word (decimal (digits_value 10 word)) ≡ true)
number_tests word number small printed =
    let value = decimal_value word number small printed in (
      is_below (digits_value 10 word) (omega (arith, value, small)),
      (bytes_decides word (decimal (digits_value 10 word))).1 (printed ∙ ap decimal (sym value)),
    )

-- a reader that answers exactly at decimals gives the number of a word
pub number_read : (word : List ℕ) (result : Option ℕ) → IfSome result (λ number. number < 2 ^ 64) → IfSome result (λ number. word ≡ decimal number) → ((number : ℕ) → number < 2 ^ 64 → word ≡ decimal number → result ≡ Some number) → result ≡ number_of word
number_read word result small found reads =
    let value : ℕ = digits_value 10 word in
    told_by (nat_lt value (2 ^ 64)) (is_word word (decimal value)) value result
    (λ bound same. reads value (below value bound) ((bytes_decides word (decimal value)).0 same))
    (λ number is. number_tests word number (some_holds (λ n. n < 2 ^ 64) result number is small) (some_holds (λ n. word ≡ decimal n) result number is found))

units_value : (word : List ℕ) (stamp : ℕ) → stamp ≤ greatest_stamp → word ≡ stamp_text stamp → units_in word ≡ stamp
units_value word stamp within printed =
    let whole : digits_value 10 (take 10 word) ≡ stamp / 100000 = ap (digits_value 10) (seconds_digits word stamp printed) ∙ digits_value-last_digits 10 (stamp / 100000) (omega arith) in
    let long : length word ≡ 16 = ap length printed ∙ length-stamp_text stamp in
    let behind : take 5 (drop 11 word) ≡ drop 11 word = take_all 5 (drop 11 word) (simp length-drop (omega (arith, long))) in
    let fraction : digits_value 10 (drop 11 word) ≡ stamp % 100000 = ap (digits_value 10) (sym behind ∙ fraction_digits word stamp printed) ∙ digits_value-last_digits 5 (stamp % 100000) (omega arith) in
    omega (arith, whole, fraction)

within_greatest : (value : ℕ) → not (nat_lt greatest_stamp value) ≡ true → value ≤ greatest_stamp
within_greatest value holds = grind (arith, nat_tests)

is_within_greatest : (value : ℕ) → value ≤ greatest_stamp → not (nat_lt greatest_stamp value) ≡ true
is_within_greatest value within = grind (arith, nat_tests)

stamp_tests : (word : List ℕ) (stamp : ℕ) → stamp ≤ greatest_stamp → word ≡ stamp_text stamp → (not (nat_lt greatest_stamp (units_in word)) ≡ true) × (is_word word (stamp_text (units_in word)) ≡ true)
stamp_tests word stamp within printed =
    let value = units_value word stamp within printed in (
      is_within_greatest (units_in word) (omega (arith, value, within)),
      (bytes_decides word (stamp_text (units_in word))).1 (printed ∙ ap stamp_text (sym value)),
    )

-- a reader that answers exactly at the texts of stamps gives the stamp of a word
pub stamp_read : (word : List ℕ) (result : Option ℕ) → IfSome result (λ stamp. stamp ≤ greatest_stamp) → IfSome result (λ stamp. word ≡ stamp_text stamp) → ((stamp : ℕ) → stamp ≤ greatest_stamp → word ≡ stamp_text stamp → result ≡ Some stamp) → result ≡ stamp_of word
stamp_read word result sound found reads =
    let value : ℕ = units_in word in
    told_by (not (nat_lt greatest_stamp value)) (is_word word (stamp_text value)) value result
    (λ within same. reads value (within_greatest value within) ((bytes_decides word (stamp_text value)).0 same))
    (λ stamp is. stamp_tests word stamp (some_holds (λ s. s ≤ greatest_stamp) result stamp is sound) (some_holds (λ s. word ≡ stamp_text s) result stamp is found))
