use Rattle.std.proofs.Common.{◌≡◌, ℕ, ◌<◌, ◌^◌, List, Option, Some, sym, subst, ap, ◌∙◌, arith}
use Rattle.std.specs.Fmt.{decimal}
use Rattle.std.specs.Str.Parse.{IsNumeral, digits_value}
use Rattle.std.proofs.lemmas.Fmt.{decimal_is_IsNumeral}
use Rattle.sw_types.proofs.decimal.read_decimal.Goals as goal

-- a decimal is read as its number
number : (text : List ℕ) (result : Option ℕ) (n : ℕ) → n < 2 ^ 64 → text ≡ decimal n → (IsNumeral 10 text → digits_value 10 text < 2 ^ 64 → result ≡ Some (digits_value 10 text)) → result ≡ Some n
number text result n fits printed reads =
    let numeral = decimal_is_IsNumeral n fits in
    let value = ap (digits_value 10) printed ∙ numeral.1 in
    reads (subst (IsNumeral 10) (sym printed) numeral.0) (omega (arith, value, fits)) ∙ ap (λ m. Some m) value

pub returns-in_err-number-clause-reads : goal.returns-in_err-number-clause-reads
returns-in_err-number-clause-reads c = λ n fits printed.
    let read = sym c.in_err-number.was ∙ number c.args.text.now c.number_of.result n fits printed c.number_of.ensures in absurd (cc)

pub returns-then-is_decimal-clause-reads : goal.returns-then-is_decimal-clause-reads
returns-then-is_decimal-clause-reads c = λ n fits printed. sym c.in_ok-number.was ∙ number c.args.text.now c.number_of.result n fits printed c.number_of.ensures

pub returns-else-is_decimal-clause-reads : goal.returns-else-is_decimal-clause-reads
returns-else-is_decimal-clause-reads c = λ n fits printed.
    let read = sym c.in_ok-number.was ∙ number c.args.text.now c.number_of.result n fits printed c.number_of.ensures in
    let same : c.in_ok-number.number ≡ n = cc in
    absurd (cc (c.is_decimal.ensures.1 (printed ∙ ap decimal (sym same))))
