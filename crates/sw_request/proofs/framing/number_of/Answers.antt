use Rattle.std.proofs.Common.{◌≡◌, ◌<◌, ◌^◌, ℕ, List, Result, Ok, Err, Some, None, true, subst, sym, ap, ◌∙◌, arith}
use denote.Bor.{Bor}
use Rattle.std.specs.Result.{MatchResult, result_ok}
use Rattle.std.specs.Str.{all_ascii_digits}
use Rattle.std.specs.Str.Parse.{ParsesUnsigned, digits_value}
use Rattle.std.proofs.lemmas.Fmt.{IsAscii-from_digits}
use Rattle.std.proofs.lemmas.Str.{IsUtf8-from_ascii}
use Rattle.std.proofs.lemmas.Str.Parse.{IsNumeralModel, numerals_by_value, tells_all_ascii_digits, digits_value_short, parse_gives}
use Rattle.sw_request.proofs.framing.number_of.Goals as goal

own : IsNumeralModel (λ digits. all_ascii_digits digits ≡ true) (digits_value 10)
own = numerals_by_value (λ digits. all_ascii_digits digits ≡ true) tells_all_ascii_digits

-- what is no text is not UTF-8
no_text : {T E U : Type 0} (P : T → Type 0) (Q : E → Type 0) (result : Result T E) → result_ok result ≡ None → MatchResult result P (λ error. ¬ U × Q error) → ¬ U
no_text P Q (Ok value) none cases = absurd (cc)
no_text P Q (Err error) none cases = cases.0

-- a text has its bytes
text_is : {E : Type 0} (U : Type 0) (N : E → Type 0) (result : Result (Bor (List ℕ)) E) (text : Bor (List ℕ)) (bytes : List ℕ) → result_ok result ≡ Some text → MatchResult result (λ s. (s.now ≡ bytes) × U) N → text.now ≡ bytes
text_is U N (Ok value) text bytes some cases = let same : value ≡ text = cc in ap (λ (s : Bor (List ℕ)). s.now) (sym same) ∙ cases.0
text_is U N (Err error) text bytes some cases = absurd (cc)

pub returns-in_err-text : goal.returns-in_err-text
returns-in_err-text c = λ digits some few.
    absurd (no_text _ _ c.from_utf8.result (sym c.ok.ensures.value ∙ c.in_err-text.was) c.from_utf8.ensures.cases (IsUtf8-from_ascii c.args.digits.now (IsAscii-from_digits c.args.digits.now (own.to c.args.digits.now digits))))

pub returns : goal.returns
returns c = λ digits some few.
    let text = text_is _ _ c.from_utf8.result c.in_ok-text.text c.args.digits.now (sym c.ok.ensures.value ∙ c.in_ok-text.was) c.from_utf8.ensures.cases in
    let short : digits_value 10 c.args.digits.now < 10 ^ 18 = digits_value_short own c.args.digits.now 18 digits few in
    c.ok-2.ensures.value
    ∙ ap result_ok (parse_gives own 64 c.args.digits.now c.parse.result (subst (λ bytes. ParsesUnsigned 64 10 bytes c.parse.result) text c.parse.ensures.value.0) digits some (omega (arith, short)))
