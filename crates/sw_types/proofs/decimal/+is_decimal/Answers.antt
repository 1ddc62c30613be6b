use Rattle.std.proofs.Common.{arith, ap, sym, ◌∙◌, length, eqb-true}
use Rattle.std.proofs.lemmas.Bool.Decides.{Decides-eqb}
use Rattle.std.proofs.lemmas.Fmt.{decimal_digit, decimal_nonempty}
use Rattle.std.proofs.lemmas.Slice.Eq.{slice_eq-Decides}
use Rattle.sw_types.proofs.Decimals.{decimal_pushed}
use Rattle.sw_types.proofs.decimal.+is_decimal.Goals as goal

pub returns-then-number-lt10 : goal.returns-then-number-lt10
returns-then-number-lt10 t c =
    let same = slice_eq-Decides Decides-eqb _ _ _ c.eq.ensures in
    let one = c.as_slice.ensures ∙ sym (decimal_digit c.args.number c.if-number-lt10.true) in
    (λ yes. same.0 yes ∙ one, λ printed. same.1 (printed ∙ sym one))

pub returns-in_default : goal.returns-in_default
returns-in_default t c =
    let some = decimal_nonempty c.args.number (omega arith) in
    (λ no. cc, λ printed. absurd (omega (arith, ap length printed, c.in_default.ensures.cases)))

pub returns-then-last-number : goal.returns-then-last-number
returns-then-last-number t c =
    let pushed = decimal_pushed c.args.number c.in-Some.front.now c.in-Some.last.now c.if-number-lt10.false (omega arith) in (
      λ yes. c.in-Some.ensures.cases.0 ∙ pushed.1 (c.is_decimal.ensures.0 yes, c.if-last-number.true),
      λ printed. c.is_decimal.ensures.1 (pushed.0 (sym c.in-Some.ensures.cases.0 ∙ printed)).0,
    )

pub returns-else-last-number : goal.returns-else-last-number
returns-else-last-number t c =
    let pushed = decimal_pushed c.args.number c.in-Some.front.now c.in-Some.last.now c.if-number-lt10.false (omega arith) in (
      λ yes. absurd (c.if-last-number.false (eqb-true _ _ yes)),
      λ printed. absurd (c.if-last-number.false (pushed.0 (sym c.in-Some.ensures.cases.0 ∙ printed)).1),
    )
