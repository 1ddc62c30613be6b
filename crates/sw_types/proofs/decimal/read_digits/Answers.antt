use Rattle.std.proofs.Common.{◌+◌, ◌*◌, Some, length, take, refl, sym, ap, subst, arith}
use Rattle.sw_types.specs.Decimal.{last_digits}
use Rattle.sw_types.proofs.DigitsRead.{AreOf, digit_fits, digit_read, digits_read, each_digit, one_number}
use Rattle.sw_types.proofs.decimal.read_digits.Goals as goal
use Rattle.sw_types.proofs.decimal.read_digits.Goals.{After-loop-byte}

pub loop-byte-init : goal.loop-byte-init
unfolding last_digits
loop-byte-init c = (refl, omega arith)

pub returns-then-not-is_ascii_digit-clause-reads : goal.returns-then-not-is_ascii_digit-clause-reads
returns-then-not-is_ascii_digit-clause-reads c = λ number small are.
    let range = each_digit (length c.args.text.now) number c.args.text.now c.loop-byte.byte-index are c.loop-byte-test.true in
    absurd (omega (arith, range, c.if-not-is_ascii_digit.ensures.cases))

pub overflow_mul-number : goal.overflow_mul-number
overflow_mul-number c =
    let fits = digit_fits c.loop-byte.byte-index c.loop-byte.number 0 (omega (arith, c.requires, c.loop-byte-test.true)) c.loop-byte.invariant.1 (omega arith) in omega (arith, fits)

pub overflow_add-number : goal.overflow_add-number
overflow_add-number c =
    let fits = digit_fits c.loop-byte.byte-index c.loop-byte.number c.from.result (omega (arith, c.requires, c.loop-byte-test.true)) c.loop-byte.invariant.1 (omega (arith, c.from.ensures, c.if-not-is_ascii_digit.ensures.cases)) in
    omega (arith, fits)

pub loop-byte-preserved : goal.loop-byte-preserved
loop-byte-preserved c =
    let i = c.loop-byte.byte-index in
    let text = c.args.text.now in
    subst (λ d. AreOf (i + 1) (take (i + 1) text) (c.loop-byte.number * 10 + d)) (sym c.from.ensures)
    (digit_read text i c.loop-byte.number c.loop-byte-test.true c.if-not-is_ascii_digit.ensures.cases c.loop-byte.invariant)

whole : (c : After-loop-byte) → AreOf (length c.args.text.now) c.args.text.now c.loop-byte.number
whole c = digits_read c.args.text.now c.loop-byte.byte-index c.loop-byte.number (omega (arith, c.loop-byte-test.false, c.loop-byte.auto.byte-index-end)) c.loop-byte.invariant

pub returns-clause-found : goal.returns-clause-found
returns-clause-found c = whole c

pub returns-clause-reads : goal.returns-clause-reads
returns-clause-reads c = λ number small are. ap (λ n. Some n) (one_number (length c.args.text.now) c.args.text.now c.loop-byte.number number (whole c) (are, small))
