use Rattle.std.proofs.Common.{◌∙◌, arith, length}
use Rattle.std.proofs.lemmas.List.{length-set}
use Rattle.sw_types.specs.Decimal.{last_digits}
use Rattle.sw_types.proofs.Digits.{one_more_digit, digits_to_come, digits_written}
use Rattle.sw_types.proofs.decimal.write_digits.Goals as goal

pub loop-place-preserved : goal.loop-place-preserved
loop-place-preserved c = (
  simp length-set (omega arith),
  one_more_digit _ _ _ c.loop-place-test.true c.loop-place.invariant.0 ∙ c.loop-place.invariant.1,
)

pub returns : goal.returns
returns c = digits_written _ _ _ _ c.loop-place-test.false c.loop-place.invariant.1

pub loop-place-init : goal.loop-place-init
loop-place-init c = (omega arith, digits_to_come (last_digits (length c.args.text.now) c.args.number) c.args.text.now)
