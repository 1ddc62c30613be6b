use Rattle.std.proofs.Common.{◌≤◌, ◌<◌, ◌^◌, sym, ◌∙◌, arith}
use Rattle.sw_command.proofs.Numbers.{converted, found}
use Rattle.sw_command.proofs.reading.number_of.Goals as goal

pub returns-clause-number : goal.returns-clause-number
returns-clause-number c =
    let number = c.in_ok-number.number in
    let within : number ≤ c.args.most = omega (arith, c.if-number-from.false, c.from.ensures) in
    c.ok.ensures.value ∙ converted c.try_from.result (number < 2 ^ 32) number c.try_from.ensures (omega (arith, within, c.ranges.most.fits)) ∙ sym (found c.args.most c.args.text.now number (omega (arith, within, c.ranges.most.fits)) (c.in_ok-number.ensures.found) (omega (arith, c.if-number-lt1.false)) within)
