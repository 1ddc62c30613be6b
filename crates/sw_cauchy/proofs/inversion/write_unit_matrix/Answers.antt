use Rattle.std.proofs.Common.{◌≡◌, ◌*◌, arith, replicate, ap, subst, sym, ◌∙◌}
use Rattle.sw_cauchy.proofs.UnitMatrix.{HasUnitRows, UnitRows-none, UnitRows-more, UnitRows-all}
use Rattle.sw_cauchy.proofs.inversion.write_unit_matrix.Goals as goal

pub loop-row-init : goal.loop-row-init
loop-row-init c =
    let k = c.args.k in
    let zeros : c.fill.new.self ≡ replicate (k * k) 0 = c.fill.ensures.after (λ y e. e) ∙ ap (λ n. replicate n 0) c.requires.square in
    subst (λ xs. HasUnitRows k xs 0) (sym zeros) (UnitRows-none k)

pub loop-row-preserved : goal.loop-row-preserved
loop-row-preserved c =
    UnitRows-more c.args.k c.loop-row.unit c.loop-row.row c.loop-row-test.true (omega arith) c.loop-row.invariant

pub returns-clause-unit : goal.returns-clause-unit
returns-clause-unit c =
    let last : c.loop-row.row ≡ c.args.k = omega arith in
    UnitRows-all c.args.k c.loop-row.unit (subst (HasUnitRows c.args.k c.loop-row.unit) last c.loop-row.invariant)
