use Rattle.std.proofs.Common.{◌≡◌, rules, arith, subst}
use Rattle.sw_words.specs.Bytes.{IsBytes}
use Rattle.sw_cauchy.proofs.EliminationSteps.{IsEliminated, Eliminated-none, Eliminated-more, Eliminated-all}
use Rattle.sw_cauchy.proofs.inversion.invert.Goals as goal

pub loop-column-init : goal.loop-column-init
loop-column-init c =
    let bytes : IsBytes c.args.matrix.now = search rules in
    let unit = c.write_unit_matrix.ensures in
    Eliminated-none c.args.k c.args.matrix.now c.write_unit_matrix.new.unit (omega arith) unit.bytes unit.unit bytes c.requires.independent

pub loop-column-preserved : goal.loop-column-preserved
loop-column-preserved c =
    let bytes : IsBytes c.args.matrix.now = search rules in
    Eliminated-more c.args.k c.args.matrix.now c.loop-column.matrix c.loop-column.inverse c.eliminate.new.current c.eliminate.new.companion c.loop-column.column bytes c.loop-column.invariant
    c.eliminate.ensures.operation c.eliminate.ensures.after (omega arith) c.eliminate.ensures.companion_bytes

pub returns-clause-inverse : goal.returns-clause-inverse
returns-clause-inverse c =
    let last : c.loop-column.column ≡ c.args.k = omega arith in
    Eliminated-all c.args.k c.args.matrix.now c.loop-column.matrix c.loop-column.inverse
    (subst (IsEliminated c.args.k c.args.matrix.now c.loop-column.matrix c.loop-column.inverse) last c.loop-column.invariant)
