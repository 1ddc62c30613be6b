use Rattle.std.proofs.Common.{arith}
use Rattle.sw_cauchy.proofs.MatrixRows.{Added-from_above, Added-from_below}
use Rattle.std.proofs.lemmas.Nat.{row_fits}
use Rattle.sw_cauchy.proofs.inversion.add_row.Goals as goal

pub returns-then-source-target : goal.returns-then-source-target
returns-then-source-target c =
    let parts = c.split_at_mut-above.ensures in
    let fits = row_fits c.args.target c.args.k c.args.k c.args.k c.requires.target_within (omega arith) in
    Added-from_above c.args.k c.args.target c.args.source c.args.factor _ c.args.matrix.now _ _ c.mul_acc.new.dst
    parts.value parts.front_len (omega (arith, parts.back_len)) c.if-source-target.true (omega arith) c.mul_acc.ensures

pub returns-else-source-target : goal.returns-else-source-target
returns-else-source-target c =
    let parts = c.split_at_mut-above-else-source-target.ensures in
    let fits = row_fits c.args.source c.args.k c.args.k c.args.k c.requires.source_within (omega arith) in
    Added-from_below c.args.k c.args.target c.args.source c.args.factor _ c.args.matrix.now _ _ c.mul_acc-else-source-target.new.dst
    parts.value parts.front_len (omega (arith, parts.back_len)) (omega arith) (omega arith) c.mul_acc-else-source-target.ensures
