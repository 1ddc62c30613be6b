use Rattle.std.proofs.Common.{arith}
use Rattle.sw_types.proofs.Pairs.{overall_step}
use Rattle.sw_types.proofs.head.overall.Goals as goal

pub loop-pair-preserved : goal.loop-pair-preserved
loop-pair-preserved c =
    let step = overall_step c.args.pairs.now c.loop-pair.pair-index c.pair-item.result c.loop-pair-test.true c.pair-item.is in
    record {
      sum = omega (arith, step);
      bound = omega arith;
    }
