use Rattle.std.proofs.Common.{arith}
use Rattle.std.proofs.lemmas.Grind.{common_steps}
use Rattle.sw_ring.proofs.Earlier.{twice_step}
use Rattle.sw_ring.proofs.rules.twice.Goals as goal

pub returns-in-Some : goal.returns-in-Some
returns-in-Some c =
    let step = twice_step (λ row. row.items) c.args.rows.now c.loop-index.index c.index-rows-index.result c.loop-index-test.true c.index-rows-index.is in
    grind (arith, common_steps)

pub loop-index-preserved : goal.loop-index-preserved
loop-index-preserved c =
    let step = twice_step (λ row. row.items) c.args.rows.now c.loop-index.index c.index-rows-index.result c.loop-index-test.true c.index-rows-index.is in
    grind (arith, common_steps)
