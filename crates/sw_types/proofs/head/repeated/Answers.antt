use Rattle.std.proofs.Common.{◌∙◌, sym}
use Rattle.sw_types.proofs.Pairs.{repeat_step, repeat_found}
use Rattle.sw_types.proofs.head.repeated.Goals as goal

pub returns-then-has_name : goal.returns-then-has_name
returns-then-has_name c =
    sym (repeat_found c.args.pairs.now c.loop-position.position c.index-pairs-position.result c.loop-position-test.true c.index-pairs-position.is (sym c.has_name.ensures ∙ c.if-has_name.true))
    ∙ c.loop-position.invariant

pub loop-position-preserved : goal.loop-position-preserved
loop-position-preserved c =
    repeat_step c.args.pairs.now c.loop-position.position c.index-pairs-position.result c.loop-position-test.true c.index-pairs-position.is (sym c.has_name.ensures ∙ c.if-has_name.false)
    ∙ c.loop-position.invariant
