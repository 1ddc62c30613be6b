use Rattle.std.proofs.Common.{◌≡◌, arith, ap, sym, ◌∙◌}
use Rattle.sw_md5.specs.Side.{blocks_from}
use Rattle.sw_md5.proofs.BlockSteps.{blocks_from-none, blocks_from-more}
use Rattle.sw_md5.proofs.blocks.add_group.Goals as goal

pub loop-block-init : goal.loop-block-init
loop-block-init g c = λ j l within. c.load-state.ensures j l (omega arith) ∙ sym (blocks_from-none _ _ _)

pub loop-block-preserved : goal.loop-block-preserved
loop-block-preserved g c = λ j l within. blocks_from-more _ _ c.args.at c.loop-block.block _ _ (c.loop-block.invariant j l within) (c.add_block.ensures j l within)

pub returns-clause-within : goal.returns-clause-within
returns-clause-within g c = λ j l within.
    let done : c.loop-block.block ≡ c.args.blocks = omega arith in
    c.store.ensures.within j l within ∙ c.loop-block.invariant j l within ∙ ap (blocks_from _ _ c.args.at) done
