use Rattle.std.proofs.Common.{ap, ◌∙◌, arith}
use Rattle.md5.specs.Md5.{rounds, block_words}
use Rattle.sw_md5.proofs.compress.four_steps.Goals as goal

pub returns : goal.returns
returns g c = λ j h block l has held.
    let after = rounds h (block_words block 16) in
    let s1 = c.step-s.ensures j h block l has held in
    let s2 = c.step-s-2.ensures j h block l has s1 in
    let s3 = c.step-s-3.ensures j h block l has (s2 ∙ ap after (omega arith)) in
    c.step.ensures j h block l has (s3 ∙ ap after (omega arith)) ∙ ap after (omega arith)
