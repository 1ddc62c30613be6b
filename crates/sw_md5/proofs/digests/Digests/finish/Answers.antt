use Rattle.std.proofs.Common.{ap, ◌∙◌, arith}
use Rattle.md5.specs.Md5.{md5, digest_bytes}
use Rattle.sw_md5.proofs.Together.{digests_are}
use Rattle.sw_md5.proofs.digests.Digests.finish.Goals as goal

pub returns : goal.returns
unfolding md5
returns c = λ messages held.
    let all = c.loop-index.invariant.all in
    let count = c.pad.ensures.count in
    digests_are c.loop-index.digests messages (omega (arith, held.each)) (λ i low.
    c.loop-index.invariant.done i (omega (arith, held.each)) ∙ ap (λ h. digest_bytes h 4) (c.pad.ensures.states messages i held low))
