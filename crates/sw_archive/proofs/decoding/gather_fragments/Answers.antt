use Rattle.std.proofs.Common.{◌≡◌, ◌+◌, ◌-◌, take, drop, ap, ◌∙◌, arith}
use Rattle.sw_archive.proofs.Decodings.{gathered_more, others_before}
use Rattle.sw_archive.proofs.decoding.gather_fragments.Goals as goal

pub add-requires-clause-new : goal.add-requires-clause-new
add-requires-clause-new c =
    rw (c.index.ensures, c.loop-archive.invariant)
    (others_before c.args.offset c.fragment_width-width.result c.args.archives.now c.loop-archive.archive-index c.archive-item.result c.requires.laid_out.distinct c.loop-archive-test.true c.archive-item.is)

pub loop-archive-preserved : goal.loop-archive-preserved
loop-archive-preserved c =
    let width : c.args.offset + c.fragment_width-width.result - c.args.offset ≡ c.fragment_width-width.result = omega arith in
    gathered_more c.args.layout.code.k c.args.layout.code.m c.fragment_width-width.result c.args.offset c.args.archives.now c.loop-archive.archive-index c.archive-item.result c.loop-archive.gather c.add.new.self c.index.result _
    c.loop-archive.invariant c.add.ensures c.index.ensures
    (ap (λ n. take n (drop c.args.offset c.payload.result.now)) width ∙ ap (λ bytes. take c.fragment_width-width.result (drop c.args.offset bytes)) c.payload.ensures.payload) c.loop-archive-test.true c.archive-item.is
