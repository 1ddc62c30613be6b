use Rattle.std.proofs.Common.{◌∙◌, ◌<◌, length, arith, ap}
use Rattle.sw_httpread.proofs.Pieces.{grew_more}
use Rattle.sw_httpread.proofs.body.fill.Goals as goal

pub filling-preserved : goal.filling-preserved
filling-preserved g c =
    let more = c.in_ok-read_more.ensures in
    let short : length c.filling.carry < c.args.size = omega (arith, c.filling-test.true, ap length c.as_slice.ensures) in
    record {
      grew = grew_more _ _ _ _ _ _ _ _ c.filling.invariant.grew short more.read;
      written = more.written ∙ c.filling.invariant.written;
      closed = more.closed ∙ c.filling.invariant.closed;
      quiet = omega (arith, more.counts.quiet (λ failed. cc));
    }
