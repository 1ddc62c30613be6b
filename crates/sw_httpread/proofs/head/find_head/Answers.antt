use Rattle.std.proofs.Common.{◌∙◌, arith}
use Rattle.sw_httpread.proofs.Pieces.{grew_more}
use Rattle.sw_httpread.proofs.head.find_head.Goals as goal

pub reading-preserved : goal.reading-preserved
reading-preserved g c =
    let more = c.in_ok-read_more-in-Unended.ensures in
    record {
      grew = grew_more _ _ _ _ _ _ _ _ c.reading.invariant.grew (rw c.as_slice.ensures at c.in-Unended.ensures) more.read;
      written = more.written ∙ c.reading.invariant.written;
      closed = more.closed ∙ c.reading.invariant.closed;
      quiet = omega (arith, more.counts.quiet (λ failed. cc));
    }
