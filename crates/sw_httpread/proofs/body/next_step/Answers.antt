use Rattle.std.proofs.Common.{◌≡◌, ◌∙◌, ◌+◌, ◌<◌, length, length-append, ap, arith}
use Rattle.sw_httpread.proofs.Pieces.{grew_more}
use Rattle.sw_httpread.proofs.Standings.{most_undecided, stands_bound}
use Rattle.sw_httpread.proofs.body.next_step.Goals as goal

pub returns-then-branch-eq0-clause-grew : goal.returns-then-branch-eq0-clause-grew
returns-then-branch-eq0-clause-grew g c =
    let open_so_far = rw (c.in-Over-Open.is, c.in-Over-Open.field-0-is, c.as_slice.ensures) at c.in_ok-step.ensures in
    grew_more _ _ _ _ _ _ _ _ c.reading.invariant.grew open_so_far c.in_ok-read_more-in-Over-Open.ensures.read

pub reading-preserved : goal.reading-preserved
reading-preserved g c =
    let open_so_far = rw (c.in-Over-Open.is, c.in-Over-Open.field-0-is, c.as_slice.ensures) at c.in_ok-step.ensures in
    let more = c.in_ok-read_more-in-Over-Open.ensures in
    record {
      grew = grew_more _ _ _ _ _ _ _ _ c.reading.invariant.grew open_so_far more.read;
      written = more.written ∙ c.reading.invariant.written;
      closed = more.closed ∙ c.reading.invariant.closed;
      quiet = omega (arith, more.counts.quiet (λ failed. cc));
    }

pub reading-smaller : goal.reading-smaller
reading-smaller g c =
    let open_so_far = rw (c.in-Over-Open.is, c.in-Over-Open.field-0-is, c.as_slice.ensures) at c.in_ok-step.ensures in
    let read = c.in_ok-read_more-in-Over-Open.ensures.read in
    let bound : length c.reading.carry < most_undecided = stands_bound _ _ open_so_far in
    let grown : length c.read_more.new.self ≡ length c.reading.carry + c.in_ok-read_more-in-Over-Open.field-0 = omega (arith, ap length read.grown, length-append c.reading.carry read.piece, read.counted) in
    omega (arith, bound, grown, c.if-branch-eq0.false)
