use Rattle.std.proofs.lemmas.Result.{err_from_is_err_and}
use Rattle.sw_httpread.proofs.Takes.{reads_last, reads_bad, reads_too_large, reads_cut, reads_err}
use Rattle.sw_httpread.proofs.body.read_chunked.Goals as goal

pub returns-in_err-count-clause-reads : goal.returns-in_err-count-clause-reads
returns-in_err-count-clause-reads g c =
    let p = err_from_is_err_and c.from_residual.result c.from_residual.ensures.1 in
    rw p.1 (reads_err _ _ _ _ _ _ c.in_err-count.ensures.took (λ same. c.in_err-count.ensures.failed (cc (p.2, same))))

pub returns-in-Last-clause-reads : goal.returns-in-Last-clause-reads
returns-in-Last-clause-reads g c =
    let found = rw c.in-Last.is at c.in_ok-count.ensures.found in
    rw c.use_front.ensures (reads_last _ _ _ _ _ _ c.in_ok-count.ensures.took found.1)

pub returns-in-Bad-clause-reads : goal.returns-in-Bad-clause-reads
returns-in-Bad-clause-reads g c = reads_bad _ _ _ _ _ c.in_ok-count.ensures.took (rw c.in-Bad.is at c.in_ok-count.ensures.found)

pub returns-in-TooLarge-clause-reads : goal.returns-in-TooLarge-clause-reads
returns-in-TooLarge-clause-reads g c = reads_too_large _ _ _ _ _ c.in_ok-count.ensures.took (rw c.in-TooLarge.is at c.in_ok-count.ensures.found)

pub returns-in-Open-clause-reads : goal.returns-in-Open-clause-reads
returns-in-Open-clause-reads g c =
    reads_cut _ _ _ _ _ c.in_ok-count.ensures.took (rw c.in-Open.is at c.in_ok-count.ensures.found) (c.in_ok-count.ensures.end c.in-Open.is)
