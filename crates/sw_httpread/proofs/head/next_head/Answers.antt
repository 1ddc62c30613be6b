use Rattle.sw_httpread.proofs.HeadParts.{reads_head, taken}
use Rattle.sw_httpread.proofs.head.next_head.Goals as goal

pub returns-in-Ok-Whole-clause-reads : goal.returns-in-Ok-Whole-clause-reads
returns-in-Ok-Whole-clause-reads g c =
    let found = rw c.in-Ok-Whole.field-0-is at c.in-Ok-Whole.ensures.found in
    reads_head _ _ _ _ _ _ c.find_head.ensures.grew (taken _ _ _ _ _ found.0 found.1 c.take_head.ensures)
