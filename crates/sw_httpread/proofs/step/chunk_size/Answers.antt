use Rattle.sw_httpread.proofs.ChunkLines.{unlike_line}
use Rattle.sw_httpread.proofs.step.chunk_size.Goals as goal

pub returns-else-length-line : goal.returns-else-length-line
returns-else-length-line c =
    let at = rw c.in-Ok-Complete.field-0-is at c.in-Ok-Complete.ensures.complete in
    unlike_line _ _ _ at.0 at.1 c.if-length-line.false
