use Rattle.sw_httpread.proofs.Takes.{reads_none}
use Rattle.sw_httpread.proofs.body.read_body.Goals as goal

pub returns-in-None-clause-reads : goal.returns-in-None-clause-reads
returns-in-None-clause-reads g c = rw (c.new.ensures, c.in-None.is) (reads_none _ _)
