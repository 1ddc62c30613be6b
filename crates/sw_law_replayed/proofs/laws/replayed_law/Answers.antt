use Rattle.sw_law_replayed.proofs.Handling.{handled}
use Rattle.sw_law_replayed.proofs.Mounting.{begins, remounted}
use Rattle.sw_law_replayed.proofs.laws.replayed_law.Goals as goal

pub returns-clause-handled : goal.returns-clause-handled
returns-clause-handled g c = handled g.D.Disk.seen g.D.Disk.left_since

pub returns-clause-remounted : goal.returns-clause-remounted
returns-clause-remounted g c = remounted g.D.Disk.seen g.D.Disk.left_since

pub returns-clause-begins : goal.returns-clause-begins
returns-clause-begins g c = begins g.D.Disk.seen g.D.Disk.left_since
