use Rattle.std.proofs.Common.{arith}
use Rattle.sw_diskfile.proofs.Outcomes.{not_full}
use Rattle.sw_diskfile.proofs.storing.bury.Goals as goal

pub returns-clause-never_full : goal.returns-clause-never_full
returns-clause-never_full g c = not_full c.make_file.result (λ need free is. let full = c.make_file.ensures.full need free is in omega (arith, full.needed, full.less))
