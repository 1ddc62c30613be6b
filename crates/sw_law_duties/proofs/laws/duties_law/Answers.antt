use Rattle.sw_law_duties.proofs.Apart.{counts_apart}
use Rattle.sw_law_duties.proofs.Kept.{duties_kept}
use Rattle.sw_law_duties.proofs.laws.duties_law.Goals as goal

pub returns-clause-duties : goal.returns-clause-duties
returns-clause-duties c = duties_kept

pub returns-clause-counted : goal.returns-clause-counted
returns-clause-counted c = counts_apart
