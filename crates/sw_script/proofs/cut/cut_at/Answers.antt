use Rattle.sw_script.proofs.Cuts.{cut_at_place, cut_nowhere}
use Rattle.sw_script.proofs.cut.cut_at.Goals as goal

pub returns-in-Some-clause-cut : goal.returns-in-Some-clause-cut
returns-in-Some-clause-cut c = cut_at_place _ _ _ c.in-Some.ensures.0 c.in-Some.ensures.1

pub returns-in-None-clause-cut : goal.returns-in-None-clause-cut
returns-in-None-clause-cut c = cut_nowhere _ _ c.in-None.ensures
