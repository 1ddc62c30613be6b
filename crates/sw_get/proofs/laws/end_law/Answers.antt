use Rattle.sw_get.proofs.Ends.{ends_absent, ends_buried, ends_overtaken, ends_too_few, ends_unanswered}
use Rattle.sw_get.proofs.laws.end_law.Goals as goal

pub returns-clause-absent : goal.returns-clause-absent
returns-clause-absent c = ends_absent

pub returns-clause-buried : goal.returns-clause-buried
returns-clause-buried c = ends_buried

pub returns-clause-unanswered : goal.returns-clause-unanswered
returns-clause-unanswered c = ends_unanswered

pub returns-clause-too_few : goal.returns-clause-too_few
returns-clause-too_few c = ends_too_few

pub returns-clause-overtaken : goal.returns-clause-overtaken
returns-clause-overtaken c = ends_overtaken
