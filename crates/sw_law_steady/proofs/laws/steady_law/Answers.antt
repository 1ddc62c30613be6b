use Rattle.sw_law_steady.proofs.Steadiness.{few_events, never_overtaken}
use Rattle.sw_law_steady.proofs.laws.steady_law.Goals as goal

pub returns-clause-kept : goal.returns-clause-kept
returns-clause-kept c = few_events

pub returns-clause-not_overtaken : goal.returns-clause-not_overtaken
returns-clause-not_overtaken c = never_overtaken
