use Rattle.sw_law_alone.proofs.Ends.{alone_kept, alone_not_overtaken, alone_steady}
use Rattle.sw_law_alone.proofs.laws.alone_law.Goals as goal

pub returns-clause-steady : goal.returns-clause-steady
returns-clause-steady c = alone_steady

pub returns-clause-kept : goal.returns-clause-kept
returns-clause-kept c = alone_kept

pub returns-clause-not_overtaken : goal.returns-clause-not_overtaken
returns-clause-not_overtaken c = alone_not_overtaken
