use Rattle.sw_law_complete.proofs.GetComplete.{get_complete}
use Rattle.sw_law_complete.proofs.laws.complete_gets_law.Goals as goal

pub returns : goal.returns
returns c = get_complete
