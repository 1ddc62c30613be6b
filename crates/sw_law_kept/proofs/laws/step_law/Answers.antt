use Rattle.sw_law_kept.proofs.Kept.{empty_keeps, still_keeps}
use Rattle.sw_law_kept.proofs.laws.step_law.Goals as goal

pub returns-clause-empty : goal.returns-clause-empty
returns-clause-empty c = empty_keeps

pub returns-clause-step : goal.returns-clause-step
returns-clause-step c = λ clock before after keeps may. still_keeps before keeps clock after may
