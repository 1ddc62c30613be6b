use Rattle.sw_law_decided.proofs.Runs.{run_keeps}
use Rattle.sw_law_decided.proofs.laws.stamps_law.Goals as goal

pub returns : goal.returns
returns c = run_keeps
