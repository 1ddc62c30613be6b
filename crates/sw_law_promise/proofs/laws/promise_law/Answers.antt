use Rattle.sw_law_promise.proofs.Runs.{run_keeps}
use Rattle.sw_law_promise.proofs.laws.promise_law.Goals as goal

pub returns : goal.returns
returns c = run_keeps
