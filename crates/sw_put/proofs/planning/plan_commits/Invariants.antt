use Rattle.std.proofs.Common.{◌≡◌, take, vec_capacity}
use Rattle.sw_put.proofs.planning.plan_commits.Given as goal

abbrev pub invariant-loop-target : goal.invariant-loop-target
invariant-loop-target l = (l.commits_due.items ≡ take l.target-index l.done) × (vec_capacity l.commits_due ≡ vec_capacity l.fn.commits_due)
