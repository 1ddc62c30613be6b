use Rattle.std.proofs.Common.{◌≡◌, ◌≤◌, ◌+◌}
use Rattle.std.specs.List.{All}
use Rattle.sw_serve.specs.declared.over_cells.Job.{Job}
use Rattle.sw_serve.proofs.over_cells.jobs_of.Given as goal

abbrev pub invariant-loop-worker : goal.invariant-loop-worker
invariant-loop-worker g l = record {
  pass : l.pass.table ≡ l.fn.pass.table;
  passes : l.fn.pass.known.passes ≤ l.pass.known.passes + l.worker;
  jobs : All (λ (job : Job _). job.pass.table ≡ l.fn.table) l.jobs.items;
}
