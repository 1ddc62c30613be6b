use Rattle.std.proofs.Common.{◌≡◌}
use Rattle.sw_serve.proofs.over_cells.work.Given as goal

abbrev pub invariant-loop-round : goal.invariant-loop-round
invariant-loop-round g l = record { table : l.pass.table ≡ g.J.Site.table }
