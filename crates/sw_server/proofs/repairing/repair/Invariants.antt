use Rattle.std.proofs.Common.{◌≡◌}
use Rattle.sw_server.proofs.repairing.repair.Given as goal

abbrev pub invariant-loop : goal.invariant-loop
invariant-loop g l = record { table : l.pass.table ≡ g.J.Site.table }
