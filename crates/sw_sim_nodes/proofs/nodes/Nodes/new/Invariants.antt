use Rattle.std.proofs.Common.{take}
use Rattle.sw_sim_nodes.proofs.Making.{AreMade}
use Rattle.sw_sim_nodes.proofs.nodes.Nodes.new.Given as goal

abbrev pub invariant-each : goal.invariant-each
invariant-each l = AreMade l.fn.cluster (take l.device-index l.device-items) l.nodes.items
