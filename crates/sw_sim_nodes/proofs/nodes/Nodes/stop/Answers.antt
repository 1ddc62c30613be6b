use Rattle.std.proofs.Common.{◌≡◌, false, subst}
use Rattle.std.specs.List.{All}
use Rattle.sw_sim_nodes.specs.Nodes.{AreNodes, IsSettledDisk, MemNode, NodesModel}
use Rattle.sw_sim_nodes.proofs.nodes.Nodes.stop.Goals as goal

-- a crash leaves each disk as it is
stays : (inside all : NodesModel) → inside ≡ all → AreNodes inside → all.is_wanting ≡ false → All (λ (node : MemNode). IsSettledDisk node.disk) all.nodes
stays inside all same are = (subst AreNodes same are).settled

pub returns-in_err-push-clause-stays : goal.returns-in_err-push-clause-stays
returns-in_err-push-clause-stays c = stays _ c.args.self.now c.self.view_is c.self.invariant

pub returns-in_ok-push-clause-stays : goal.returns-in_ok-push-clause-stays
returns-in_ok-push-clause-stays c = stays _ c.args.self.now c.self.view_is c.self.invariant

pub returns-else-not-is_down-clause-stays : goal.returns-else-not-is_down-clause-stays
returns-else-not-is_down-clause-stays c = stays _ c.args.self.now c.self.view_is c.self.invariant
