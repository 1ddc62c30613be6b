use Rattle.std.proofs.Common.{rules}
use Rattle.sw_pass.proofs.Joining.{joins}
use Rattle.sw_pass.proofs.Looks.{learns}
use Rattle.sw_pass.proofs.Nodes.{joined_by}
use Rattle.sw_pass.proofs.node_seat.NodeSeat.join.Goals as goal

pub join_seat-requires : goal.join_seat-requires
join_seat-requires g c = (search rules, search rules, search rules, search rules, joins _ _ _ _ _ (search rules))

pub load-requires : goal.load-requires
load-requires g c = (search rules, search rules, learns _ _ _ _ _)

pub invariant_of-self : goal.invariant_of-self
invariant_of-self g c = (search rules, joined_by _ c.join_seat.new.seat.me.0 c.self.inside.seat.me.0 c.into_seat.result.me.0 c.load.new.seat.me.0 (search rules) c.self.invariant.1 (search rules), c.self.invariant.2)
