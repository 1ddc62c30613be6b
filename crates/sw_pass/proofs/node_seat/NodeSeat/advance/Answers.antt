use Rattle.std.proofs.Common.{rules}
use Rattle.sw_pass.proofs.Events.{advances}
use Rattle.sw_pass.proofs.node_seat.NodeSeat.advance.Goals as goal

pub load-requires : goal.load-requires
load-requires g c = (search rules, search rules, advances _ _ _ _ _ _ _ c.self.invariant.1 (search rules) (search rules))
