use Rattle.std.proofs.Common.{rules}
use Rattle.sw_pass.proofs.Losing.{looks_at}
use Rattle.sw_pass.proofs.node_seat.NodeSeat.may_lose.Goals as goal

pub load-requires : goal.load-requires
load-requires g c = (search rules, search rules, looks_at _ _ _ _ _ _ _ (search rules) c.self.invariant.1)
