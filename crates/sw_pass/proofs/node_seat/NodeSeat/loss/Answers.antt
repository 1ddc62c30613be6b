use Rattle.std.proofs.Common.{rules}
use Rattle.sw_pass.proofs.Losing.{loses_at}
use Rattle.sw_pass.proofs.node_seat.NodeSeat.loss.Goals as goal

pub fetch_add-requires : goal.fetch_add-requires
fetch_add-requires g c = (search rules, search rules, loses_at _ _ _ _ _ _ _ (search rules) (search rules) c.self.invariant.1 (search rules) (search rules))
