use Rattle.sw_hostdisk.proofs.Orders.{in_order}
use Rattle.sw_hostdisk.proofs.walk.in_order.Goals as goal

pub returns : goal.returns
returns c = in_order c.sort_unstable.new.self.items c.sort_unstable.ensures.sorted
