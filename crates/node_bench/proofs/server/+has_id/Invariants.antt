use Rattle.std.proofs.Common.{length}
use Rattle.node_bench.proofs.server.+has_id.Given as goal

abbrev pub decreases-has_id : goal.decreases-has_id
decreases-has_id l = length l.devices.now
