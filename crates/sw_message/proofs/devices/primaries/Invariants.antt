use Rattle.std.proofs.Common.{◌≡◌, take}
use Rattle.sw_ring.specs.Cluster.{column_of}
use Rattle.sw_message.proofs.devices.primaries.Given as goal

abbrev pub invariant-loop-index : goal.invariant-loop-index
invariant-loop-index l = l.devices.items ≡ take l.index (column_of l.cluster l.part)
