use Rattle.std.proofs.Common.{◌≡◌, drop}
use Rattle.sw_ring.specs.Ring.{unknown_in}
use Rattle.sw_ring.proofs.rules.unknown_in.Given as goal

abbrev pub invariant-loop-id : goal.invariant-loop-id
invariant-loop-id l = unknown_in l.known (drop l.id-index l.row) ≡ unknown_in l.known l.row
