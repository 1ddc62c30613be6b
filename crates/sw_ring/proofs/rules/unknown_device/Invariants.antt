use Rattle.std.proofs.Common.{◌≡◌, drop, map}
use Rattle.sw_ring.specs.Ring.{unknown_device}
use Rattle.sw_ring.proofs.rules.unknown_device.Given as goal

abbrev pub invariant-loop-row : goal.invariant-loop-row
invariant-loop-row l = unknown_device l.known (map (λ row. row.items) (drop l.row-index l.rows)) ≡ unknown_device l.known (map (λ row. row.items) l.rows)
