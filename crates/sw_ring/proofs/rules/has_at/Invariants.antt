use Rattle.std.proofs.Common.{◌≡◌, drop, map}
use Rattle.sw_ring.specs.Ring.{has_at}
use Rattle.sw_ring.proofs.rules.has_at.Given as goal

abbrev pub invariant-loop-row : goal.invariant-loop-row
invariant-loop-row l = has_at l.part l.id (map (λ row. row.items) (drop l.row-index l.rows)) ≡ has_at l.part l.id (map (λ row. row.items) l.rows)
