use Rattle.std.proofs.Common.{◌≡◌, drop, map}
use Rattle.sw_ring.specs.Ring.{odd_row}
use Rattle.sw_ring.proofs.rules.odd_row.Given as goal

abbrev pub invariant-loop-number : goal.invariant-loop-number
invariant-loop-number l = odd_row l.number l.parts (map (λ row. row.items) (drop l.number l.rows)) ≡ odd_row 0 l.parts (map (λ row. row.items) l.rows)
