use Rattle.std.proofs.Common.{◌≡◌, drop, map}
use Rattle.sw_ring.specs.Ring.{twice_in}
use Rattle.sw_ring.proofs.rules.twice_in.Given as goal

abbrev pub invariant-loop-part : goal.invariant-loop-part
invariant-loop-part l = twice_in l.part (map (λ row. row.items) l.earlier) (drop l.part l.row) ≡ twice_in 0 (map (λ row. row.items) l.earlier) l.row
