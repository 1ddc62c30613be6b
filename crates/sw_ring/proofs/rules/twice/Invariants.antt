use Rattle.std.proofs.Common.{◌≡◌, [], drop, map, reverse, take}
use Rattle.sw_ring.specs.Ring.{twice_after}
use Rattle.sw_ring.proofs.rules.twice.Given as goal

abbrev pub invariant-loop-index : goal.invariant-loop-index
invariant-loop-index l =
    twice_after (reverse (map (λ row. row.items) (take l.index l.rows))) (map (λ row. row.items) (drop l.index l.rows)) ≡ twice_after [] (map (λ row. row.items) l.rows)
