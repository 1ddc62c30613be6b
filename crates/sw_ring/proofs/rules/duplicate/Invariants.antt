use Rattle.std.proofs.Common.{◌≡◌, [], drop, take, reverse}
use Rattle.sw_ring.specs.Ring.{duplicate_after}
use Rattle.sw_ring.proofs.rules.duplicate.Given as goal

abbrev pub invariant-loop-index : goal.invariant-loop-index
invariant-loop-index l = duplicate_after (reverse (take l.index l.ids)) (drop l.index l.ids) ≡ duplicate_after [] l.ids
