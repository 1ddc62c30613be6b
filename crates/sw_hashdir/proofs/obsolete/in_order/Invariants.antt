use Rattle.std.proofs.Common.{◌≡◌, map, take}
use Rattle.sw_hashdir.proofs.Ordered.{name_in}
use Rattle.sw_hashdir.proofs.obsolete.in_order.Given as goal

abbrev pub invariant-loop-name : goal.invariant-loop-name
invariant-loop-name l = l.sorted.items ≡ map name_in (take l.name-index l.name-items)
