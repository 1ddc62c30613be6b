-- Those in front that the ring has.
use Rattle.std.proofs.Common.{◌≡◌, filter, take}
use Rattle.sw_daemon.specs.Pass.{is_of_ring}
use Rattle.sw_daemon.proofs.listed.parts_of_ring.Given as goal

abbrev pub invariant-loop-part : goal.invariant-loop-part
invariant-loop-part l = l.those.items ≡ filter (is_of_ring l.power) (take l.part-index l.part-items)
