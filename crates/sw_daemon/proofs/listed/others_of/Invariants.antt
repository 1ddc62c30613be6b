-- Those in front but the one device.
use Rattle.std.proofs.Common.{◌≡◌, ◌==◌, filter, not, take}
use Rattle.sw_daemon.proofs.listed.others_of.Given as goal

abbrev pub invariant-loop-other : goal.invariant-loop-other
invariant-loop-other l = l.others.items ≡ filter (λ id. not (id == l.device)) (take l.other-index l.other-items)
