use Rattle.std.proofs.Common.{◌≡◌, map, take}
use Rattle.sw_objsrv.proofs.Surveyed.{part_in}
use Rattle.sw_objsrv.proofs.surveying.parts_in.Given as goal

abbrev pub invariant-loop-place : goal.invariant-loop-place
invariant-loop-place l = l.parts.items ≡ map part_in (take l.place-index l.place-items)
