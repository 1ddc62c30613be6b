-- Those in front that are of the partition.
use Rattle.std.proofs.Common.{◌≡◌, filter, take}
use Rattle.sw_daemon.specs.Pass.{is_of_part}
use Rattle.sw_daemon.proofs.listed.places_of_part.Given as goal

abbrev pub invariant-loop-place : goal.invariant-loop-place
invariant-loop-place l = l.those.items ≡ filter (is_of_part l.power l.part) (take l.place-index l.place-items)
