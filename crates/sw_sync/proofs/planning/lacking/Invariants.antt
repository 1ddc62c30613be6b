-- Those in front that are lacking.
use Rattle.std.proofs.Common.{◌≡◌, filter, take}
use Rattle.sw_sync.specs.Sync.{shows_none}
use Rattle.sw_sync.proofs.planning.lacking.Given as goal

abbrev pub invariant-loop-target : goal.invariant-loop-target
invariant-loop-target l = l.lacking.items ≡ filter (shows_none l.stamp l.lists) (take l.target-index l.targets)
