-- The failures among the misses in front.
use Rattle.std.proofs.Common.{◌≡◌, filter, map, take}
use Rattle.sw_sync.specs.Sync.{as_failure, is_of}
use Rattle.sw_sync.proofs.planning.failed_asks.Given as goal

abbrev pub invariant-loop-one : goal.invariant-loop-one
invariant-loop-one l = l.failed.items ≡ map as_failure (filter (is_of l.devices) (take l.one-index l.misses))
