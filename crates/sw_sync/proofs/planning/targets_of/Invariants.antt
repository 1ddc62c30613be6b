-- The devices in front, each with its index.
use Rattle.std.proofs.Common.{◌≡◌, take}
use Rattle.sw_quorum.specs.Targets.{targets_from}
use Rattle.sw_sync.proofs.planning.targets_of.Given as goal

abbrev pub invariant-loop-device : goal.invariant-loop-device
invariant-loop-device l = record {
  front : l.targets.items ≡ targets_from 0 (take l.device-index l.devices);
  index : l.index ≡ l.device-index;
}
