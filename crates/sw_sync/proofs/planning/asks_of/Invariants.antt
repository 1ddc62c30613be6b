-- The questions to the devices in front.
use Rattle.std.proofs.Common.{◌≡◌, map, take}
use Rattle.sw_sync.specs.declared.errand.Errand.TheVariants.{Ask}
use Rattle.sw_sync.proofs.planning.asks_of.Given as goal

abbrev pub invariant-loop-device : goal.invariant-loop-device
invariant-loop-device l = l.due.items ≡ map Ask (take l.device-index l.devices)
