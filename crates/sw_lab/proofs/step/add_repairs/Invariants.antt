use Rattle.std.proofs.Common.{◌≡◌, ◌++◌, take}
use Rattle.sw_lab.specs.Workload.{repairs_of}
use Rattle.sw_lab.proofs.step.add_repairs.Given as goal

abbrev pub invariant-loop-device : goal.invariant-loop-device
invariant-loop-device l = l.events.items ≡ l.initial.events.items ++ repairs_of (take l.device-index l.devices) l.draw
