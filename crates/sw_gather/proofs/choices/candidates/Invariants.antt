use Rattle.std.proofs.Common.{◌≡◌, flat_map, take}
use Rattle.sw_gather.specs.Choices.{listed_at}
use Rattle.sw_gather.proofs.choices.candidates.Given as goal

abbrev pub invariant-loop-device : goal.invariant-loop-device
invariant-loop-device l = l.choices.items ≡ flat_map (listed_at l.total l.stamp) (take l.device-index l.lists)
