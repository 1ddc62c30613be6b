use Rattle.std.proofs.Common.{◌≡◌, ◌++◌, filter, map, take}
use Rattle.sw_gather.specs.Choices.{entry_target, is_listed}
use Rattle.sw_gather.proofs.choices.push_listed.Given as goal

abbrev pub invariant-loop-entry : goal.invariant-loop-entry
invariant-loop-entry l = l.choices.items ≡ l.fn.choices.items ++ map (entry_target l.device) (filter (is_listed l.total l.stamp) (take l.entry-index l.entry-items))
