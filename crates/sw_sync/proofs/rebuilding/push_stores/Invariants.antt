-- The stores of the targets in front are added, and there is room for the others.
use Rattle.std.proofs.Common.{◌≡◌, ◌≤◌, ◌+◌, ◌++◌, deque_capacity, length, map, take}
use Rattle.sw_sync.specs.declared.errand.Errand.TheVariants.{Store}
use Rattle.sw_sync.proofs.rebuilding.push_stores.Given as goal

abbrev pub invariant-loop-target : goal.invariant-loop-target
invariant-loop-target l = record {
  added : l.due.items ≡ l.fn.due.items ++ map Store (take l.target-index l.targets);
  room : length l.fn.due.items + length l.targets ≤ deque_capacity l.due;
}
