use Rattle.std.proofs.Common.{◌≡◌, ◌≤◌, ◌*◌, ◌^◌, take}
use Rattle.sw_types.specs.Head.{overall}
use Rattle.sw_types.proofs.head.overall.Given as goal

abbrev pub invariant-loop-pair : goal.invariant-loop-pair
invariant-loop-pair l = record {
  sum : l.sum ≡ overall (take l.pair-index l.pairs);
  bound : l.sum ≤ l.pair-index * 2 ^ 65;
}
