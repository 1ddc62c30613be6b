use Rattle.std.proofs.Common.{◌≡◌, [], take, drop}
use Rattle.sw_types.specs.Head.{repeat_after}
use Rattle.sw_types.proofs.head.repeated.Given as goal

abbrev pub invariant-loop-position : goal.invariant-loop-position
invariant-loop-position l = repeat_after (take l.position l.pairs) l.position (drop l.position l.pairs) ≡ repeat_after [] 0 l.pairs
