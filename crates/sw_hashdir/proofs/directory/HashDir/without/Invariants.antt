use Rattle.std.proofs.Common.{◌≢◌, take}
use Rattle.sw_hashdir.proofs.Listed.{AreKept}
use Rattle.sw_hashdir.proofs.directory.HashDir.without.Given as goal

abbrev pub invariant-loop-name : goal.invariant-loop-name
invariant-loop-name l = AreKept (λ name. name) (λ name. name ≢ l.gone) (take l.name-index l.name-items) l.names.items
