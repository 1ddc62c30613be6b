use Rattle.std.proofs.Common.{take}
use Rattle.sw_hashdir.specs.Obsolete.{IsObsolete}
use Rattle.sw_hashdir.proofs.Listed.{AreKept}
use Rattle.sw_hashdir.proofs.directory.HashDir.obsolete.Given as goal

abbrev pub invariant-loop-name : goal.invariant-loop-name
invariant-loop-name l = AreKept (λ name. name) (IsObsolete l.is_primary l.self) (take l.name-index l.name-items) l.names.items
