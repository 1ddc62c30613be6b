-- None of those in front is free.
use Rattle.std.proofs.Common.{◌≡◌, None, take}
use Rattle.std.specs.Prelude.{find}
use Rattle.sw_sync.specs.Sync.{is_free}
use Rattle.sw_sync.proofs.repair.Repair.free.Given as goal

abbrev pub invariant-loop-source : goal.invariant-loop-source
invariant-loop-source l = find (is_free l.self) (take l.source-index l.source-items) ≡ None
