use Rattle.std.proofs.Common.{◌≡◌, length}
use Rattle.sw_request.specs.Target.{has_whole_escapes}
use Rattle.sw_request.proofs.target.has_whole_escapes.Given as goal

abbrev pub invariant-loop-byte : goal.invariant-loop-byte
invariant-loop-byte l = has_whole_escapes l.rest ≡ has_whole_escapes l.fn.path

abbrev pub decreases-loop-byte : goal.decreases-loop-byte
decreases-loop-byte l = length l.rest
