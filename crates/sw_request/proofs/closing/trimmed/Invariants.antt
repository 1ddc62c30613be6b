use Rattle.std.proofs.Common.{◌≡◌, length}
use Rattle.sw_request.specs.Closing.{trimmed}
use Rattle.sw_request.proofs.closing.trimmed.Given as goal

abbrev pub invariant-loop-byte : goal.invariant-loop-byte
invariant-loop-byte l = trimmed l.rest ≡ trimmed l.fn.text

abbrev pub decreases-loop-byte : goal.decreases-loop-byte
decreases-loop-byte l = length l.rest
