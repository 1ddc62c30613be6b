use Rattle.std.proofs.Common.{◌≡◌, length}
use Rattle.std.specs.Str.{bytes_eq}
use Rattle.sw_request.specs.Body.{tag_of}
use Rattle.sw_request.proofs.tag.is_tag.Given as goal

abbrev pub invariant-loop-byte : goal.invariant-loop-byte
invariant-loop-byte l = bytes_eq (tag_of l.left) l.rest ≡ bytes_eq (tag_of l.fn.value) l.fn.tag

abbrev pub decreases-loop-byte : goal.decreases-loop-byte
decreases-loop-byte l = length l.left
