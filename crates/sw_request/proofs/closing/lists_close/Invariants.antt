use Rattle.std.proofs.Common.{◌≡◌, codes, length}
use Rattle.std.specs.List.{list_any}
use Rattle.sw_request.specs.Closing.{has_token}
use Rattle.sw_request.specs.Fields.{values_of}
use Rattle.sw_request.proofs.closing.lists_close.Given as goal

abbrev pub invariant-loop-value : goal.invariant-loop-value
invariant-loop-value l = list_any (has_token (codes "close")) (values_of (codes "connection") l.rest) ≡ list_any (has_token (codes "close")) (values_of (codes "connection") l.fn.fields)

abbrev pub decreases-loop-value : goal.decreases-loop-value
decreases-loop-value l = length l.rest
