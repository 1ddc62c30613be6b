use Rattle.std.proofs.Common.{◌≡◌, length, None}
use Rattle.std.specs.List.{last_or}
use Rattle.std.specs.Option.{option_copied}
use Rattle.sw_request.specs.Fields.{values_of}
use Rattle.sw_request.proofs.fields.last_value.Given as goal

abbrev pub invariant-loop-value : goal.invariant-loop-value
invariant-loop-value l = last_or (option_copied l.last) (values_of l.name l.rest) ≡ last_or None (values_of l.fn.name l.fn.fields)

abbrev pub decreases-loop-value : goal.decreases-loop-value
decreases-loop-value l = length l.rest
