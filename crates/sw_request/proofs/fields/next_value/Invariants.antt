use Rattle.std.proofs.Common.{◌≡◌, ◌≤◌, length}
use Rattle.sw_request.specs.Fields.{values_of}
use Rattle.sw_request.proofs.fields.next_value.Given as goal

-- the values that are left are all of them
abbrev pub invariant-loop-field : goal.invariant-loop-field
invariant-loop-field l = record {
  same : values_of l.name l.rest ≡ values_of l.fn.name l.fn.fields;
  shorter : length l.rest ≤ length l.fn.fields;
}

abbrev pub decreases-loop-field : goal.decreases-loop-field
decreases-loop-field l = length l.rest
