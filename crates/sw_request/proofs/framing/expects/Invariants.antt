use Rattle.std.proofs.Common.{◌≡◌, codes, length}
use Rattle.std.specs.List.{list_any}
use Rattle.std.specs.Str.{str_eq_ignore_ascii_case}
use Rattle.sw_request.specs.Fields.{values_of}
use Rattle.sw_request.proofs.framing.expects.Given as goal

abbrev pub invariant-loop-value : goal.invariant-loop-value
invariant-loop-value l =
    list_any (λ value. str_eq_ignore_ascii_case value (codes "100-continue")) (values_of (codes "expect") l.rest)
    ≡ list_any (λ value. str_eq_ignore_ascii_case value (codes "100-continue")) (values_of (codes "expect") l.fn.fields)

abbrev pub decreases-loop-value : goal.decreases-loop-value
decreases-loop-value l = length l.rest
