use Rattle.std.proofs.Common.{◌≡◌, ◌++◌, map, take}
use Rattle.sw_response.specs.Response.{pair_field}
use Rattle.sw_response.proofs.getting.push_pairs.Given as goal

abbrev pub invariant-loop-pair : goal.invariant-loop-pair
invariant-loop-pair l = l.fields.items ≡ l.fn.fields.items ++ map pair_field (take l.pair-index l.pairs)
