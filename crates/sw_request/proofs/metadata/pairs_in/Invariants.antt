use Rattle.std.proofs.Common.{◌≡◌, [], take}
use Rattle.std.specs.List.{filter_map, fold}
use Rattle.sw_request.specs.Metadata.{pair_of, set_pair}
use Rattle.sw_request.proofs.metadata.pairs_in.Given as goal

abbrev pub invariant-loop-field : goal.invariant-loop-field
invariant-loop-field l = l.pairs.items ≡ fold set_pair [] (filter_map pair_of (take l.field-index l.fields))
