use Rattle.std.proofs.Common.{◌≡◌, map, string_bytes, take}
use Rattle.std.specs.Fmt.{decimal}
use Rattle.sw_sim_text.proofs.numbers.join_numbers.Given as goal

abbrev pub invariant-loop-number : goal.invariant-loop-number
invariant-loop-number l = map string_bytes l.texts.items ≡ map decimal (take l.number-index l.numbers)
