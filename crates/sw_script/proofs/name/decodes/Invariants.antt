use Rattle.std.proofs.Common.{◌≡◌, ◌++◌}
use Rattle.percent_encoding.specs.Iter.{decoded_bytes}
use Rattle.percent_encoding.specs.Percent.{percent_decode}
use Rattle.sw_script.proofs.name.decodes.Given as goal

-- what was decoded, and what is left to be
abbrev pub invariant-loop-byte : goal.invariant-loop-byte
invariant-loop-byte l = l.text.items ++ decoded_bytes l.byte-iterator ≡ percent_decode l.fn.word
