use Rattle.std.proofs.Common.{◌≡◌, length}
use Rattle.sw_script.specs.Word.{has_whole_escapes}
use Rattle.sw_script.proofs.name.has_whole_escapes.Given as goal

-- what is left has whole escapes exactly where the word has
abbrev pub invariant-loop-byte : goal.invariant-loop-byte
invariant-loop-byte l = has_whole_escapes l.rest ≡ has_whole_escapes l.fn.word

abbrev pub decreases-loop-byte : goal.decreases-loop-byte
decreases-loop-byte l = length l.rest
