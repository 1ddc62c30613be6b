use Rattle.std.proofs.Common.{◌∙◌, arith}
use Rattle.sw_script.proofs.Bodies.{pairs}
use Rattle.sw_script.proofs.word.is_hex.Goals as goal

pub returns-then-word-eq0 : goal.returns-then-word-eq0
returns-then-word-eq0 c = c.are_digits.ensures ∙ pairs c.args.word.now (grind arith) (grind arith)
