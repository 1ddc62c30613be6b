-- The lines so far and those of the letters that are left are all.
use Rattle.std.proofs.Common.{◌≡◌, ◌++◌, suc, drop, map, option_to_list}
use Rattle.sw_sim_exchange.specs.declared.lines.SentLine.TheVariants.{Started}
use Rattle.sw_sim_exchange.specs.Letters.{lines_from}
use Rattle.sw_sim_exchange.proofs.SentLines.{With}
use Rattle.sw_sim_exchange.proofs.sent.sent_since.Given as goal

abbrev pub invariant-letters : goal.invariant-letters
invariant-letters l = With l.fn.letters l.slot l.lines.items ≡ map (λ operation. Started operation) (option_to_list l.fn.started) ++ lines_from (suc l.fn.from) (drop l.fn.from l.fn.letters)
