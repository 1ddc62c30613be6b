use Rattle.std.proofs.Common.{◌≡◌, take}
use Rattle.sw_gather.specs.Choices.{firsts}
use Rattle.sw_gather.proofs.choices.firsts.Given as goal

abbrev pub invariant-loop-source : goal.invariant-loop-source
invariant-loop-source l = l.found.items ≡ firsts (take l.source-index l.choices)
