use Rattle.std.proofs.Common.{◌≡◌, filter, take}
use Rattle.sw_get.specs.Round.{is_open}
use Rattle.sw_get.proofs.round.Round.opened.Given as goal

abbrev pub invariant-loop-source : goal.invariant-loop-source
invariant-loop-source l = l.opened.items ≡ filter (is_open l.self.facts) (take l.source-index l.source-items)
