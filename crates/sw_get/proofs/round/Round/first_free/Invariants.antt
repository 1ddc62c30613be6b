use Rattle.std.proofs.Common.{◌≡◌, None, take}
use Rattle.std.specs.Prelude.{find}
use Rattle.sw_get.specs.Round.{is_free}
use Rattle.sw_get.proofs.round.Round.first_free.Given as goal

abbrev pub invariant-loop-source : goal.invariant-loop-source
invariant-loop-source l = find (is_free l.self.facts) (take l.source-index l.choices) ≡ None
