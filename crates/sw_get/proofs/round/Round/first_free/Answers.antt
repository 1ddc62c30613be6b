use Rattle.std.proofs.Common.{sym, ap, ◌∙◌}
use Rattle.std.specs.Prelude.{find}
use Rattle.std.proofs.lemmas.List.{take_all}
use Rattle.sw_get.specs.Round.{is_free}
use Rattle.sw_gather.proofs.Choosing.{found_here, none_more}
use Rattle.sw_get.proofs.round.Round.first_free.Goals as goal

pub returns-then-is_free : goal.returns-then-is_free
returns-then-is_free c =
    found_here (is_free c.args.self.now.facts) c.args.choices.now c.loop-source.source-index (record { index = 0; device = 0 }) c.loop-source-test.true c.loop-source.invariant
    (sym c.is_free.ensures ∙ c.if-is_free.true)

pub loop-source-preserved : goal.loop-source-preserved
loop-source-preserved c =
    none_more (is_free c.args.self.now.facts) c.args.choices.now c.loop-source.source-index (record { index = 0; device = 0 }) c.loop-source-test.true c.loop-source.invariant
    (sym c.is_free.ensures ∙ c.if-is_free.false)

pub returns : goal.returns
returns c =
    sym (sym (ap (find (is_free c.args.self.now.facts)) (take_all c.loop-source.source-index c.args.choices.now c.loop-source-test.false)) ∙ c.loop-source.invariant)
