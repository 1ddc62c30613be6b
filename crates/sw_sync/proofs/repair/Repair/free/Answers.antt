-- The first that is free is found.
use Rattle.std.proofs.Common.{sym, ap, ◌∙◌}
use Rattle.std.specs.Prelude.{find}
use Rattle.std.proofs.lemmas.List.{take_all}
use Rattle.sw_message.specs.declared.target.Target.{Target}
use Rattle.sw_sync.specs.Parts.{Repair}
use Rattle.sw_sync.specs.Sync.{is_free}
use Rattle.sw_gather.proofs.Choosing.{found_here, none_more}
use Rattle.sw_sync.proofs.repair.Repair.free.Goals as goal

abbrev none : Target
none = record { index = 0; device = 0 }

pub returns-then-is_free : goal.returns-then-is_free
returns-then-is_free c =
    found_here (is_free c.args.self.now) c.deref-source-items.result.now c.loop-source.source-index none c.loop-source-test.true c.loop-source.invariant
    (sym c.is_free.ensures ∙ c.if-is_free.true)
    ∙ ap (find (is_free c.args.self.now)) (c.deref-source-items.ensures.value ∙ ap (λ (repair : Repair). repair.choices) c.self.view_is)

pub loop-source-preserved : goal.loop-source-preserved
loop-source-preserved c =
    none_more (is_free c.args.self.now) c.deref-source-items.result.now c.loop-source.source-index none c.loop-source-test.true c.loop-source.invariant
    (sym c.is_free.ensures ∙ c.if-is_free.false)

pub returns : goal.returns
returns c =
    sym (ap (find (is_free c.args.self.now)) (sym (take_all c.loop-source.source-index c.deref-source-items.result.now c.loop-source-test.false ∙ c.deref-source-items.ensures.value ∙ ap (λ (repair : Repair). repair.choices) c.self.view_is))
    ∙ c.loop-source.invariant)
