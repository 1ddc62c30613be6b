use Rattle.std.proofs.Common.{get_or, filter, refl, sym, ap, ◌∙◌}
use Rattle.std.proofs.lemmas.List.{take_all}
use Rattle.sw_message.specs.declared.target.Target.{Target}
use Rattle.sw_get.specs.Round.{RoundModel, is_open}
use Rattle.sw_gather.proofs.Choosing.{filter_no, filter_yes}
use Rattle.sw_get.proofs.round.Round.opened.Goals as goal
use Rattle.sw_get.proofs.round.Round.opened.Goals.{then-is_open+in_ok-push, else-is_open}

pub loop-source-preserved : goal.loop-source-preserved
loop-source-preserved c =
    let xs = c.deref-source-items.result.now in
    let i = c.loop-source.source-index in
    let none : Target = record { index = 0; device = 0 } in
    let p = is_open c.args.self.now.facts in
    elim c.if-is_open.branch [
      | then-is_open+in_ok-push w ↦
          let pushed = w.in_ok-push.ensures.items in
          let more = filter_yes p xs i (get_or xs i none) none c.loop-source-test.true refl (sym c.is_open.ensures ∙ w.if-is_open.true) in
          cc
      | else-is_open w ↦
          let same = filter_no p xs i (get_or xs i none) none c.loop-source-test.true refl (sym c.is_open.ensures ∙ w.if-is_open.false) in
          cc
    ]

pub returns : goal.returns
returns c =
    c.loop-source.invariant
    ∙ ap (filter (is_open c.args.self.now.facts)) (
    take_all c.loop-source.source-index c.deref-source-items.result.now c.loop-source-test.false ∙ c.deref-source-items.ensures.value
    ∙ ap (λ (round : RoundModel). round.facts.tried) c.self.view_is)
