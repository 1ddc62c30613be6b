use Rattle.std.proofs.Common.{get_or, refl, sym, ap, ◌∙◌}
use Rattle.std.specs.List.{list_any}
use Rattle.std.proofs.lemmas.List.{take_all}
use Rattle.sw_message.specs.declared.target.Target.{Target}
use Rattle.sw_gather.specs.Choices.{firsts, has_index}
use Rattle.sw_gather.proofs.Choosing.{first_added, first_there}
use Rattle.sw_gather.proofs.choices.firsts.Goals as goal
use Rattle.sw_gather.proofs.choices.firsts.Goals.{then-not-has_index+in_ok-push, else-not-has_index}

pub loop-source-preserved : goal.loop-source-preserved
loop-source-preserved c =
    let xs = c.args.choices.now in
    let i = c.loop-source.source-index in
    let none : Target = record { index = 0; device = 0 } in
    let x = get_or xs i none in
    let tested = sym (ap (list_any (has_index x.index)) c.deref.ensures.value) ∙ sym c.has_index.ensures in
    elim c.if-not-has_index.branch [
      | then-not-has_index+in_ok-push w ↦
          let pushed = w.in_ok-push.ensures.items in
          let more = first_added xs i x none c.loop-source.found.items c.loop-source-test.true refl c.loop-source.invariant (tested ∙ w.if-not-has_index.true) in
          cc
      | else-not-has_index w ↦
          let same = first_there xs i x none c.loop-source.found.items c.loop-source-test.true refl c.loop-source.invariant (tested ∙ w.if-not-has_index.false) in
          cc
    ]

pub returns : goal.returns
returns c = c.loop-source.invariant ∙ ap firsts (take_all c.loop-source.source-index c.args.choices.now c.loop-source-test.false)
