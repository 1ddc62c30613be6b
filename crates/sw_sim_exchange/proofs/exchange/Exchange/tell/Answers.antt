use Rattle.std.proofs.Common.{is_some, refl, sym, ap, subst, ◌∙◌}
use Rattle.std.proofs.lemmas.Bool.{true≢false}
use Rattle.sw_message.specs.Transcript.{after_answer}
use Rattle.sw_sim_exchange.specs.Exchange.{ExchangeModel}
use Rattle.sw_sim_exchange.specs.Kept.{IsAt}
use Rattle.sw_sim_exchange.specs.declared.operating.Operating.{Operating}
use Rattle.sw_sim_exchange.proofs.Hearing.{heard_there, kept_there, read_kept, unchanged, went_on}
use Rattle.sw_sim_exchange.proofs.exchange.Exchange.tell.Goals as goal

pub returns-in_ok-proceed-clause-closed : goal.returns-in_ok-proceed-clause-closed
returns-in_ok-proceed-clause-closed c = λ kept begun past there at closed.
    let is = read_kept _ c.args.self.now c.self.view_is c.args.number c.index_mut.result.now c.index_mut.ensures.value kept there in
    let was_open = c.hear.ensures.was_open begun past (subst (λ (one : Operating). IsAt one begun past) (sym is) at) in
    absurd (true≢false (sym c.if-hear.true ∙ was_open ∙ ap is_some closed))

pub returns-in_ok-proceed-clause-heard : goal.returns-in_ok-proceed-clause-heard
returns-in_ok-proceed-clause-heard c = λ kept begun past sent there at found.
    let inside : ExchangeModel = record { letters = c.self.inside.letters.items; operations = c.self.inside.operations.items } in
    let was = c.index_mut.result.now in
    let value = c.index_mut.ensures.value in
    let is = read_kept inside c.args.self.now c.self.view_is c.args.number was value kept there in
    let stands = subst (λ (one : Operating). IsAt one begun past) (sym is) at in
    let first = kept_there inside c.args.self.now c.self.view_is c.args.number was value kept there in
    went_on inside c.args.self.now c.self.view_is c.args.number was value c.hear.new.self first begun (after_answer past c.args.ticket c.args.answer) c.proceed.new.self c.args.ends.now.items c.proceed.new.ends.items
    (c.hear.ensures.work begun past stands c.if-hear.true)
    (c.in_ok-proceed.ensures c.hear.new.self begun (after_answer past c.args.ticket c.args.answer) (heard_there inside c.args.self.now c.self.view_is c.args.number was value c.hear.new.self first) (c.hear.ensures.goes_on begun past stands))

pub returns-else-hear-clause-over : goal.returns-else-hear-clause-over
returns-else-hear-clause-over c = λ kept there none.
    let is = read_kept _ c.args.self.now c.self.view_is c.args.number c.index_mut.result.now c.index_mut.ensures.value kept there in
    let stays = (c.hear.ensures.over (ap (λ (one : Operating). one.op) is ∙ none)).1 in
    (unchanged _ c.args.self.now c.self.view_is c.args.number c.index_mut.result.now c.index_mut.ensures.value c.hear.new.self stays, refl)

pub returns-else-hear-clause-closed : goal.returns-else-hear-clause-closed
returns-else-hear-clause-closed c = λ kept begun past there at closed.
    let is = read_kept _ c.args.self.now c.self.view_is c.args.number c.index_mut.result.now c.index_mut.ensures.value kept there in
    let stays = c.hear.ensures.idle begun past (subst (λ (one : Operating). IsAt one begun past) (sym is) at) c.if-hear.false in
    (unchanged _ c.args.self.now c.self.view_is c.args.number c.index_mut.result.now c.index_mut.ensures.value c.hear.new.self stays, refl)

pub returns-else-hear-clause-heard : goal.returns-else-hear-clause-heard
returns-else-hear-clause-heard c = λ kept begun past sent there at found.
    let is = read_kept _ c.args.self.now c.self.view_is c.args.number c.index_mut.result.now c.index_mut.ensures.value kept there in
    let was_open = c.hear.ensures.was_open begun past (subst (λ (one : Operating). IsAt one begun past) (sym is) at) in
    absurd (true≢false (sym (was_open ∙ ap is_some found) ∙ c.if-hear.false))
