use Rattle.std.proofs.Common.{◌≤◌, Option, sym, ap, subst, ◌∙◌}
use Rattle.sw_operation.specs.declared.end.OpEnd.{OpEnd}
use Rattle.sw_sim_exchange.specs.Exchange.{ExchangeModel, Proceeded}
use Rattle.sw_sim_exchange.specs.Kept.{IsAt}
use Rattle.sw_sim_exchange.specs.Work.{work_of}
use Rattle.sw_sim_exchange.specs.declared.operating.Operating.{Operating}
use Rattle.sw_sim_exchange.proofs.HandingOut.{handed-one, with_letters}
use Rattle.sw_sim_exchange.proofs.Hearing.{kept_there, read_kept}
use Rattle.sw_sim_exchange.proofs.Resting.{TellsEnd, rested}
use Rattle.sw_sim_exchange.proofs.exchange.Exchange.proceed.Goals as goal
use Rattle.sw_sim_exchange.proofs.exchange.Exchange.proceed.Goals.{in-Some-take_end+in_ok-push-2, in_default-take_end}

pub messages-preserved : goal.messages-preserved
messages-preserved c = λ begun past at.
    let was = c.index_mut-operating.result.now in
    let so = c.messages.invariant begun past at in
    let hands = rw c.in-Some.is at (c.in_ok-sent.ensures.hands begun so.later so.is_at) in
    let less = rw c.in-Some.is at (c.in_ok-sent.ensures.work begun so.later so.is_at) in
    rw (c.in_ok-push.ensures.items, c.request.ensures)
    (handed-one c.args.number begun past was c.messages.operating c.next.new.self c.self.inside.letters.items c.messages.letters.items c.in-Some.sent so hands.0 hands.1 hands.2 less)

pub returns : goal.returns
returns c = λ kept begun past there at.
    let was = c.index_mut-operating.result.now in
    let left = c.take_end.new.self in
    let before = c.args.ends.now.items in
    let ends = c.match-take_end.ends.items in
    let inside : ExchangeModel = record { letters = c.self.inside.letters.items; operations = c.self.inside.operations.items } in
    let value = c.index_mut-operating.ensures.value in
    let so = c.messages.invariant begun past (subst (λ (one : Operating). IsAt one begun past) (sym (read_kept inside c.args.self.now c.self.view_is c.args.number was value kept there)) at) in
    let rests = rw c.in_default.is at (c.in_ok-sent.ensures.hands begun so.later so.is_at) in
    let fewer = rw c.in_default.is at (c.in_ok-sent.ensures.work begun so.later so.is_at) in
    let told : TellsEnd c.args.number c.take_end.result before ends = elim c.match-take_end.branch [
      | in-Some-take_end+in_ok-push-2 w ↦ subst (λ (end : Option OpEnd). TellsEnd c.args.number end before ends) (sym w.in-Some-take_end.is) (ap (λ lines. lines.items) w.ends-is ∙ w.in_ok-push-2.ensures.items)
      | in_default-take_end w ↦ subst (λ (end : Option OpEnd). TellsEnd c.args.number end before ends) (sym w.in_default-take_end.is) (ap (λ lines. lines.items) w.ends-is)
    ] in
    let new = with_letters inside c.args.number left c.messages.letters.items in
    subst (λ (old : ExchangeModel). Proceeded c.args.number begun past old new before ends × (work_of new ≤ work_of old)) c.self.view_is
    (rested c.args.number begun past inside was c.messages.operating c.next.new.self left c.messages.letters.items before ends
    (kept_there inside c.args.self.now c.self.view_is c.args.number was value kept there) so fewer c.take_end.ensures.work c.take_end.result c.take_end.ensures.ended c.take_end.ensures.goes told rests.0 rests.1)
