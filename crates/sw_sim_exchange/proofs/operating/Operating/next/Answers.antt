use Rattle.std.proofs.Common.{◌≡◌, List, Some, refl, sym, ap, subst, ◌∙◌, arith}
use Rattle.std.proofs.lemmas.Option.{same_Some}
use Rattle.sw_message.specs.Transcript.{Step}
use Rattle.sw_operation.specs.Operating.{Begun}
use Rattle.sw_core.proofs.Machines.{numbers}
use Rattle.sw_operation.specs.Standing.{Stands}
use Rattle.sw_operation.specs.declared.any_op.AnyOp.{AnyOp}
use Rattle.sw_sim_exchange.specs.Kept.{IsAt}
use Rattle.sw_sim_exchange.specs.Work.{left_in}
use Rattle.sw_sim_exchange.specs.declared.operating.Operating.{Operating}
use Rattle.sw_sim_exchange.proofs.TicketFlags.{up-handed}
use Rattle.sw_sim_exchange.proofs.operating.Operating.next.Goals as goal

-- the operation that is found there stands for the transcript
stands_as : (kept : Operating) (op : AnyOp) (begun : Begun) (past : List Step) → kept.op ≡ Some op → IsAt kept begun past → Stands op begun past
stands_as kept op begun past is at = subst (λ (one : AnyOp). Stands one begun past) (same_Some at.op op (sym at.goes ∙ is)) at.stands

pub returns-clause-hands : goal.returns-clause-hands
returns-clause-hands c = λ begun past at.
    let sent = c.in-Some-2.sent in
    let stands = stands_as c.args.self.now c.in-Some.op begun past c.in-Some.is at in
    let hands = rw c.in-Some-2.is at (c.in_ok-sent.ensures.hands begun past stands) in
    let number = numbers begun past sent hands.0 ∙ sym at.tickets.count ∙ sym c.in_ok-hand_out.ensures.ticket in (
      hands.0,
      hands.1,
      record {
        op = c.next.new.self;
        goes = refl;
        stands = rw c.in-Some-2.is at (c.in_ok-sent.ensures.goes_on begun past stands);
        tickets = c.in_ok-hand_out.ensures.goes_on past sent at.tickets number;
      },
      hands.2,
    )

pub returns-clause-work : goal.returns-clause-work
returns-clause-work c = λ begun past at.
    let sent = c.in-Some-2.sent in
    let stands = stands_as c.args.self.now c.in-Some.op begun past c.in-Some.is at in
    let hands = rw c.in-Some-2.is at (c.in_ok-sent.ensures.hands begun past stands) in
    let number = numbers begun past sent hands.0 ∙ sym at.tickets.count in
    let more = c.in_ok-hand_out.ensures.goes_on past sent at.tickets (number ∙ sym c.in_ok-hand_out.ensures.ticket) in
    omega (
      arith,
      rw c.in-Some-2.is at c.in_ok-sent.ensures.fewer,
      ap left_in c.in-Some.is,
      up-handed c.args.self.now.tickets c.hand_out.new.self past sent number c.in_ok-hand_out.ensures.count at.tickets more,
    )
