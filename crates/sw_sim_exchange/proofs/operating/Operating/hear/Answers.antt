use Rattle.std.proofs.Common.{◌≡◌, List, Bool, Some, sym, ap, ◌∙◌, arith}
use Rattle.sw_operation.specs.declared.any_op.AnyOp.{AnyOp}
use Rattle.sw_sim_exchange.specs.Work.{left_in}
use Rattle.sw_sim_exchange.specs.declared.operating.Operating.{Operating}
use Rattle.sw_sim_exchange.proofs.TicketFlags.{same-closed, up-closed}
use Rattle.sw_sim_exchange.proofs.operating.Operating.hear.Goals as goal

-- what is kept is an operation and the tickets
same_kept : (kept : Operating) (op : AnyOp) (tickets : List Bool) → kept.op ≡ Some op → tickets ≡ kept.tickets → record { op = Some op; tickets = tickets } ≡ kept
same_kept kept op tickets goes same = ap (λ o. record { op = o; tickets = tickets }) (sym goes) ∙ ap (λ ts. record { op = kept.op; tickets = ts }) same

pub returns-then-not-close-clause-idle : goal.returns-then-not-close-clause-idle
returns-then-not-close-clause-idle c = λ begun past at closed.
    same_kept c.args.self.now c.in-Some.op c.close.new.self c.in-Some.is
    (same-closed c.args.self.now.tickets c.close.new.self past c.args.ticket c.args.answer at.tickets (c.close.ensures.goes_on past c.args.answer at.tickets) (sym (c.close.ensures.was_open past at.tickets) ∙ c.if-not-close.true))

pub returns-in-Some-answer-clause-work : goal.returns-in-Some-answer-clause-work
returns-in-Some-answer-clause-work c = λ begun past at was.
    omega (
      arith,
      c.take.ensures.left,
      ap left_in c.in-Some.is,
      up-closed c.args.self.now.tickets c.close.new.self past c.args.ticket c.args.answer at.tickets (c.close.ensures.goes_on past c.args.answer at.tickets) (sym (c.close.ensures.was_open past at.tickets) ∙ c.if-not-close.false),
    )

pub returns-in-None-clause-work : goal.returns-in-None-clause-work
returns-in-None-clause-work c = λ begun past at was.
    omega (
      arith,
      c.give_up.ensures.left,
      ap left_in c.in-Some.is,
      up-closed c.args.self.now.tickets c.close.new.self past c.args.ticket c.args.answer at.tickets (c.close.ensures.goes_on past c.args.answer at.tickets) (sym (c.close.ensures.was_open past at.tickets) ∙ c.if-not-close.false),
    )
