-- An answer to an open message is put in, and another is left out.
use Rattle.std.proofs.Common.{◌≡◌, inl, inr, ◌+◌, ◌++◌, List, length, length-append, deque_capacity, true, false, None, sym, ap, subst, ◌∙◌, arith}
use Rattle.std.specs.List.{slice_get}
use Rattle.std.proofs.lemmas.Bool.{cases_Bool}
use Rattle.sw_message.specs.Transcript.{Step, after_answer}
use Rattle.sw_quorum.proofs.Lookups.{looked-up}
use Rattle.sw_gather.specs.Mailbox.{GoesWith, MailboxModel, answer_to}
use Rattle.sw_gather.specs.MailboxInside.{mailbox_seen}
use Rattle.sw_gather.specs.declared.mailbox.Mailbox.TheInside.{Inside}
use Rattle.sw_gather.proofs.Mailboxes.{Taken, at_most_one, left_out, put_in, some_wait, taken}
use Rattle.sw_gather.proofs.mailbox.Mailbox.take.Given as given
use Rattle.sw_gather.proofs.mailbox.Mailbox.take.Goals as goal
use Rattle.sw_gather.proofs.mailbox.Mailbox.take.Goals.{then-close, else-close}

-- what becomes of the mailbox where the ticket was open, and where not
record Cases (g : given.Over) (c : goal.After-push_answer g) : Type 0 where
  tickets : c.if-close.self-inside.tickets ≡ c.close.new.self
  errands : c.if-close.self-inside.errands.items ≡ c.self.inside.errands.items
  unread : c.if-close.self-inside.unread.items ≡ c.self.inside.unread.items
  room : deque_capacity c.if-close.self-inside.unread ≡ deque_capacity c.self.inside.unread
  opened : c.close.result ≡ true → (c.if-close.self-inside.waiting + 1 ≡ c.self.inside.waiting) × (c.if-close.errand ≡ slice_get c.self.inside.errands.items c.args.ticket)
  other : c.close.result ≡ false → (c.if-close.self-inside.waiting ≡ c.self.inside.waiting) × (c.if-close.errand ≡ None)

cases : (g : given.Over) (c : goal.After-push_answer g) → Cases g c
cases g c =
    let known = c.self.invariant.0 in
    elim c.if-close.branch [
      | then-close w ↦
          let some = some_wait (mailbox_seen c.self.inside) known.0 known.1 c.args.ticket (sym (c.close.ensures.was_open known.0 known.1.tickets_are) ∙ w.if-close.true) in
          record {
            tickets = ap (λ (i : Inside g.row.E.Denot). i.tickets) w.self-inside-is;
            errands = ap (λ (i : Inside g.row.E.Denot). i.errands.items) w.self-inside-is;
            unread = ap (λ (i : Inside g.row.E.Denot). i.unread.items) w.self-inside-is;
            room = ap (λ (i : Inside g.row.E.Denot). deque_capacity i.unread) w.self-inside-is;
            opened = λ is. (
              omega (arith, some, ap (λ (i : Inside g.row.E.Denot). i.waiting) w.self-inside-is),
              w.errand-is ∙ w.copied-errand.ensures ∙ looked-up _ _ w.get.result w.get.ensures.lookup.0 w.get.ensures.lookup.1 ∙ ap (λ these. slice_get these c.args.ticket) w.deref.ensures.value,
            );
            other = λ is. absurd (cc (w.if-close.true, is));
          }
      | else-close w ↦ record {
        tickets = ap (λ (i : Inside g.row.E.Denot). i.tickets) w.self-inside-is;
        errands = ap (λ (i : Inside g.row.E.Denot). i.errands.items) w.self-inside-is;
        unread = ap (λ (i : Inside g.row.E.Denot). i.unread.items) w.self-inside-is;
        room = ap (λ (i : Inside g.row.E.Denot). deque_capacity i.unread) w.self-inside-is;
        opened = λ is. absurd (cc (w.if-close.false, is));
        other = λ is. (ap (λ (i : Inside g.row.E.Denot). i.waiting) w.self-inside-is, w.errand-is);
      }
    ]

-- the mailbox afterwards
abbrev after : (g : given.Over) → goal.After-push_answer g → MailboxModel g.row.E.Denot
after g c = mailbox_seen (record { tickets = c.if-close.self-inside.tickets; errands = c.if-close.self-inside.errands; waiting = c.if-close.self-inside.waiting; unread = c.push_answer.new.unread })

goes_after : (g : given.Over) (c : goal.After-push_answer g) (past : List Step) → GoesWith (mailbox_seen c.self.inside) past → GoesWith (after g c) (after_answer past c.args.ticket c.args.answer)
goes_after g c past goes =
    let case = cases g c in
    let before = mailbox_seen c.self.inside in
    let are = c.close.ensures.goes_on past c.args.answer goes.tickets_are in
    let these = rw (← case.tickets) at are in
    let count : length (after g c).tickets ≡ length before.tickets = ap length case.tickets ∙ c.close.ensures.count in
    let errands : length (after g c).errands ≡ length before.errands = ap length case.errands in
    let was = c.close.ensures.was_open past goes.tickets_are in
    elim (cases_Bool c.close.result) [
      | inl is ↦ put_in before past goes c.args.ticket (after g c) c.args.answer these count errands (sym was ∙ is) (case.opened is).0
      | inr is ↦ left_out before past goes c.args.ticket (after g c) c.args.answer these count errands (sym was ∙ is) (case.other is).0
    ]

pub returns-clause-goes_with : goal.returns-clause-goes_with
returns-clause-goes_with g c = λ past goes. goes_after g c past (subst (λ (mailbox : MailboxModel g.row.E.Denot). GoesWith mailbox past) (sym c.self.view_is) goes)

pub returns-clause-taken : goal.returns-clause-taken
returns-clause-taken g c = λ past goes.
    let case = cases g c in
    let before = mailbox_seen c.self.inside in
    let goes : GoesWith before past = subst (λ (mailbox : MailboxModel g.row.E.Denot). GoesWith mailbox past) (sym c.self.view_is) goes in
    let was = c.close.ensures.was_open past goes.tickets_are in
    subst (λ (mailbox : MailboxModel g.row.E.Denot). Taken mailbox past c.args.ticket c.args.answer (after g c).unread) c.self.view_is
    (taken before past goes c.args.ticket c.args.answer c.if-close.errand (after g c).unread
    (c.push_answer.ensures.items ∙ ap (λ these. these ++ answer_to c.if-close.errand c.args.answer) case.unread)
    (λ some. (case.opened (was ∙ some)).1) (λ none. (case.other (was ∙ none)).1))

pub invariant_of-self : goal.invariant_of-self
invariant_of-self g c =
    let known = c.self.invariant.0 in
    let case = cases g c in
    let more = answer_to c.if-close.errand c.args.answer in
    let length_is : length c.push_answer.new.unread.items ≡ length c.self.inside.unread.items + length more =
    omega (arith, ap length c.push_answer.ensures.items, length-append c.if-close.self-inside.unread.items more, ap length case.unread) in (
      (after_answer known.0 c.args.ticket c.args.answer, goes_after g c known.0 known.1),
      elim (cases_Bool c.close.result) [
        | inl is ↦ omega (arith, length_is, at_most_one c.if-close.errand c.args.answer, (case.opened is).0, c.push_answer.ensures.capacity, case.room, c.self.invariant.1)
        | inr is ↦ omega (arith, length_is, ap (λ errand. length (answer_to errand c.args.answer)) (case.other is).1, (case.other is).0, c.push_answer.ensures.capacity, case.room, c.self.invariant.1)
      ],
    )
