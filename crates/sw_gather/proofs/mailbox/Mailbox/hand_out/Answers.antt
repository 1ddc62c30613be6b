-- One errand more.
use Rattle.std.proofs.Common.{◌≡◌, ◌+◌, List, [], ◌∷◌, length, refl, sym, ap, subst, ◌∙◌, length-append, arith}
use Rattle.sw_message.specs.Transcript.{Gave, Step}
use Rattle.sw_message.specs.declared.message.Msg.TheVariants.{Parts}
use Rattle.sw_message.specs.declared.sent.Sent.{Sent}
use Rattle.sw_gather.specs.Mailbox.{GoesWith, MailboxModel}
use Rattle.sw_gather.specs.MailboxInside.{mailbox_seen}
use Rattle.sw_gather.proofs.Mailboxes.{handed}
use Rattle.sw_gather.proofs.mailbox.Mailbox.hand_out.Given as given
use Rattle.sw_gather.proofs.mailbox.Mailbox.hand_out.Goals as goal

stood : (g : given.Over) (c : goal.After-self-1 g) (past : List Step) (sent : Sent) → GoesWith (mailbox_seen c.self.inside) past → sent.ticket ≡ c.in_ok-ticket.ticket
    → GoesWith (mailbox_seen (record { tickets = c.hand_out.new.self; errands = c.push_reserved.new.self; waiting = c.self.inside.waiting + 1; unread = c.reserve.new.self })) (Gave sent ∷ past)
stood g c past sent goes is =
    handed (mailbox_seen c.self.inside) _ past sent goes (c.in_ok-ticket.ensures.goes_on past sent goes.tickets_are is) (is ∙ c.in_ok-ticket.ensures.ticket)
    c.in_ok-ticket.ensures.count (omega (arith, ap length c.push_reserved.ensures.items, ap length c.reserve-2.ensures.items, length-append c.reserve-2.new.self.items (c.args.errand ∷ []))) refl

pub invariant_of-self-2 : goal.invariant_of-self-2
invariant_of-self-2 g c =
    let known = c.self.invariant.0 in
    let sent : Sent = record { ticket = c.in_ok-ticket.ticket; device = 0; msg = Parts } in
    ((Gave sent ∷ known.0, stood g c known.0 sent known.1 refl), omega (arith, c.self.invariant.1, c.in_ok-reserve.ensures.ok, ap length c.reserve.ensures.items, c.reserve.ensures.len))

pub returns-clause-goes_with : goal.returns-clause-goes_with
returns-clause-goes_with g c = λ past sent goes is. stood g c past sent (subst (λ (mailbox : MailboxModel g.row.E.Denot). GoesWith mailbox past) (sym c.self.view_is) goes) is
