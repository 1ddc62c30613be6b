-- The message is that of its ticket.
use Rattle.std.proofs.Common.{◌≡◌, ◌-◌, List, ◌∷◌, length, Some, refl, sym, ap, subst, ◌∙◌, arith}
use Rattle.std.specs.List.{slice_get}
use Rattle.std.proofs.lemmas.Option.{slice_get_within}
use Rattle.sw_message.specs.Transcript.{Gave, Hand, Step}
use Rattle.sw_message.specs.declared.message.Msg.TheVariants.{Delete}
use Rattle.sw_message.specs.declared.sent.Sent.{Sent}
use Rattle.sw_delete.specs.Delete.{Begun, delete_next}
use Rattle.sw_delete.specs.Inside.{delete_seen}
use Rattle.sw_delete.specs.Standing.{DeleteModel, Stands, most_messages}
use Rattle.sw_delete.proofs.Changes.{due_is, due_seen, hands, stands_handed}
use Rattle.sw_delete.proofs.Dues.{length-due}
use Rattle.sw_delete.proofs.delete.DeleteOp.hand_out.Goals as goal

abbrev seen : goal.After-stamp-1 → DeleteModel
seen c = delete_seen c.self.inside

abbrev sent : goal.After-stamp-1 → Sent
sent c = record { ticket = c.in_ok-ticket.ticket; device = c.args.device; msg = Delete c.self.inside.place c.self.inside.stamp }

-- the device that is due
due : (c : goal.After-stamp-1) → slice_get (due_seen (seen c)) (length c.self.inside.tickets) ≡ Some c.args.device
due c = let is = c.requires in
    subst (λ (delete : DeleteModel). slice_get (due_seen delete) (length delete.tickets) ≡ Some c.args.device) (sym c.self.view_is)
    (ap (λ these. slice_get these (length c.args.self.now.tickets)) (sym (due_is _ is.0 is.1 is.2)) ∙ is.3)

-- its message is handed out
handed : (c : goal.After-stamp-1) (begun : Begun) (past : List Step) → Stands (seen c) begun past → delete_next begun past ≡ Hand (sent c)
handed c begun past stands = hands (seen c) begun past stands c.in_ok-ticket.ticket c.args.device c.in_ok-ticket.ensures.ticket (due c)

pub returns-clause-stands : goal.returns-clause-stands
returns-clause-stands c = λ begun past stands.
    let stood = subst (λ (delete : DeleteModel). Stands delete begun past) (sym c.self.view_is) stands in
    stands_handed (seen c) begun past stood _ (sent c) (c.in_ok-ticket.ensures.goes_on past (sent c) stood.tickets_are refl) (handed c begun past stood)

pub returns-clause-hands : goal.returns-clause-hands
returns-clause-hands c = λ begun past stands. handed c begun past (subst (λ (delete : DeleteModel). Stands delete begun past) (sym c.self.view_is) stands)

pub invariant_of-self-2 : goal.invariant_of-self-2
invariant_of-self-2 c = let is = c.requires in ((is.0, Gave (sent c) ∷ is.1, returns-clause-stands c is.0 is.1 is.2), c.self.invariant.1)

pub returns-clause-fewer : goal.returns-clause-fewer
returns-clause-fewer c =
    let before = ap (λ (delete : DeleteModel). most_messages delete - length delete.tickets) c.self.view_is in
    omega (arith, before, slice_get_within (due_seen (seen c)) (length c.self.inside.tickets) c.args.device (due c), length-due c.self.inside.primaries.items c.self.inside.handoffs.items (length c.self.inside.tally.counts.missed), c.in_ok-ticket.ensures.count)
