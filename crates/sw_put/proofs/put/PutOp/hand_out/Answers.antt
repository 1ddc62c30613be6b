-- The message is that of its ticket.
use Rattle.std.proofs.Common.{◌≡◌, ◌-◌, List, ◌∷◌, length, Some, refl, sym, ap, subst, ◌∙◌, arith}
use Rattle.std.specs.List.{slice_get}
use Rattle.std.proofs.lemmas.Option.{slice_get_within}
use Rattle.sw_message.specs.Transcript.{Gave, Hand, Step, given}
use Rattle.sw_message.specs.declared.sent.Sent.{Sent}
use Rattle.sw_quorum.proofs.DueLaws as laws
use Rattle.sw_put.specs.Inside.{put_seen}
use Rattle.sw_put.specs.Plans.{device_in}
use Rattle.sw_put.specs.Put.{Begun, due, put_message, put_next}
use Rattle.sw_put.specs.Standing.{PutModel, Stands, most_messages}
use Rattle.sw_put.proofs.Changes.{by_fields, due-few, due_is, due_seen, stands_handed}
use Rattle.sw_put.proofs.put.PutOp.hand_out.Goals as goal

abbrev seen : goal.In_ok-ticket → PutModel
seen c = put_seen c.self.inside

abbrev sent : goal.In_ok-ticket → Sent
sent c = record { ticket = c.in_ok-ticket.ticket; device = c.device-device.result; msg = c.in_ok-msg.msg }

-- what is due
found : (c : goal.In_ok-ticket) → slice_get (due_seen (seen c)) (length c.self.inside.tickets) ≡ Some c.args.errand
found c = let is = c.requires in
    subst (λ (put : PutModel). slice_get (due_seen put) (length put.tickets) ≡ Some c.args.errand) (sym c.self.view_is)
    (ap (λ these. slice_get these (length c.args.self.now.tickets)) (sym (due_is _ is.0 is.1 is.2)) ∙ is.3)

-- its message is handed out
handed : (c : goal.In_ok-ticket) (begun : Begun) (past : List Step) → Stands c.args.self.now begun past → put_next begun past ≡ Hand (sent c)
handed c begun past stands =
    let stood = by_fields c.self.inside c.args.self.now begun past c.self.view_is stands in
    let number : c.in_ok-ticket.ticket ≡ length (given past) = c.in_ok-ticket.ensures.ticket ∙ stood.tickets_are.count in
    let at : slice_get (due begun past) (length (given past)) ≡ Some c.args.errand =
    ap (slice_get (due begun past)) (sym stood.tickets_are.count) ∙ ap (λ these. slice_get these (length c.self.inside.tickets)) (due_is (seen c) begun past stood) ∙ found c in
    laws.hands (put_message begun) (due begun past) past c.args.errand at
    ∙ ap Hand (c.in_ok-msg.ensures begun past (length (given past)) stands at (length (given past)))
    ∙ ap (λ n. Hand (record { ticket = n; device = device_in c.args.errand; msg = c.in_ok-msg.msg })) (sym number)
    ∙ ap (λ device. Hand (record { ticket = c.in_ok-ticket.ticket; device = device; msg = c.in_ok-msg.msg })) (sym c.device-device.ensures)

pub returns-clause-stands : goal.returns-clause-stands
returns-clause-stands c = λ begun past stands.
    let stood = by_fields c.self.inside c.args.self.now begun past c.self.view_is stands in
    stands_handed (seen c) begun past stood _ (sent c) (c.in_ok-ticket.ensures.goes_on past (sent c) stood.tickets_are refl) (handed c begun past stands)

pub returns-clause-hands : goal.returns-clause-hands
returns-clause-hands c = λ begun past stands. handed c begun past stands

pub invariant_of-self-2 : goal.invariant_of-self-2
invariant_of-self-2 c = let is = c.requires in ((is.0, Gave (sent c) ∷ is.1, returns-clause-stands c is.0 is.1 is.2), c.self.invariant.1, c.self.invariant.2, c.self.invariant.3)

pub returns-clause-fewer : goal.returns-clause-fewer
returns-clause-fewer c =
    let is = c.requires in
    let stood = by_fields c.self.inside c.args.self.now is.0 is.1 c.self.view_is is.2 in
    let before = ap (λ (put : PutModel). most_messages put - length put.tickets) c.self.view_is in
    omega (
      arith,
      before,
      slice_get_within (due_seen (seen c)) (length c.self.inside.tickets) c.args.errand (found c),
      ap length (due_is (seen c) is.0 is.1 stood),
      due-few (seen c) is.0 is.1 stood,
      c.in_ok-ticket.ensures.count,
    )
