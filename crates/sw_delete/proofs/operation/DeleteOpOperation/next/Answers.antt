-- A delete hands out what is due, waits for answers, and then ends.
use Rattle.std.proofs.Common.{◌≡◌, ◌<◌, inl, inr, List, length, None, is_some, refl, sym, ap, subst, ◌∙◌, arith}
use Rattle.std.specs.List.{slice_get}
use Rattle.sw_message.specs.Transcript.{Over, Step, given}
use Rattle.sw_delete.specs.Delete.{Begun, delete_next, due}
use Rattle.sw_delete.specs.Inside.{delete_seen}
use Rattle.sw_delete.specs.Standing.{DeleteModel, Stands}
use Rattle.sw_delete.proofs.Changes.{by_fields, is_over, stands_ended, waits, waits_for}
use Rattle.sw_delete.proofs.Devices.{is_of, is_warranted}
use Rattle.sw_delete.proofs.Transcripts.{handed}
use Rattle.sw_delete.proofs.operation.DeleteOpOperation.next.Goals as goal

pub returns-in-Some-clause-hands : goal.returns-in-Some-clause-hands
returns-in-Some-clause-hands c = λ begun past stands.
    let hands = c.in_ok-hand_out.ensures.hands begun past stands in (
      hands,
      is_of begun past c.in_ok-hand_out.field-0 stands.valid (handed begun past c.in_ok-hand_out.field-0 hands).1,
      ap is_some c.in_ok-hand_out.ensures.end ∙ ap (λ (delete : DeleteModel). is_some delete.end) (sym c.self.view_is) ∙ sym c.is_some.ensures ∙ c.if-is_some.false,
    )

pub returns-in-Some-clause-warranted : goal.returns-in-Some-clause-warranted
returns-in-Some-clause-warranted c = λ begun past learnt stands has known.
    is_warranted begun past c.in_ok-hand_out.field-0 learnt has (handed begun past c.in_ok-hand_out.field-0 (c.in_ok-hand_out.ensures.hands begun past stands)).1

pub returns-then-answered-due_count-clause-hands : goal.returns-then-answered-due_count-clause-hands
returns-then-answered-due_count-clause-hands c = λ begun past stands.
    let stood = by_fields c.self.inside c.args.self.now begun past c.self.view_is stands in
    let none : slice_get (due begun past) (length (given past)) ≡ None =
    ap (slice_get (due begun past)) (sym (c.count-count.ensures.given past stood.tickets_are)) ∙ sym (c.due.ensures begun past stands) ∙ c.in_default.is in
    let few : c.self.inside.tally.counts.answered < length (due begun past) = omega (arith, c.if-answered-due_count.true, c.answered.ensures, c.due_count.ensures begun past stands) in
    inr (
      waits (delete_seen c.self.inside) begun past stood none few,
      waits_for (delete_seen c.self.inside) begun past stood none few,
      ap (λ (delete : DeleteModel). is_some delete.end) (sym c.self.view_is) ∙ sym c.is_some.ensures ∙ c.if-is_some.false,
    )

-- it is over
over : (c : goal.Joined-self) (begun : Begun) (past : List Step) → Stands c.args.self.now begun past → delete_next begun past ≡ Over
over c begun past stands =
    let stood = by_fields c.self.inside c.args.self.now begun past c.self.view_is stands in
    is_over (delete_seen c.self.inside) begun past stood
    (ap (slice_get (due begun past)) (sym (c.count-count.ensures.given past stood.tickets_are)) ∙ sym (c.due.ensures begun past stands) ∙ c.in_default.is)
    (omega (arith, c.if-answered-due_count.false, c.answered.ensures, c.due_count.ensures begun past stands))

pub returns-clause-hands : goal.returns-clause-hands
returns-clause-hands c = λ begun past stands. inl (over c begun past stands, refl)

pub returns-clause-goes_on : goal.returns-clause-goes_on
returns-clause-goes_on c = λ begun past stands.
    stands_ended (delete_seen c.self.inside) begun past (by_fields c.self.inside c.args.self.now begun past c.self.view_is stands) c.in_ok-ending.field-0
    (c.in_ok-ending.ensures begun past stands (over c begun past stands))

pub invariant_of-self : goal.invariant_of-self
invariant_of-self c =
    let stood = c.self.invariant.0 in
    let begun = stood.0 in
    let past = stood.1 in
    let stands : Stands c.args.self.now begun past = subst (λ (delete : DeleteModel). Stands delete begun past) c.self.view_is stood.2 in
    let over = is_over (delete_seen c.self.inside) begun past stood.2
    (ap (slice_get (due begun past)) (sym (c.count-count.ensures.given past stood.2.tickets_are)) ∙ sym (c.due.ensures begun past stands) ∙ c.in_default.is)
    (omega (arith, c.if-answered-due_count.false, c.answered.ensures, c.due_count.ensures begun past stands)) in
    ((begun, past, stands_ended (delete_seen c.self.inside) begun past stood.2 c.in_ok-ending.field-0 (c.in_ok-ending.ensures begun past stands over)), c.self.invariant.1)
