-- A put hands out what is due, waits for answers, and then ends.
use Rattle.std.proofs.Common.{◌≡◌, ◌<◌, inl, inr, List, length, None, is_some, refl, sym, ap, subst, ◌∙◌}
use Rattle.std.specs.List.{slice_get}
use Rattle.std.proofs.lemmas.Bool.{ltb-false, ltb-true}
use Rattle.sw_message.specs.Transcript.{Over, Step, given}
use Rattle.sw_quorum.proofs.DueLaws as laws
use Rattle.sw_quorum.specs.Transcripts.{closed_count}
use Rattle.sw_put.specs.Inside.{put_seen}
use Rattle.sw_put.specs.Put.{Begun, due, put_message, put_next}
use Rattle.sw_put.specs.Standing.{PutModel, Stands}
use Rattle.sw_put.proofs.Changes.{by_fields, stands_ended}
use Rattle.sw_put.proofs.Transcripts.{handed, own}
use Rattle.sw_put.proofs.Warrants.{is_of, warranted}
use Rattle.sw_put.proofs.operation.PutOpOperation.next.Goals as goal

pub returns-in-Some-clause-hands : goal.returns-in-Some-clause-hands
returns-in-Some-clause-hands c = λ begun past stands.
    let hands = c.in_ok-hand_out.ensures.hands begun past stands in (
      hands,
      is_of begun past c.in_ok-hand_out.field-0 stands.valid stands.run (handed begun past c.in_ok-hand_out.field-0 hands).1,
      ap is_some c.in_ok-hand_out.ensures.end ∙ ap (λ (put : PutModel). is_some put.end) (sym c.self.view_is) ∙ sym c.is_some.ensures ∙ c.if-is_some.false,
    )

pub returns-in-Some-clause-warranted : goal.returns-in-Some-clause-warranted
returns-in-Some-clause-warranted c = λ begun past learnt stands has known.
    warranted begun learnt past c.in_ok-hand_out.field-0 stands.valid stands.run has known (handed begun past c.in_ok-hand_out.field-0 (c.in_ok-hand_out.ensures.hands begun past stands)).1

pub returns-then-lacks_answers-clause-hands : goal.returns-then-lacks_answers-clause-hands
returns-then-lacks_answers-clause-hands c = λ begun past stands.
    let stood = by_fields c.self.inside c.args.self.now begun past c.self.view_is stands in
    let none : slice_get (due begun past) (length (given past)) ≡ None =
    ap (slice_get (due begun past)) (sym (c.count-count.ensures.given past stood.tickets_are)) ∙ sym (c.due.ensures begun past stands) ∙ c.in_default.is in
    let few : closed_count past < length (due begun past) = ltb-true _ _ (sym (c.lacks_answers.ensures begun past stands) ∙ c.if-lacks_answers.true) in
    inr (
      laws.waits (put_message begun) (due begun past) past none few,
      laws.waits-for (put_message begun) (own begun) (due begun) past stands.run none few,
      ap (λ (put : PutModel). is_some put.end) (sym c.self.view_is) ∙ sym c.is_some.ensures ∙ c.if-is_some.false,
    )

-- it is over
over : (c : goal.Joined-self) (begun : Begun) (past : List Step) → Stands c.args.self.now begun past → put_next begun past ≡ Over
over c begun past stands =
    let stood = by_fields c.self.inside c.args.self.now begun past c.self.view_is stands in
    laws.is_over (put_message begun) (due begun past) past
    (ap (slice_get (due begun past)) (sym (c.count-count.ensures.given past stood.tickets_are)) ∙ sym (c.due.ensures begun past stands) ∙ c.in_default.is)
    (ltb-false _ _ (sym (c.lacks_answers.ensures begun past stands) ∙ c.if-lacks_answers.false))

pub returns-clause-hands : goal.returns-clause-hands
returns-clause-hands c = λ begun past stands. inl (over c begun past stands, refl)

pub returns-clause-goes_on : goal.returns-clause-goes_on
returns-clause-goes_on c = λ begun past stands.
    stands_ended (put_seen c.self.inside) begun past (by_fields c.self.inside c.args.self.now begun past c.self.view_is stands) c.in_ok-ending.field-0
    (c.in_ok-ending.ensures begun past stands (over c begun past stands))

pub invariant_of-self : goal.invariant_of-self
invariant_of-self c =
    let stood = c.self.invariant.0 in
    let begun = stood.0 in
    let past = stood.1 in
    let stands : Stands c.args.self.now begun past = subst (λ (put : PutModel). Stands put begun past) c.self.view_is stood.2 in
    let over = laws.is_over (put_message begun) (due begun past) past
    (ap (slice_get (due begun past)) (sym (c.count-count.ensures.given past stood.2.tickets_are)) ∙ sym (c.due.ensures begun past stands) ∙ c.in_default.is)
    (ltb-false _ _ (sym (c.lacks_answers.ensures begun past stands) ∙ c.if-lacks_answers.false)) in
    ((begun, past, stands_ended (put_seen c.self.inside) begun past stood.2 c.in_ok-ending.field-0 (c.in_ok-ending.ensures begun past stands over)), c.self.invariant.1, c.self.invariant.2, c.self.invariant.3)
