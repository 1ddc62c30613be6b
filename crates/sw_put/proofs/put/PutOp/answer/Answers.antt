-- An answer to an open message is taken, and another is ignored.
use Rattle.std.proofs.Common.{◌≡◌, ◌+◌, ◌++◌, [], ◌∷◌, length, Some, sym, ap, subst, ◌∙◌, arith}
use Rattle.std.specs.List.{slice_get}
use Rattle.sw_message.specs.Transcript.{after_answer, open_at}
use Rattle.sw_message.specs.declared.target.Target.{Target}
use Rattle.sw_quorum.proofs.DueLaws.{never-open}
use Rattle.sw_quorum.proofs.Laws.{counts-within}
use Rattle.sw_quorum.specs.Tally.{Counts, counts_of}
use Rattle.sw_quorum.proofs.Transcripts.{none_at, some_at, told-ignored}
use Rattle.sw_quorum.specs.declared.verdict.Verdict.{Verdict}
use Rattle.sw_put.specs.Inside.{put_seen}
use Rattle.sw_put.specs.Put.{due, put_message, stores}
use Rattle.sw_put.specs.Standing.{PutModel, Stands}
use Rattle.sw_put.proofs.Changes.{by_fields, commit_room, nothing_planned, stands_committed, stands_ignored, stands_stored, store_room}
use Rattle.sw_put.proofs.Dues.{length-stores_due}
use Rattle.sw_put.proofs.Transcripts.{grew, own}
use Rattle.sw_put.proofs.put.PutOp.answer.Goals as goal

-- ---- none is open

pub returns-in_default-clause-stands : goal.returns-in_default-clause-stands
returns-in_default-clause-stands c = λ begun past stands.
    let none = never-open (put_message begun) (own begun) (due begun) past c.args.ticket stands.run (grew begun past stands.run) (sym (c.due.ensures begun past stands) ∙ c.in_default.is) in
    subst (λ path. Stands c.args.self.now begun path) (sym (told-ignored past c.args.ticket c.args.answer none)) stands

pub returns-then-not-close-clause-stands : goal.returns-then-not-close-clause-stands
returns-then-not-close-clause-stands c = λ begun past stands.
    let stood = by_fields c.self.inside c.args.self.now begun past c.self.view_is stands in
    let none = none_at (open_at c.args.ticket past) (sym (c.if-not-close.ensures.was_open past stood.tickets_are)) in
    stands_ignored (put_seen c.self.inside) begun past stood _ c.args.ticket c.args.answer none (c.if-not-close.ensures.goes_on past c.args.answer stood.tickets_are)

pub invariant_of-self : goal.invariant_of-self
invariant_of-self c =
    let stood = c.self.invariant.0 in
    let none = none_at (open_at c.args.ticket stood.1) (sym (c.if-not-close.ensures.was_open stood.1 stood.2.tickets_are)) in (
      (
        stood.0,
        after_answer stood.1 c.args.ticket c.args.answer,
        stands_ignored (put_seen c.self.inside) stood.0 stood.1 stood.2 _ c.args.ticket c.args.answer none (c.if-not-close.ensures.goes_on stood.1 c.args.answer stood.2.tickets_are),
      ),
      c.self.invariant.1,
      c.self.invariant.2,
      c.self.invariant.3,
    )

-- ---- a fragment was answered

pub take-requires : goal.take-requires
take-requires c =
    let stood = c.self.invariant.0 in
    let stands = subst (λ (put : PutModel). Stands put stood.0 stood.1) c.self.view_is stood.2 in
    let sent = some_at (open_at c.args.ticket stood.1) (sym (c.if-not-close.ensures.was_open stood.1 stood.2.tickets_are)) in
    let found : slice_get (due stood.0 stood.1) c.args.ticket ≡ Some _ = sym (c.due.ensures stood.0 stood.1 stands) ∙ c.in-Some.is ∙ ap Some c.in-StoreAt.is in
    omega (arith, store_room (put_seen c.self.inside) stood.0 stood.1 stood.2 c.args.ticket c.in-StoreAt.target sent.0 sent.1 found, c.self.invariant.1)

pub plan_commits-requires-clause-empty : goal.plan_commits-requires-clause-empty
plan_commits-requires-clause-empty c =
    let stood = c.self.invariant.0 in
    let stands = subst (λ (put : PutModel). Stands put stood.0 stood.1) c.self.view_is stood.2 in
    let sent = some_at (open_at c.args.ticket stood.1) (sym (c.if-not-close.ensures.was_open stood.1 stood.2.tickets_are)) in
    nothing_planned (put_seen c.self.inside) stood.0 stood.1 stood.2 c.args.ticket c.in-StoreAt.target sent.0 sent.1 (sym (c.due.ensures stood.0 stood.1 stands) ∙ c.in-Some.is ∙ ap Some c.in-StoreAt.is)

pub plan_commits-requires-clause-room : goal.plan_commits-requires-clause-room
plan_commits-requires-clause-room c =
    let stood = c.self.invariant.0 in
    let stands = subst (λ (put : PutModel). Stands put stood.0 stood.1) c.self.view_is stood.2 in
    let sent = some_at (open_at c.args.ticket stood.1) (sym (c.if-not-close.ensures.was_open stood.1 stood.2.tickets_are)) in
    let taken = c.take.ensures.taken (stores stood.1) stood.2.stores_are in
    omega (
      arith,
      ap (λ (counts : Counts Target). length counts.done) taken,
      ap (λ (counts : Counts Target). counts.answered) taken,
      (counts-within (stores stood.1 ++ record { about = c.in-StoreAt.target; verdict = c.store_verdict.result } ∷ [])).done,
      c.take.ensures.answered,
      store_room (put_seen c.self.inside) stood.0 stood.1 stood.2 c.args.ticket c.in-StoreAt.target sent.0 sent.1 (sym (c.due.ensures stood.0 stood.1 stands) ∙ c.in-Some.is ∙ ap Some c.in-StoreAt.is),
      c.self.invariant.3,
    )

pub returns-in-StoreAt-clause-stands : goal.returns-in-StoreAt-clause-stands
returns-in-StoreAt-clause-stands c = λ begun past stands.
    let stood = by_fields c.self.inside c.args.self.now begun past c.self.view_is stands in
    let sent = some_at (open_at c.args.ticket past) (sym (c.if-not-close.ensures.was_open past stood.tickets_are)) in
    stands_stored (put_seen c.self.inside) begun past stood c.args.ticket c.in-StoreAt.target sent.0 sent.1 (sym (c.due.ensures begun past stands) ∙ c.in-Some.is ∙ ap Some c.in-StoreAt.is)
    _ _ _ (c.len.result + c.min.result) c.args.answer
    (c.if-not-close.ensures.goes_on past c.args.answer stood.tickets_are)
    (λ answers is. c.take.ensures.taken answers is ∙ ap (λ (verdict : Verdict). counts_of (answers ++ record { about = c.in-StoreAt.target; verdict = verdict } ∷ [])) c.store_verdict.ensures)
    (λ answers is. omega (
      arith,
      c.len.ensures,
      c.len-in-StoreAt.ensures,
      c.min.ensures,
      c.self.inside.primaries.ok,
      c.self.inside.handoffs.ok,
      ap length c.missed-missed.ensures,
      ap (λ (counts : Counts Target). length counts.missed) is,
      ap length stood.primaries_are,
      ap length stood.handoffs_are,
      length-stores_due begun answers,
    ))
    c.plan_commits.ensures.planned

pub invariant_of-self-in-StoreAt : goal.invariant_of-self-in-StoreAt
invariant_of-self-in-StoreAt c =
    let stood = c.self.invariant.0 in (
      (
        stood.0,
        after_answer stood.1 c.args.ticket c.args.answer,
        returns-in-StoreAt-clause-stands c stood.0 stood.1 (subst (λ (put : PutModel). Stands put stood.0 stood.1) c.self.view_is stood.2),
      ),
      omega (arith, c.take.ensures.room, c.self.invariant.1),
      c.self.invariant.2,
      omega (arith, c.plan_commits.ensures.room, c.self.invariant.3),
    )

-- ---- a commit was answered

pub take-requires-in-CommitAt : goal.take-requires-in-CommitAt
take-requires-in-CommitAt c =
    let stood = c.self.invariant.0 in
    let stands = subst (λ (put : PutModel). Stands put stood.0 stood.1) c.self.view_is stood.2 in
    let sent = some_at (open_at c.args.ticket stood.1) (sym (c.if-not-close.ensures.was_open stood.1 stood.2.tickets_are)) in
    omega (
      arith,
      commit_room (put_seen c.self.inside) stood.0 stood.1 stood.2 c.args.ticket c.in-CommitAt.target sent.0 sent.1 (sym (c.due.ensures stood.0 stood.1 stands) ∙ c.in-Some.is ∙ ap Some c.in-CommitAt.is),
      c.self.invariant.2,
    )

pub returns-clause-stands : goal.returns-clause-stands
returns-clause-stands c = λ begun past stands.
    let stood = by_fields c.self.inside c.args.self.now begun past c.self.view_is stands in
    let sent = some_at (open_at c.args.ticket past) (sym (c.if-not-close.ensures.was_open past stood.tickets_are)) in
    stands_committed (put_seen c.self.inside) begun past stood c.args.ticket c.in-CommitAt.target sent.0 sent.1 (sym (c.due.ensures begun past stands) ∙ c.in-Some.is ∙ ap Some c.in-CommitAt.is)
    _ _ c.args.answer
    (c.if-not-close.ensures.goes_on past c.args.answer stood.tickets_are)
    (λ answers is. c.take-in-CommitAt.ensures.taken answers is ∙ ap (λ (verdict : Verdict). counts_of (answers ++ record { about = c.in-CommitAt.target; verdict = verdict } ∷ [])) c.commit_verdict.ensures)

pub invariant_of-self-in-CommitAt : goal.invariant_of-self-in-CommitAt
invariant_of-self-in-CommitAt c =
    let stood = c.self.invariant.0 in
    let stands = subst (λ (put : PutModel). Stands put stood.0 stood.1) c.self.view_is stood.2 in
    let sent = some_at (open_at c.args.ticket stood.1) (sym (c.if-not-close.ensures.was_open stood.1 stood.2.tickets_are)) in (
      (
        stood.0,
        after_answer stood.1 c.args.ticket c.args.answer,
        stands_committed (put_seen c.self.inside) stood.0 stood.1 stood.2 c.args.ticket c.in-CommitAt.target sent.0 sent.1 (sym (c.due.ensures stood.0 stood.1 stands) ∙ c.in-Some.is ∙ ap Some c.in-CommitAt.is)
            _ _ c.args.answer
            (c.if-not-close.ensures.goes_on stood.1 c.args.answer stood.2.tickets_are)
            (λ answers is. c.take-in-CommitAt.ensures.taken answers is ∙ ap (λ (verdict : Verdict). counts_of (answers ++ record { about = c.in-CommitAt.target; verdict = verdict } ∷ [])) c.commit_verdict.ensures),
      ),
      c.self.invariant.1,
      omega (arith, c.take-in-CommitAt.ensures.room, c.self.invariant.2),
      c.self.invariant.3,
    )
