-- An answer to an open message is taken, and another is ignored.
use Rattle.std.proofs.Common.{◌≡◌, ◌++◌, ◌||◌, [], ◌∷◌, refl, sym, ap, subst, ◌∙◌, arith}
use Rattle.sw_message.specs.Transcript.{after_answer, open_at}
use Rattle.sw_quorum.proofs.DueLaws.{never-open}
use Rattle.sw_quorum.specs.Tally.{counts_of}
use Rattle.sw_quorum.proofs.Transcripts.{none_at, some_at, told-ignored}
use Rattle.sw_quorum.specs.declared.verdict.Verdict.{Verdict}
use Rattle.sw_delete.specs.Delete.{delete_message, due, says_existed}
use Rattle.sw_delete.specs.Inside.{delete_seen}
use Rattle.sw_delete.specs.Standing.{DeleteModel, Stands}
use Rattle.sw_delete.proofs.Changes.{answers_few, by_fields, stands_ignored, stands_told}
use Rattle.sw_delete.proofs.Dues.{grew}
use Rattle.sw_delete.proofs.delete.DeleteOp.answer.Goals as goal
use Rattle.sw_delete.proofs.delete.DeleteOp.answer.Goals.{then-self, else-self}

pub returns-in_default-clause-stands : goal.returns-in_default-clause-stands
returns-in_default-clause-stands c = λ begun past stands.
    let none = never-open (delete_message begun) (λ n d. refl) (due begun) past c.args.ticket stands.run (grew begun past) (sym (c.due.ensures begun past stands) ∙ c.in_default.is) in
    subst (λ path. Stands c.args.self.now begun path) (sym (told-ignored past c.args.ticket c.args.answer none)) stands

pub take-requires : goal.take-requires
take-requires c =
    let stood = c.self.invariant.0 in
    let sent = some_at (open_at c.args.ticket stood.1) (sym (c.if-close.ensures.was_open stood.1 stood.2.tickets_are)) in
    omega (arith, answers_few (delete_seen c.self.inside) stood.0 stood.1 stood.2 c.args.ticket sent.0 sent.1, c.self.invariant.1)

pub returns-then-close-clause-stands : goal.returns-then-close-clause-stands
returns-then-close-clause-stands c = λ begun past stands.
    let stood = by_fields c.self.inside c.args.self.now begun past c.self.view_is stands in
    let sent = some_at (open_at c.args.ticket past) (sym (c.if-close.ensures.was_open past stood.tickets_are)) in
    let existed : c.if-self.self ≡ (c.self.inside.existed || says_existed c.args.answer) = elim c.if-self.branch [
      | then-self w ↦ w.self-is ∙ w.if-self.true ∙ sym (ap (λ b. b || says_existed c.args.answer) w.if-self.true)
      | else-self w ↦ w.self-is ∙ w.says_existed-self-inside.ensures ∙ sym (ap (λ b. b || says_existed c.args.answer) w.if-self.false)
    ] in
    stands_told (delete_seen c.self.inside) begun past stood _ _ _ c.args.ticket c.in-Some.device c.args.answer sent.0 sent.1
    (sym (c.due.ensures begun past stands) ∙ c.in-Some.is) (c.if-close.ensures.goes_on past c.args.answer stood.tickets_are) existed
    (λ answers is. c.take.ensures.taken answers is ∙ ap (λ (verdict : Verdict). counts_of (answers ++ record { about = c.in-Some.device; verdict = verdict } ∷ [])) c.delete_verdict.ensures)

pub invariant_of-self : goal.invariant_of-self
invariant_of-self c =
    let stood = c.self.invariant.0 in (
      (stood.0, after_answer stood.1 c.args.ticket c.args.answer, returns-then-close-clause-stands c stood.0 stood.1 (subst (λ (delete : DeleteModel). Stands delete stood.0 stood.1) c.self.view_is stood.2)),
      omega (arith, c.take.ensures.room, c.self.invariant.1),
    )

pub returns-clause-stands : goal.returns-clause-stands
returns-clause-stands c = λ begun past stands.
    let stood = by_fields c.self.inside c.args.self.now begun past c.self.view_is stands in
    let none = none_at (open_at c.args.ticket past) (sym (c.if-close.ensures.was_open past stood.tickets_are)) in
    stands_ignored (delete_seen c.self.inside) begun past stood _ c.args.ticket c.args.answer none (c.if-close.ensures.goes_on past c.args.answer stood.tickets_are)

pub invariant_of-self-else-close : goal.invariant_of-self-else-close
invariant_of-self-else-close c =
    let stood = c.self.invariant.0 in
    let none = none_at (open_at c.args.ticket stood.1) (sym (c.if-close.ensures.was_open stood.1 stood.2.tickets_are)) in (
      (
        stood.0,
        after_answer stood.1 c.args.ticket c.args.answer,
        stands_ignored (delete_seen c.self.inside) stood.0 stood.1 stood.2 _ c.args.ticket c.args.answer none (c.if-close.ensures.goes_on stood.1 c.args.answer stood.2.tickets_are),
      ),
      c.self.invariant.1,
    )
