-- A pass hands on what its stage hands out; where the stage is over, another one follows, or none.
use Rattle.std.proofs.Common.{◌≡◌, ◌⊎◌, inl, inr, ◌∷◌, true, false, List, Bool, Option, Some, None, Result, Ok, Err, is_some, sym, ap, ◌∙◌, IsTrue, true≢false}
use Rattle.std.specs.Prelude.{IfOk, IsSome, MatchOption}
use Rattle.sw_message.specs.Running.{IsOf}
use Rattle.sw_message.specs.Transcript.{Gave, Hand, Over, Step, Wait, is_waiting}
use Rattle.sw_message.specs.declared.sent.Sent.{Sent}
use Rattle.sw_daemon.specs.Coursing.{Course, is_over}
use Rattle.sw_daemon.specs.Pass.{Begun, IsNext}
use Rattle.sw_daemon.specs.Standing.{Stands}
use Rattle.sw_daemon.proofs.Outcomes.{matched_none}
use Rattle.sw_daemon.proofs.pass_op.PassOpOperation.next.Goals as goal
use Rattle.sw_daemon.proofs.pass_op.PassOpOperation.next.Goals.{then-is_some-via-then-is_some, then-is_some-via-else-is_some+then-not-is_stage_over}

module _ (begun : Begun) (past : List Step) where
  -- what is said of a stage that goes on, and of a pass
  abbrev Hands : Option Sent → (over : Bool) → Type 0
  Hands handed over = MatchOption handed ((over ≡ true) ⊎ (IsNext begun past Wait × IsTrue (is_waiting past) × (over ≡ false))) (λ sent. IsNext begun past (Hand sent) × IsOf begun.cluster sent.device sent.msg)

  abbrev GoesOn : Option Sent → (ended : Bool) → Type 0
  GoesOn handed ended = MatchOption handed ((IsNext begun past Over × (ended ≡ true)) ⊎ (IsNext begun past Wait × IsTrue (is_waiting past) × (ended ≡ false)))
      (λ sent. IsNext begun past (Hand sent) × IsOf begun.cluster sent.device sent.msg × (ended ≡ false))

  goes_on : (handed : Option Sent) (over ended : Bool) → (is_some handed ≡ true) ⊎ (over ≡ false) → ended ≡ false → Hands handed over → GoesOn handed ended
  goes_on None over ended (inl some) goes hands = absurd (true≢false (sym some))
  goes_on None over ended (inr on) goes (inl ends) = absurd (true≢false (sym ends ∙ on))
  goes_on None over ended (inr on) goes (inr waits) = inr (waits.0, waits.1, goes)
  goes_on (Some sent) over ended on goes hands = (hands.0, hands.1, goes)

  first_goes : {E : Type 0} (result : Result (Option Sent) E) (over ended : Bool) → IfOk result (λ handed. IsSome handed) → ended ≡ false → IfOk result (λ handed. Hands handed over) → IfOk result (λ handed. GoesOn handed ended)
  first_goes (Ok handed) over ended some goes hands = goes_on handed over ended (inl some) goes hands
  first_goes (Err e) over ended some goes hands = hands

pub returns-then-is_some-clause-hands : goal.returns-then-is_some-clause-hands
returns-then-is_some-clause-hands c = λ begun past stands.
    goes_on begun past c.in_ok-handed.handed _ _
    (elim c.then-is_some.branch [
      | then-is_some-via-then-is_some w ↦ inl (sym c.is_some.ensures ∙ w.if-is_some.true)
      | then-is_some-via-else-is_some+then-not-is_stage_over w ↦ inr (sym w.is_stage_over.ensures ∙ w.if-not-is_stage_over.true)
    ])
    (ap (λ (course : Course). is_over course.task) c.hand_on.ensures.course ∙ sym c.ended.ensures.ended ∙ c.if-ended.false)
    (c.in_ok-handed.ensures.hands begun past stands)

pub returns-then-ended-2-clause-hands : goal.returns-then-ended-2-clause-hands
returns-then-ended-2-clause-hands c = λ begun past stands.
    let on = matched_none c.in_ok-handed.handed (λ sent. Stands c.hand_on.new.self begun (Gave sent ∷ past)) (sym c.is_some.ensures ∙ c.if-is_some.false) (c.in_ok-handed.ensures.goes_on begun past stands) in
    inl (c.ended-2.ensures.over begun past (c.in_ok-turn.ensures.stands begun past on) c.if-ended-2.true, sym c.if-ended-2.ensures.ended)

turned : (c : goal.Joined-handed-5) (begun : Begun) (past : List Step) → Stands c.args.self.now begun past → Stands c.turn.new.self begun past
turned c begun past stands =
    c.in_ok-turn.ensures.stands begun past
    (matched_none c.in_ok-handed.handed (λ sent. Stands c.hand_on.new.self begun (Gave sent ∷ past)) (sym c.is_some.ensures ∙ c.if-is_some.false) (c.in_ok-handed.ensures.goes_on begun past stands))

pub returns-clause-hands : goal.returns-clause-hands
returns-clause-hands c = λ begun past stands.
    first_goes begun past c.hand_on-2.result _ _ (c.hand_on-2.ensures.first c.in_ok-turn.ensures.fresh)
    (ap (λ (course : Course). is_over course.task) c.hand_on-2.ensures.course ∙ sym c.ended-2.ensures.ended ∙ c.if-ended-2.false) (c.hand_on-2.ensures.hands begun past (turned c begun past stands))

pub returns-clause-goes_on : goal.returns-clause-goes_on
returns-clause-goes_on c = λ begun past stands. c.hand_on-2.ensures.goes_on begun past (turned c begun past stands)
