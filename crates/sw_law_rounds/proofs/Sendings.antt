-- The steps before a message of the last round of a get lead to that round.
use Rattle.std.proofs.Common.{◌≡◌, inl, inr, ◌<◌, Bool, true, false, Contains, ◌++◌, List, [], ◌∷◌, length, refl, sym, ap, subst, ◌∙◌, arith}
use Rattle.std.specs.Prelude.{if◌then◌else◌}
use Rattle.sw_diskfile.proofs.Lists.{Contains-cases, Contains-none}
use Rattle.sw_message.specs.Transcript.{Closed, Gave, IsRun, Step, given}
use Rattle.sw_message.specs.declared.sent.Sent.{Sent}
use Rattle.sw_get.specs.Get.{AreTurns, Begun, Hears, IsNext, Round, Sends, Turn, is_first, round_in}
use Rattle.sw_get.proofs.Runs.{numbers}
use Rattle.sw_get.proofs.Turns.{all, now}
use Rattle.sw_law_rounds.specs.Asked.{IsSentAfter}

-- These steps end before the message, and the last round is that of the message and goes on after it.
pub record IsFrom (begun : Begun) (turns : List Turn) (sent : Sent) (earlier : List Step) : Type 0 where
  pub run : IsRun (IsNext begun) (Gave sent ∷ earlier)
  pub before : List Turn
  pub are : AreTurns begun earlier before
  pub more : List Turn
  pub now_is : now begun turns ≡ more ++ now begun (Sends sent ∷ before)
  pub earlier_is : (round_in begun turns).earlier ≡ (round_in begun (Sends sent ∷ before)).earlier

module _ (begun : Begun) (sent : Sent) (earlier : List Step) where
  more_given : (later : List Step) → length (given earlier) < length (given (later ++ Gave sent ∷ earlier))
  more_given [] = omega arith
  more_given (Gave other ∷ later) = omega (arith, more_given later)
  more_given (Closed other answer ∷ later) = more_given later

  run_before : (later : List Step) → IsRun (IsNext begun) (later ++ Gave sent ∷ earlier) → IsRun (IsNext begun) (Gave sent ∷ earlier)
  run_before [] run = run
  run_before (Gave other ∷ later) run = run_before later run.1
  run_before (Closed other answer ∷ later) run = run_before later run.1

  -- a later message has a greater ticket
  not_again : (later : List Step) (other : Sent) → IsRun (IsNext begun) (Gave other ∷ later ++ Gave sent ∷ earlier) → other ≡ sent → ⊥
  not_again later other run same =
      let first = numbers begun earlier sent (run_before later run.1).0 in
      let second = numbers begun (later ++ Gave sent ∷ earlier) other run.0 in
      absurd (omega (arith, first, second, ap (λ (one : Sent). one.ticket) same, more_given later))

  module _ (turns : List Turn) (from : Contains (now begun turns) (Sends sent) → IsFrom begun turns sent earlier) where
    from_sends : (other : Sent) → (other ≡ sent → ⊥) → (first : Bool) → is_first (all begun turns) other.msg (round_in begun turns) ≡ first
        → let round : Round = if first then record { turns = Sends other ∷ []; earlier = turns } else record { turns = Sends other ∷ now begun turns; earlier = (round_in begun turns).earlier } in
        Contains round.turns (Sends sent) → IsFrom begun (Sends other ∷ turns) sent earlier
    from_sends other differs true is has = elim (Contains-cases (Sends other) [] (Sends sent) has) [
      | inl this ↦ let same : other ≡ sent = cc this in absurd (differs same)
      | inr none ↦ absurd (Contains-none (Sends sent) none)
    ]
    from_sends other differs false is has = elim (Contains-cases (Sends other) (now begun turns) (Sends sent) has) [
      | inl this ↦ let same : other ≡ sent = cc this in absurd (differs same)
      | inr before ↦
          let round : round_in begun (Sends other ∷ turns) ≡ record { turns = Sends other ∷ now begun turns; earlier = (round_in begun turns).earlier } =
          ap (λ b. if b then record { turns = Sends other ∷ []; earlier = turns } else record { turns = Sends other ∷ now begun turns; earlier = (round_in begun turns).earlier }) is in
          let one = from before in
          record {
            run = one.run;
            before = one.before;
            are = one.are;
            more = Sends other ∷ one.more;
            now_is = ap (λ (it : Round). it.turns) round ∙ ap (λ these. Sends other ∷ these) one.now_is;
            earlier_is = ap (λ (it : Round). it.earlier) round ∙ one.earlier_is;
          }
    ]

    from_hears : (other : Sent) (meaning : _) → Contains (Hears other meaning ∷ now begun turns) (Sends sent) → IsFrom begun (Hears other meaning ∷ turns) sent earlier
    from_hears other meaning has = elim (Contains-cases (Hears other meaning) (now begun turns) (Sends sent) has) [
      | inl this ↦ absurd (cc this)
      | inr before ↦
          let one = from before in
          record {
            run = one.run;
            before = one.before;
            are = one.are;
            more = Hears other meaning ∷ one.more;
            now_is = ap (λ these. Hears other meaning ∷ these) one.now_is;
            earlier_is = one.earlier_is;
          }
    ]

  from_steps : (later : List Step) (turns : List Turn) → IsRun (IsNext begun) (later ++ Gave sent ∷ earlier) → AreTurns begun (later ++ Gave sent ∷ earlier) turns → Contains (now begun turns) (Sends sent)
      → IsFrom begun turns sent earlier
  from_steps [] [] run are has = absurd are
  from_steps [] (Sends same ∷ turns) run are has =
      subst (λ (one : Sent). IsFrom begun (Sends one ∷ turns) sent earlier) (sym are.0)
      (record { run = run; before = turns; are = are.1; more = []; now_is = refl; earlier_is = refl })
  from_steps [] (Hears same meaning ∷ turns) run are has = absurd are
  from_steps (Gave other ∷ later) [] run are has = absurd are
  from_steps (Gave other ∷ later) (Sends same ∷ turns) run are has =
      from_sends turns (from_steps later turns run.1 are.1) same (λ is. not_again later other run (sym are.0 ∙ is)) (is_first (all begun turns) same.msg (round_in begun turns)) refl has
  from_steps (Gave other ∷ later) (Hears same meaning ∷ turns) run are has = absurd are
  from_steps (Closed other answer ∷ later) [] run are has = absurd are
  from_steps (Closed other answer ∷ later) (Sends same ∷ turns) run are has = absurd are
  from_steps (Closed other answer ∷ later) (Hears same meaning ∷ turns) run are has = from_hears turns (from_steps later turns run.1 are.2) same meaning has

-- the steps before a message of the last round
pub sent_from : (begun : Begun) (past earlier : List Step) (turns : List Turn) (sent : Sent) → IsRun (IsNext begun) past → AreTurns begun past turns → IsSentAfter begun past turns sent earlier → IsFrom begun turns sent earlier
sent_from begun past earlier turns sent run are after =
    from_steps begun sent earlier after.later turns (subst (IsRun (IsNext begun)) after.place run) (subst (λ steps. AreTurns begun steps turns) after.place are) after.in_round
