-- The first message of a round of a get: none of the round was handed out earlier.
use Rattle.std.proofs.Common.{◌≡◌, ◌⊎◌, inl, inr, ⊎_elim, ℕ, ◌≤◌, Bool, true, false, Contains, List, [], ◌∷◌, ◌++◌, None, Some, refl, sym, ap, subst, arith}
use Rattle.std.specs.Prelude.{if◌then◌else◌}
use Rattle.sw_diskfile.proofs.Lists.{Contains-cases, Contains-first, Contains-later, Contains-none}
use Rattle.sw_message.specs.Transcript.{Closed, Gave, Step}
use Rattle.sw_message.specs.declared.sent.Sent.{Sent}
use Rattle.sw_get.specs.Get.{AreTurns, Begun, Hears, Round, Sends, Turn, is_first, round_in}
use Rattle.sw_get.specs.Meaning.{Meaning}
use Rattle.sw_get.proofs.Turns.{all, now}
use Rattle.sw_law_scene.specs.Scene.{Message}
use Rattle.sw_law_rounds.specs.Timed.{IsTimed}
use Rattle.sw_law_rounds.proofs.Timing.{gave-made}

-- a message of the round that was handed out no later than any other
pub record IsSentFirst (asked_at : ℕ → ℕ) (past : List Step) (round : List Turn) : Type 0 where
  pub sent : Sent
  pub later : List Step
  pub earlier : List Step
  pub place : past ≡ later ++ Gave sent ∷ earlier
  pub in_round : Contains round (Sends sent)
  pub least : (other : Sent) → Contains round (Sends other) → asked_at sent.ticket ≤ asked_at other.ticket

module _ (messages : List Message) (number : ℕ) (asked_at : ℕ → ℕ) where
  -- none was handed out, or there is such
  abbrev NoneOrFirst : List Step → List Turn → Type 0
  NoneOrFirst past round = ((sent : Sent) → Contains round (Sends sent) → ⊥) ⊎ IsSentFirst asked_at past round

  -- the last message is the first where there was none before
  alone : (past : List Step) (sent : Sent) (round : List Turn) → ((other : Sent) → Contains round (Sends other) → ⊥) → IsSentFirst asked_at (Gave sent ∷ past) (Sends sent ∷ round)
  alone past sent round none = record {
    sent = sent;
    later = [];
    earlier = past;
    place = refl;
    in_round = Contains-first (Sends sent) round;
    least = λ other has. ⊎_elim
        (λ same. let this : sent ≡ other = cc same in subst (λ (s : Sent). asked_at sent.ticket ≤ asked_at s.ticket) this (omega arith))
        (λ later. absurd (none other later))
        (Contains-cases (Sends sent) round (Sends other) has);
  }

  -- and else that of before
  one-more : (past : List Step) (sent : Sent) (round : List Turn) → IsTimed messages number asked_at past (asked_at sent.ticket) → NoneOrFirst past round → IsSentFirst asked_at (Gave sent ∷ past) (Sends sent ∷ round)
  one-more past sent round timed (inl none) = alone past sent round none
  one-more past sent round timed (inr first) = record {
    sent = first.sent;
    later = Gave sent ∷ first.later;
    earlier = first.earlier;
    place = ap (λ steps. Gave sent ∷ steps) first.place;
    in_round = Contains-later (Sends sent) round (Sends first.sent) first.in_round;
    least = λ other has. ⊎_elim
        (λ same.
        let this : sent ≡ other = cc same in
        subst (λ (s : Sent). asked_at first.sent.ticket ≤ asked_at s.ticket) this
        (gave-made messages number asked_at first.later first.sent first.earlier (asked_at sent.ticket) (subst (λ steps. IsTimed messages number asked_at steps (asked_at sent.ticket)) first.place timed)).0)
        (first.least other)
        (Contains-cases (Sends sent) round (Sends other) has);
  }

  by_first : (begun : Begun) (past : List Step) (sent : Sent) (turns : List Turn) → IsTimed messages number asked_at past (asked_at sent.ticket) → NoneOrFirst past (now begun turns) → (first : Bool)
      → let round : Round = if first then record { turns = Sends sent ∷ []; earlier = turns } else record { turns = Sends sent ∷ now begun turns; earlier = (round_in begun turns).earlier } in
      IsSentFirst asked_at (Gave sent ∷ past) round.turns
  by_first begun past sent turns timed before true = alone past sent [] (λ other none. absurd (Contains-none _ none))
  by_first begun past sent turns timed before false = one-more past sent (now begun turns) timed before

  told-too : (past : List Step) (step : Step) (same : Sent) (meaning : Meaning) (round : List Turn) → NoneOrFirst past round → NoneOrFirst (step ∷ past) (Hears same meaning ∷ round)
  told-too past step same meaning round (inl none) = inl (λ sent has. ⊎_elim (λ first. absurd (cc first)) (none sent) (Contains-cases (Hears same meaning) round (Sends sent) has))
  told-too past step same meaning round (inr first) = inr (record {
    sent = first.sent;
    later = step ∷ first.later;
    earlier = first.earlier;
    place = ap (λ steps. step ∷ steps) first.place;
    in_round = Contains-later (Hears same meaning) round (Sends first.sent) first.in_round;
    least = λ other has. ⊎_elim (λ same. absurd (cc same)) (first.least other) (Contains-cases (Hears same meaning) round (Sends other) has);
  })

  none-or-first : (begun : Begun) (past : List Step) (by : ℕ) → IsTimed messages number asked_at past by → (turns : List Turn) → AreTurns begun past turns → NoneOrFirst past (now begun turns)
  none-or-first begun [] by timed [] are = inl (λ sent none. absurd (Contains-none _ none))
  none-or-first begun [] by timed (turn ∷ turns) are = absurd are
  none-or-first begun (Gave sent ∷ past) by timed [] are = absurd are
  none-or-first begun (Gave sent ∷ past) by timed (Sends same ∷ turns) are =
      subst (λ (one : Sent). NoneOrFirst (Gave one ∷ past) (now begun (Sends same ∷ turns))) are.0
      (inr (by_first begun past same turns (subst (λ (one : Sent). IsTimed messages number asked_at past (asked_at one.ticket)) (sym are.0) timed.2)
      (none-or-first begun past (asked_at sent.ticket) timed.2 turns are.1) (is_first (all begun turns) same.msg (round_in begun turns))))
  none-or-first begun (Gave sent ∷ past) by timed (Hears same meaning ∷ turns) are = absurd are
  none-or-first begun (Closed sent answer ∷ past) by timed [] are = absurd are
  none-or-first begun (Closed sent answer ∷ past) by timed (Sends same ∷ turns) are = absurd are
  none-or-first begun (Closed sent (Some reply) ∷ past) by timed (Hears same meaning ∷ turns) are = told-too past (Closed sent (Some reply)) same meaning (now begun turns) (none-or-first begun past by timed.1 turns are.2)
  none-or-first begun (Closed sent None ∷ past) by timed (Hears same meaning ∷ turns) are = told-too past (Closed sent None) same meaning (now begun turns) (none-or-first begun past by timed turns are.2)

  -- a round in which a message was handed out has a first one
  pub first-sent : (begun : Begun) (past : List Step) (by : ℕ) → IsTimed messages number asked_at past by → (turns : List Turn) → AreTurns begun past turns → (sent : Sent) → Contains (now begun turns) (Sends sent)
      → IsSentFirst asked_at past (now begun turns)
  first-sent begun past by timed turns are sent has = ⊎_elim (λ none. absurd (none sent has)) (λ first. first) (none-or-first begun past by timed turns are)
