-- Once a primary is asked in a round of a get, each handoff has answered its question of that round or was given up.
use Rattle.std.proofs.Common.{◌≡◌, inl, inr, ◌⊎◌, ℕ, ◌<◌, ◌≤◌, Contains, List, [], ◌∷◌, length, nat_lt, take, take_all, Option, Some, sym, ap, subst, ◌∙◌, arith}
use Rattle.std.specs.List.{All, slice_get}
use Rattle.std.proofs.lemmas.Bool.{cases_Bool, ltb-false, ltb-true}
use Rattle.std.proofs.lemmas.List.{nil_from_length, take-append-le}
use Rattle.std.proofs.lemmas.List.Elements.{All-contains, All-nil, All-weaker, Contains-append_right}
use Rattle.std.proofs.lemmas.Option.{slice_get_within}
use Rattle.sw_diskfile.proofs.Lists.{Contains-cases, Contains-later, Contains-none}
use Rattle.sw_message.specs.Transcript.{Closed, Gave, IsRun, Step, opens}
use Rattle.sw_message.specs.declared.reply.Reply.{Reply}
use Rattle.sw_message.specs.declared.sent.Sent.{Sent}
use Rattle.sw_get.specs.Get.{AreTurns, Begun, Hears, IsBegun, IsNext, Sends, Turn, ask_message, asks_sent, count_ask, devices, facts_in, going_in, sends}
use Rattle.sw_get.specs.Meaning.{Meaning, asked_meaning}
use Rattle.sw_get.specs.Round.{Facts, all_devices}
use Rattle.sw_get.specs.Standing.{count_opens}
use Rattle.sw_get.specs.declared.round_end.Going.TheVariants as going
use Rattle.sw_get.proofs.Rounds.{HandedSo, WasAsked, all_handed, all_settled, handed_so, sents}
use Rattle.sw_get.proofs.Runs.{all_kept, says}
use Rattle.sw_get.proofs.Shown.{IsTold, all_told, parts}
use Rattle.sw_get.proofs.Turns.{all, ask_goes_on, begins, fetch_goes_on, now}
use Rattle.sw_law_rounds.specs.Asked.{HadAnswered, IsSentAfter}
use Rattle.sw_law_rounds.proofs.Orders.{answered_first, before_primaries, primary_behind}
use Rattle.sw_law_rounds.proofs.Sendings.{sent_from}

-- ---- what was heard

-- a device was asked in some turns, and answered or was given up
abbrev WasHeard : Begun → List Turn → ℕ → Type 0
WasHeard begun turns device = (ticket : ℕ) × (meaning : Meaning) × Contains turns (Hears (ask_message begun ticket device) meaning)

abbrev AreHandoffsHeard : Begun → List Turn → Type 0
AreHandoffsHeard begun turns = All (WasHeard begun turns) (devices begun).handoffs

-- where more devices were asked in a round than the handoffs, these were heard
abbrev AreFirst : Begun → List Turn → Type 0
AreFirst begun turns = before_primaries begun < asks_sent turns → AreHandoffsHeard begun turns

still_heard : (begun : Begun) (turns : List Turn) (turn : Turn) → AreHandoffsHeard begun turns → AreHandoffsHeard begun (turn ∷ turns)
still_heard begun turns turn heard =
    All-weaker (WasHeard begun turns) (WasHeard begun (turn ∷ turns))
    (λ device was. (was.0, was.1, Contains-later turn turns (Hears (ask_message begun was.0 device) was.1) was.2)) (devices begun).handoffs heard

-- where no question is open
no_question : (begun : Begun) (ticket device : ℕ) (opened : List Sent) → count_opens count_ask opened ≡ 0 → Contains opened (ask_message begun ticket device) → ⊥
no_question begun ticket device [] none has = absurd (Contains-none (ask_message begun ticket device) has)
no_question begun ticket device (first ∷ opened) none has = elim (Contains-cases first opened (ask_message begun ticket device) has) [
  | inl same ↦ let one : count_ask first.msg ≡ 1 = ap (λ (sent : Sent). count_ask sent.msg) same in absurd (omega (arith, none, one))
  | inr later ↦ no_question begun ticket device opened (omega (arith, none)) later
]

module _ (begun : Begun) (valid : IsBegun begun) (past : List Step) (run : IsRun (IsNext begun) past) (turns : List Turn) (are : AreTurns begun past turns) where
  abbrev known : Facts
  known = facts_in begun turns

  -- where the handoffs alone were asked, and as many have answered, it was they
  handoffs_alone : known.asked ≡ before_primaries begun → before_primaries begun ≤ known.answered → AreHandoffsHeard begun (now begun turns)
  handoffs_alone asked answered =
      let handoffs = (devices begun).handoffs in
      let none : count_opens count_ask (opens past) ≡ 0 = omega (arith, (all_kept begun valid past run turns are).counted.asks, asked, answered) in
      let these : take known.asked (all_devices (devices begun)) ≡ handoffs =
      ap (λ n. take n (all_devices (devices begun))) asked ∙ take-append-le (length handoffs) handoffs (devices begun).primaries (omega arith) ∙ take_all (length handoffs) handoffs (omega arith) in
      All-weaker (WasAsked begun (now begun turns)) (WasHeard begun (now begun turns))
      (λ device was. elim (All-contains (λ (sent : Sent). Contains (opens past) sent ⊎ ((meaning : Meaning) × Contains (now begun turns) (Hears sent meaning))) (sents (now begun turns)) (ask_message begun was.0 device)
      (all_settled begun past run turns are) was.1) [
        | inl opened ↦ absurd (no_question begun was.0 device (opens past) none opened)
        | inr heard ↦ (was.0, heard.0, heard.1)
      ])
      handoffs (subst (All (WasAsked begun (now begun turns))) these (all_handed begun valid past run turns are).asked)

  -- where the next one is asked, behind the handoffs
  heard_before : (device : ℕ) → going_in begun turns ≡ going.Ask device → before_primaries begun ≤ known.asked → AreFirst begun (now begun turns) → AreHandoffsHeard begun (now begun turns)
  heard_before device goes asked before = elim (cases_Bool (nat_lt (before_primaries begun) known.asked)) [
    | inl more ↦ before (ltb-true (before_primaries begun) known.asked more)
    | inr alone ↦
        let at = says begun valid past turns (all_kept begun valid past run turns are) (going.Ask device) goes in
        handoffs_alone (omega (arith, asked, ltb-false (before_primaries begun) known.asked alone)) (answered_first begun turns device goes at asked)
  ]

  -- after one message more
  first_gave : AreFirst begun (now begun turns) → (sent : Sent) → HandedSo begun turns sent → AreFirst begun (now begun (Sends sent ∷ turns))
  first_gave before sent (inl asks) =
      let at = says begun valid past turns (all_kept begun valid past run turns are) (going.Ask asks.device) asks.goes in
      let on = ask_goes_on begun turns (sends turns) asks.device (slice_get_within (all_devices (devices begun)) known.asked asks.device at) in
      subst (λ (one : Sent). AreFirst begun (now begun (Sends one ∷ turns))) (sym asks.is)
      (subst (AreFirst begun) (sym on.round) (λ more. still_heard begun (now begun turns) _ (heard_before asks.device asks.goes (omega (arith, more)) before)))
  first_gave before sent (inr (inl fetches)) =
      let on = fetch_goes_on begun turns (sends turns) fetches.stamp fetches.source in
      subst (λ (one : Sent). AreFirst begun (now begun (Sends one ∷ turns))) (sym fetches.is)
      (subst (AreFirst begun) (sym on.round) (λ more. still_heard begun (now begun turns) _ (before (omega (arith, more)))))
  first_gave before sent (inr (inr starts)) =
      let all_asked = (says begun valid past turns (all_kept begun valid past run turns are) (going.Keep starts.event) starts.goes).0.all_asked in
      let another = begins begun turns (sends turns) starts.device all_asked in
      let alone : List Turn = Sends (ask_message begun (sends turns) starts.device) ∷ [] in
      subst (λ (one : Sent). AreFirst begun (now begun (Sends one ∷ turns))) (sym starts.is)
      (subst (AreFirst begun) (sym another.round)
      (λ more. subst (All (WasHeard begun alone)) (sym (nil_from_length (devices begun).handoffs (omega (arith, more)))) (All-nil (WasHeard begun alone))))

-- in every round the handoffs are first
handoffs_heard : (begun : Begun) → IsBegun begun → (past : List Step) → IsRun (IsNext begun) past → (turns : List Turn) → AreTurns begun past turns → AreFirst begun (now begun turns)
handoffs_heard begun valid [] run [] are = λ more. absurd (omega (arith, more))
handoffs_heard begun valid [] run (turn ∷ turns) are = absurd are
handoffs_heard begun valid (Gave sent ∷ past) run [] are = absurd are
handoffs_heard begun valid (Gave sent ∷ past) run (Sends same ∷ turns) are =
    subst (λ (one : Sent). AreFirst begun (now begun (Sends one ∷ turns))) (sym are.0)
    (first_gave begun valid past run.1 turns are.1 (handoffs_heard begun valid past run.1 turns are.1) sent (handed_so begun past sent turns run.0 are.1))
handoffs_heard begun valid (Gave sent ∷ past) run (Hears same meaning ∷ turns) are = absurd are
handoffs_heard begun valid (Closed sent answer ∷ past) run [] are = absurd are
handoffs_heard begun valid (Closed sent answer ∷ past) run (Sends same ∷ turns) are = absurd are
handoffs_heard begun valid (Closed sent answer ∷ past) run (Hears same meaning ∷ turns) are =
    λ more. still_heard begun (now begun turns) (Hears same meaning) (handoffs_heard begun valid past run.1 turns are.2 more)

-- ---- as a primary is asked

module _ (begun : Begun) (valid : IsBegun begun) (earlier : List Step) (ticket primary handoff : ℕ) (run : IsRun (IsNext begun) (Gave (ask_message begun ticket primary) ∷ earlier)) (before : List Turn) (are : AreTurns begun earlier before)
    (is_primary : Contains (devices begun).primaries primary) (is_handoff : Contains (devices begun).handoffs handoff) where
  abbrev asks : Sent
  asks = ask_message begun ticket primary

  -- the handoff was asked in the round, and among these steps it had answered or was given up
  abbrev AnsweredBefore : Type 0
  AnsweredBefore = (own : ℕ) × (answer : Option Reply) × Contains earlier (Closed (ask_message begun own handoff) answer) × Contains (now begun (Sends asks ∷ before)) (Hears (ask_message begun own handoff) (asked_meaning answer))

  primary_so : HandedSo begun before asks → AnsweredBefore
  primary_so (inl next) =
      let device : next.device ≡ primary = sym (ap (λ (sent : Sent). sent.device) next.is) in
      let at = says begun valid earlier before (all_kept begun valid earlier run.1 before are) (going.Ask next.device) next.goes in
      let on = ask_goes_on begun before ticket primary (slice_get_within (all_devices (devices begun)) (facts_in begun before).asked next.device at) in
      let behind = primary_behind begun (facts_in begun before).asked primary (subst (λ one. slice_get (all_devices (devices begun)) (facts_in begun before).asked ≡ Some one) device at) is_primary in
      let each = heard_before begun valid earlier run.1 before are next.device next.goes behind (handoffs_heard begun valid earlier run.1 before are) in
      let one = All-contains (WasHeard begun (now begun before)) (devices begun).handoffs handoff each is_handoff in
      let asked = ask_message begun one.0 handoff in
      let told = All-contains (IsTold begun earlier) (now begun before) (Hears asked one.1) (parts (IsTold begun earlier) (all begun before) before (all_told begun earlier before are)).0 one.2 in
      let same : now begun (Sends asks ∷ before) ≡ Sends asks ∷ now begun before = on.round in (
        one.0,
        told.0,
        told.1,
        subst (λ these. Contains these (Hears asked (asked_meaning told.0))) (sym same)
            (Contains-later (Sends asks) (now begun before) (Hears asked (asked_meaning told.0)) (subst (λ meaning. Contains (now begun before) (Hears asked meaning)) told.3 one.2)),
      )
  primary_so (inr (inl next)) = let messages = ap (λ (sent : Sent). sent.msg) next.is in absurd (cc messages)
  primary_so (inr (inr next)) =
      let device : next.device ≡ primary = sym (ap (λ (sent : Sent). sent.device) next.is) in
      let behind = primary_behind begun 0 primary (subst (λ one. slice_get (all_devices (devices begun)) 0 ≡ Some one) device next.first) is_primary in
      absurd (omega (arith, behind, is_handoff.1))

-- before a primary is asked in the last round, each handoff had answered its question or was given up
pub handoffs_first : (begun : Begun) (past earlier : List Step) (turns : List Turn) (ticket primary handoff : ℕ) → IsBegun begun → IsRun (IsNext begun) past → AreTurns begun past turns
    → IsSentAfter begun past turns (ask_message begun ticket primary) earlier → Contains (devices begun).primaries primary → Contains (devices begun).handoffs handoff → HadAnswered begun turns handoff earlier
handoffs_first begun past earlier turns ticket primary handoff valid run are after is_primary is_handoff =
    let asks = ask_message begun ticket primary in
    let from = sent_from begun past earlier turns asks run are after in
    let one = primary_so begun valid earlier ticket primary handoff from.run from.before from.are is_primary is_handoff (handed_so begun earlier asks from.before from.run.0 from.are) in
    let heard = Hears (ask_message begun one.0 handoff) (asked_meaning one.1) in
    record {
      ticket = one.0;
      answer = one.1;
      told = one.2;
      heard = subst (λ these. Contains these heard) (sym from.now_is) (Contains-append_right from.more (now begun (Sends asks ∷ from.before)) heard one.3);
    }
