-- Each message that was heard in a round of a get was handed out in it.
use Rattle.std.proofs.Common.{◌≡◌, inl, inr, ⊎_elim, Bool, true, false, not, Contains, List, [], ◌∷◌, refl, sym, ap, subst, ◌∙◌, true≢false}
use Rattle.std.specs.Prelude.{if◌then◌else◌}
use Rattle.std.specs.List.{All}
use Rattle.std.proofs.lemmas.Bool.{lt-ltb}
use Rattle.std.proofs.lemmas.List.Elements.{All-cons, All-filter, All-nil, All-weaker}
use Rattle.std.proofs.lemmas.Option.{slice_get_within}
use Rattle.sw_diskfile.proofs.Lists.{Contains-cases, Contains-first, Contains-later, Contains-none}
use Rattle.sw_message.specs.Transcript.{Closed, Gave, Hand, IsRun, Step, is_not, opens}
use Rattle.sw_message.specs.declared.sent.Sent.{Sent}
use Rattle.sw_quorum.proofs.Transcripts.{found}
use Rattle.sw_get.specs.Get.{AreTurns, Begun, Hears, IsBegun, IsNext, Round, Sends, Turn, ask_message, devices, facts_in, is_first, round_in}
use Rattle.sw_get.specs.Meaning.{Meaning}
use Rattle.sw_get.specs.Round.{all_devices}
use Rattle.sw_get.specs.declared.round_end.Going.TheVariants as going
use Rattle.sw_get.proofs.Kept.{nothing_open}
use Rattle.sw_get.proofs.Rounds.{handed_so}
use Rattle.sw_get.proofs.Runs.{all_kept, says}
use Rattle.sw_get.proofs.Turns.{all, now}

-- of the turns of a round: what is open was handed out in it, and what was heard
record AreSent (opened : List Sent) (round : List Turn) : Type 0 where
  open_sent : All (λ sent. Contains round (Sends sent)) opened
  heard_sent : (sent : Sent) (meaning : Meaning) → Contains round (Hears sent meaning) → Contains round (Sends sent)

module _ (begun : Begun) (valid : IsBegun begun) (past : List Step) (run : IsRun (IsNext begun) past) (turns : List Turn) (are : AreTurns begun past turns) (sent : Sent) (hands : IsNext begun past (Hand sent)) where
  -- before the first message of another round nothing is open
  none_open : is_first (all begun turns) sent.msg (round_in begun turns) ≡ true → opens past ≡ []
  none_open is = elim (handed_so begun past sent turns hands are) [
    | inl asks ↦
        let at = says begun valid past turns (all_kept begun valid past run turns are) (going.Ask asks.device) asks.goes in
        let less = slice_get_within (all_devices (devices begun)) (facts_in begun turns).asked asks.device at in
        let asked : is_first (all begun turns) (ask_message begun asks.device asks.device).msg (round_in begun turns) ≡ false = ap not (lt-ltb (facts_in begun turns).asked (all begun turns) less) in
        absurd (true≢false (sym is ∙ ap (λ (one : Sent). is_first (all begun turns) one.msg (round_in begun turns)) asks.is ∙ asked))
    | inr (inl fetches) ↦ absurd (true≢false (sym is ∙ ap (λ (one : Sent). is_first (all begun turns) one.msg (round_in begun turns)) fetches.is))
    | inr (inr starts) ↦
        let is = says begun valid past turns (all_kept begun valid past run turns are) (going.Keep starts.event) starts.goes in
        nothing_open begun valid past run turns are is.0 is.1
  ]

  gave-sent : AreSent (opens past) (now begun turns) → (first : Bool) → is_first (all begun turns) sent.msg (round_in begun turns) ≡ first
      → let round : Round = if first then record { turns = Sends sent ∷ []; earlier = turns } else record { turns = Sends sent ∷ now begun turns; earlier = (round_in begun turns).earlier } in AreSent (sent ∷ opens past) round.turns
  gave-sent before true is = record {
    open_sent = All-cons (λ one. Contains (Sends sent ∷ []) (Sends one)) sent (opens past) (Contains-first (Sends sent) [])
        (subst (All (λ one. Contains (Sends sent ∷ []) (Sends one))) (sym (none_open is)) (All-nil (λ one. Contains (Sends sent ∷ []) (Sends one))));
    heard_sent = λ one meaning has. ⊎_elim (λ same. absurd (cc same)) (λ none. absurd (Contains-none _ none)) (Contains-cases (Sends sent) [] (Hears one meaning) has);
  }
  gave-sent before false is = record {
    open_sent = All-cons (λ one. Contains (Sends sent ∷ now begun turns) (Sends one)) sent (opens past) (Contains-first (Sends sent) (now begun turns))
        (All-weaker (λ one. Contains (now begun turns) (Sends one)) (λ one. Contains (Sends sent ∷ now begun turns) (Sends one)) (λ one there. Contains-later (Sends sent) (now begun turns) (Sends one) there) (opens past) before.open_sent);
    heard_sent = λ one meaning has. ⊎_elim
        (λ same. absurd (cc same))
        (λ later. Contains-later (Sends sent) (now begun turns) (Sends one) (before.heard_sent one meaning later))
        (Contains-cases (Sends sent) (now begun turns) (Hears one meaning) has);
  }

all-sent : (begun : Begun) → IsBegun begun → (past : List Step) → IsRun (IsNext begun) past → (turns : List Turn) → AreTurns begun past turns → AreSent (opens past) (now begun turns)
all-sent begun valid [] run [] are = record { open_sent = All-nil (λ sent. Contains [] (Sends sent)); heard_sent = λ sent meaning has. absurd (Contains-none _ has) }
all-sent begun valid [] run (turn ∷ turns) are = absurd are
all-sent begun valid (Gave sent ∷ past) run [] are = absurd are
all-sent begun valid (Gave sent ∷ past) run (Sends same ∷ turns) are =
    subst (λ (one : Sent). AreSent (one ∷ opens past) (now begun (Sends same ∷ turns))) are.0
    (gave-sent begun valid past run.1 turns are.1 same (subst (λ (one : Sent). IsNext begun past (Hand one)) (sym are.0) run.0) (all-sent begun valid past run.1 turns are.1)
    (is_first (all begun turns) same.msg (round_in begun turns)) refl)
all-sent begun valid (Gave sent ∷ past) run (Hears same meaning ∷ turns) are = absurd are
all-sent begun valid (Closed sent answer ∷ past) run [] are = absurd are
all-sent begun valid (Closed sent answer ∷ past) run (Sends same ∷ turns) are = absurd are
all-sent begun valid (Closed sent answer ∷ past) run (Hears same meaning ∷ turns) are =
    let before = all-sent begun valid past run.1 turns are.2 in
    let round = Hears same meaning ∷ now begun turns in
    record {
      open_sent = All-filter (is_not sent.ticket) (λ one. Contains round (Sends one)) (opens past)
          (All-weaker (λ one. Contains (now begun turns) (Sends one)) (λ one. Contains round (Sends one)) (λ one there. Contains-later (Hears same meaning) (now begun turns) (Sends one) there) (opens past) before.open_sent);
      heard_sent = λ one means has. Contains-later (Hears same meaning) (now begun turns) (Sends one) (⊎_elim
          (λ first.
          let this : sent ≡ one = cc (are.0, first) in
          subst (λ (s : Sent). Contains (now begun turns) (Sends s)) this (found (λ s. Contains (now begun turns) (Sends s)) sent.ticket (opens past) sent run.0 before.open_sent).0)
          (before.heard_sent one means)
          (Contains-cases (Hears same meaning) (now begun turns) (Hears one means) has));
    }

-- each message that was heard in a round was handed out in it
pub heard-sent : (begun : Begun) → IsBegun begun → (past : List Step) → IsRun (IsNext begun) past → (turns : List Turn) → AreTurns begun past turns → (sent : Sent) (meaning : Meaning)
    → Contains (now begun turns) (Hears sent meaning) → Contains (now begun turns) (Sends sent)
heard-sent begun valid past run turns are = (all-sent begun valid past run turns are).heard_sent
