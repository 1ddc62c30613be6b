-- Where the messages of a get were handed out in its transcript, and that each is about its place.
use Rattle.std.proofs.Common.{◌≡◌, inl, inr, ⊎_elim, Contains, List, [], ◌∷◌, ◌++◌, Option, Some, ap, subst}
use Rattle.std.specs.List.{All}
use Rattle.std.proofs.lemmas.List.Elements.{All-contains, All-contains_itself}
use Rattle.sw_diskfile.proofs.Lists.{Contains-cases, Contains-none}
use Rattle.sw_message.specs.Message.{place_in}
use Rattle.sw_message.specs.Transcript.{Closed, Gave, IsRun, Step, opens}
use Rattle.sw_message.specs.declared.reply.Reply.{Reply}
use Rattle.sw_message.specs.declared.sent.Sent.{Sent}
use Rattle.sw_quorum.proofs.Transcripts.{found, opens-keep}
use Rattle.sw_get.specs.Get.{AreTurns, Begun, Hears, IsNext, Sends, Turn, place_of}
use Rattle.sw_get.proofs.Rounds.{HandedSo, handed_so}
use Rattle.sw_get.proofs.Shown.{parts}
use Rattle.sw_get.proofs.Turns.{all, now}

-- a turn of the last round is one of all
pub in_whole : (begun : Begun) (turns : List Turn) (turn : Turn) → Contains (now begun turns) turn → Contains turns turn
in_whole begun turns turn has = All-contains (Contains turns) (now begun turns) turn (parts (Contains turns) (all begun turns) turns (All-contains_itself turns)).0 has

-- where a message was handed out in the transcript
pub gave-at : (begun : Begun) (past : List Step) (turns : List Turn) → AreTurns begun past turns → (sent : Sent) → Contains turns (Sends sent) → (later earlier : List Step) × (past ≡ later ++ Gave sent ∷ earlier)
gave-at begun [] [] are sent has = absurd (Contains-none _ has)
gave-at begun [] (turn ∷ turns) are sent has = absurd are
gave-at begun (Gave one ∷ past) [] are sent has = absurd are
gave-at begun (Gave one ∷ past) (Sends same ∷ turns) are sent has = ⊎_elim
    (λ first. let this : one ≡ sent = cc (are.0, first) in ([], past, ap (λ (s : Sent). Gave s ∷ past) this))
    (λ later. let at = gave-at begun past turns are.1 sent later in (Gave one ∷ at.0, at.1, ap (λ steps. Gave one ∷ steps) at.2))
    (Contains-cases (Sends same) turns (Sends sent) has)
gave-at begun (Gave one ∷ past) (Hears same meaning ∷ turns) are sent has = absurd are
gave-at begun (Closed one answer ∷ past) [] are sent has = absurd are
gave-at begun (Closed one answer ∷ past) (Sends same ∷ turns) are sent has = absurd are
gave-at begun (Closed one answer ∷ past) (Hears same meaning ∷ turns) are sent has = ⊎_elim
    (λ first. absurd (cc first))
    (λ later. let at = gave-at begun past turns are.2 sent later in (Closed one answer ∷ at.0, at.1, ap (λ steps. Closed one answer ∷ steps) at.2))
    (Contains-cases (Hears same meaning) turns (Sends sent) has)

-- ---- places

module _ (begun : Begun) where
  abbrev IsHere : Sent → Type 0
  IsHere sent = place_in sent.msg ≡ Some (place_of begun)

  by_handing : (turns : List Turn) (sent : Sent) → HandedSo begun turns sent → IsHere sent
  by_handing turns sent (inl asks) = ap (λ (one : Sent). place_in one.msg) asks.is
  by_handing turns sent (inr (inl fetches)) = ap (λ (one : Sent). place_in one.msg) fetches.is
  by_handing turns sent (inr (inr starts)) = ap (λ (one : Sent). place_in one.msg) starts.is

  opens-here : (past : List Step) → IsRun (IsNext begun) past → All IsHere (opens past)
  opens-here past run = opens-keep (IsNext begun) (λ steps. IsHere) (λ steps sent next. by_handing next.0 sent (handed_so begun steps sent next.0 next next.1)) (λ steps step sent is. is) past run

  -- each message of a get is about its place
  pub told-here : (past : List Step) → IsRun (IsNext begun) past → (sent : Sent) (answer : Option Reply) → Contains past (Closed sent answer) → IsHere sent
  told-here [] run sent answer has = absurd (Contains-none _ has)
  told-here (Gave one ∷ past) run sent answer has = ⊎_elim (λ first. absurd (cc first)) (told-here past run.1 sent answer) (Contains-cases (Gave one) past (Closed sent answer) has)
  told-here (Closed one given ∷ past) run sent answer has = ⊎_elim
      (λ first.
      let this : one ≡ sent = cc first in
      subst IsHere this (found IsHere one.ticket (opens past) one run.0 (opens-here past run.1)).0)
      (told-here past run.1 sent answer)
      (Contains-cases (Closed one given) past (Closed sent answer) has)
