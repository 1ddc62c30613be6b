-- Transcripts of machines that number their messages: an answer for a ticket is one to the message that has it.
use Rattle.std.proofs.Common.{◌≡◌, ◌⊎◌, inl, inr, ⊎_elim, ℕ, ◌<◌, Contains, List, [], ◌∷◌, length, Option, Some, None, refl, sym, ap, ◌∙◌, arith}
use Rattle.std.proofs.lemmas.List.Elements.{All-contains_itself}
use Rattle.sw_diskfile.proofs.Lists.{Contains-cases, Contains-none}
use Rattle.sw_message.specs.Transcript.{Closed, Gave, IsRun, Next, Step, after_answer, closed_by, given, open_at, opens}
use Rattle.sw_message.specs.declared.reply.Reply.{Reply}
use Rattle.sw_message.specs.declared.sent.Sent.{Sent}
use Rattle.sw_quorum.proofs.Transcripts.{found, run-told}
use Rattle.sw_quorum.specs.Transcripts.{Numbers}
use Rattle.sw_sync.proofs.Messages.{opens-each}

-- ---- an answer for a ticket

module _ (past : List Step) (ticket : ℕ) (answer : Option Reply) where
  by_open : (P : List Step → Type 0) → P past → ((sent : Sent) → open_at ticket past ≡ Some sent → P (Closed sent answer ∷ past)) → P (after_answer past ticket answer)
  by_open P ignored taken = at_once (open_at ticket past) refl
    where
      at_once : (opened : Option Sent) → open_at ticket past ≡ opened → P (closed_by past answer opened)
      at_once None is = ignored
      at_once (Some sent) is = taken sent is

  pub told-given : given (after_answer past ticket answer) ≡ given past
  told-given = by_open (λ after. given after ≡ given past) refl (λ sent is. refl)

  pub told-run : (machine : List Step → Next → Type 0) → IsRun machine past → IsRun machine (after_answer past ticket answer)
  told-run machine run = by_open (IsRun machine) run (λ sent is. run-told machine past ticket answer sent is run)

-- a message that is given up is told no reply
pub given_up-told : (past : List Step) (ticket : ℕ) (sent : Sent) (reply : Reply) → Contains (after_answer past ticket None) (Closed sent (Some reply)) → Contains past (Closed sent (Some reply))
given_up-told past ticket sent reply =
    by_open past ticket None (λ after. Contains after (Closed sent (Some reply)) → Contains past (Closed sent (Some reply)))
    (λ there. there)
    (λ opened is there. ⊎_elim (λ same. absurd (cc)) (λ later. later) (Contains-cases (Closed opened None) past (Closed sent (Some reply)) there))

-- ---- tickets

module _ (machine : List Step → Next → Type 0) (numbers : Numbers machine) where
  -- the tickets of those that were handed out are below their number
  pub given-below : (past : List Step) → IsRun machine past → (sent : Sent) → Contains (given past) sent → sent.ticket < length (given past)
  given-below [] run sent has = absurd (Contains-none sent has)
  given-below (Gave first ∷ past) run sent has = ⊎_elim
      (λ same. omega (arith, ap (λ (one : Sent). one.ticket) same, numbers past first run.0))
      (λ later. omega (arith, given-below past run.1 sent later))
      (Contains-cases first (given past) sent has)
  given-below (Closed first answer ∷ past) run sent has = given-below past run.1 sent has

  -- no two of them have one ticket
  one_of : (past : List Step) → IsRun machine past → (last a b : Sent) → last.ticket ≡ length (given past) → (Contains (given past) a → Contains (given past) b → a ≡ b) → (last ≡ a) ⊎ Contains (given past) a
      → (last ≡ b) ⊎ Contains (given past) b → a.ticket ≡ b.ticket → a ≡ b
  one_of past run last a b number earlier (inl first) (inl second) same = sym first ∙ second
  one_of past run last a b number earlier (inl first) (inr second) same = absurd (omega (arith, same, number, ap (λ (one : Sent). one.ticket) first, given-below past run b second))
  one_of past run last a b number earlier (inr first) (inl second) same = absurd (omega (arith, same, number, ap (λ (one : Sent). one.ticket) second, given-below past run a first))
  one_of past run last a b number earlier (inr first) (inr second) same = earlier first second

  one_given : (past : List Step) → IsRun machine past → (a b : Sent) → Contains (given past) a → Contains (given past) b → a.ticket ≡ b.ticket → a ≡ b
  one_given [] run a b first second same = absurd (Contains-none a first)
  one_given (Closed sent answer ∷ past) run a b first second same = one_given past run.1 a b first second same
  one_given (Gave sent ∷ past) run a b first second same =
      one_of past run.1 sent a b (numbers past sent run.0) (λ one other. one_given past run.1 a b one other same) (Contains-cases sent (given past) a first) (Contains-cases sent (given past) b second) same

  -- the open message of a ticket is the one that was handed out with it
  open-given : (past : List Step) → IsRun machine past → (sent other : Sent) → Contains (given past) sent → open_at sent.ticket past ≡ Some other → other ≡ sent
  open-given past run sent other has is =
      let at = found (Contains (given past)) sent.ticket (opens past) other is (opens-each (Contains (given past)) past (All-contains_itself (given past))) in
      one_given past run other sent at.0 has at.1

  -- an answer to a message that was handed out is told of that one, or not at all
  pub told-cases : (past : List Step) → IsRun machine past → (sent : Sent) (answer : Option Reply) → Contains (given past) sent → (other : Sent) (given : Option Reply) → Contains (after_answer past sent.ticket answer) (Closed other given)
      → Contains past (Closed other given) ⊎ ((sent ≡ other) × (answer ≡ given))
  told-cases past run sent answer has other given =
      by_open past sent.ticket answer (λ after. Contains after (Closed other given) → Contains past (Closed other given) ⊎ ((sent ≡ other) × (answer ≡ given)))
      (λ there. inl there)
      (λ opened is there. ⊎_elim
      (λ same. let this : opened ≡ other = cc in inr (sym (open-given past run sent opened has is) ∙ this, cc))
      (λ later. inl later)
      (Contains-cases (Closed opened answer) past (Closed other given) there))
