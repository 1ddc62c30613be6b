-- What holds of each message that a machine hands out holds of those that are open.
use Rattle.std.proofs.Common.{◌≡◌, inl, inr, ℕ, ◌==◌, Bool, true, false, Contains, List, [], ◌∷◌, Some, refl, sym, subst, ◌∙◌}
use Rattle.std.specs.List.{find}
use Rattle.std.proofs.lemmas.Bool.{cond-false, cond-true}
use Rattle.std.proofs.lemmas.Option.{none-some, same_Some}
use Rattle.sw_ring.proofs.Among.{Contains-cons}
use Rattle.sw_message.specs.Transcript.{Closed, Gave, Hand, IsRun, Next, Step, is_not, open_at, opens}
use Rattle.sw_message.specs.declared.sent.Sent.{Sent}
use Rattle.sw_gather.proofs.Lists.{first_or_later, from_filter, here, none_in}

-- the message that is found is one of those
one-found : (ticket : ℕ) (sents : List Sent) (sent : Sent) → find (λ (one : Sent). one.ticket == ticket) sents ≡ Some sent → Contains sents sent
one-found ticket [] sent is = absurd (none-some sent is)
one-found ticket (first ∷ sents) sent is = step (first.ticket == ticket) refl (one-found ticket sents sent)
  where
    step : (b : Bool) → (first.ticket == ticket) ≡ b → (find (λ (one : Sent). one.ticket == ticket) sents ≡ Some sent → Contains sents sent) → Contains (first ∷ sents) sent
    step true has later =
        subst (Contains (first ∷ sents)) (same_Some first sent (sym (cond-true (first.ticket == ticket) (Some first) (find (λ (one : Sent). one.ticket == ticket) sents) has) ∙ is)) (here first sents)
    step false other later = Contains-cons sent first sents (later (sym (cond-false (first.ticket == ticket) (Some first) (find (λ (one : Sent). one.ticket == ticket) sents) other) ∙ is))

module _ (machine : List Step → Next → Type 0) (P : Sent → Type 0) (hands : (past : List Step) (sent : Sent) → machine past (Hand sent) → P sent) where
  opens-are : (past : List Step) → IsRun machine past → (sent : Sent) → Contains (opens past) sent → P sent
  opens-are [] run sent there = absurd (none_in sent there)
  opens-are (Gave one ∷ past) run sent there = elim (first_or_later one (opens past) sent there) [ inl same ↦ subst P same (hands past one run.0) | inr later ↦ opens-are past run.1 sent later ]
  opens-are (Closed one answer ∷ past) run sent there = opens-are past run.1 sent (from_filter (is_not one.ticket) (opens past) sent there).0

  pub open-is : (past : List Step) → IsRun machine past → (sent : Sent) → open_at sent.ticket past ≡ Some sent → P sent
  open-is past run sent is = opens-are past run sent (one-found sent.ticket (opens past) sent is)
