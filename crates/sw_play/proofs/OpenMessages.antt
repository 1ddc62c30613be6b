-- Messages of a transcript that are open, those that were handed out, and what an answer adds.
use Rattle.std.proofs.Common.{◌≡◌, ◌⊎◌, inl, inr, ⊎_elim, ℕ, ◌==◌, Bool, true≢false, Contains, List, [], ◌∷◌, find, Option, Some, None, refl, sym, ap, subst, ◌∙◌}
use Rattle.std.proofs.lemmas.Bool.{cases_Bool, cond-false, cond-true, eq-eqb}
use Rattle.std.proofs.lemmas.Option.{none-some}
use Rattle.sw_diskfile.proofs.Lists.{Contains-cases, Contains-first, Contains-later, Contains-none, kept}
use Rattle.sw_message.specs.Transcript.{Closed, Gave, Step, after_answer, closed_by, given, is_not, open_at, opens}
use Rattle.sw_message.specs.declared.reply.Reply.{Reply}
use Rattle.sw_message.specs.declared.sent.Sent.{Sent}
use Rattle.sw_operation.specs.Operating.{Begun}
use Rattle.sw_core.specs.World.{HandsOut}

-- a message has a ticket
abbrev has_ticket : ℕ → Sent → Bool
has_ticket ticket sent = sent.ticket == ticket

-- ---- open messages

-- one that is found nowhere has another ticket
not-found : (ticket : ℕ) (sents : List Sent) → find (has_ticket ticket) sents ≡ None → (sent : Sent) → Contains sents sent → sent.ticket ≡ ticket → ⊥
not-found ticket [] none sent has same = Contains-none sent has
not-found ticket (first ∷ sents) none sent has same = ⊎_elim
    (λ passes. none-some first (sym none ∙ cond-true (has_ticket ticket first) (Some first) (find (has_ticket ticket) sents) passes))
    (λ fails. ⊎_elim
    (λ here. true≢false (sym (eq-eqb first.ticket ticket (ap (λ (one : Sent). one.ticket) here ∙ same)) ∙ fails))
    (λ later. not-found ticket sents (sym (cond-false (has_ticket ticket first) (Some first) (find (has_ticket ticket) sents) fails) ∙ none) sent later same)
    (Contains-cases first sents sent has))
    (cases_Bool (has_ticket ticket first))

-- the ticket of an open message is not closed
pub open-some : (past : List Step) (sent : Sent) → Contains (opens past) sent → open_at sent.ticket past ≡ None → ⊥
open-some past sent has none = not-found sent.ticket (opens past) none sent has refl

-- an open message was handed out
pub open-given : (past : List Step) (sent : Sent) → Contains (opens past) sent → Contains (given past) sent
open-given [] sent has = absurd (Contains-none sent has)
open-given (Gave first ∷ past) sent has = ⊎_elim
    (λ same. subst (Contains (first ∷ given past)) same (Contains-first first (given past)))
    (λ later. Contains-later first (given past) sent (open-given past sent later))
    (Contains-cases first (opens past) sent has)
open-given (Closed first answer ∷ past) sent has = open-given past sent (kept (is_not first.ticket) (opens past) sent has).0

-- ---- an answer

-- what was told once an answer came was told before, or is that answer to the open message of its ticket
pub told-either : (past : List Step) (ticket : ℕ) (answer : Option Reply) (sent : Sent) (other : Option Reply) → Contains (after_answer past ticket answer) (Closed sent other)
    → Contains past (Closed sent other) ⊎ ((open_at ticket past ≡ Some sent) × (answer ≡ other))
told-either past ticket answer sent other = by_open (open_at ticket past) refl
  where
    by_open : (opened : Option Sent) → open_at ticket past ≡ opened → Contains (closed_by past answer opened) (Closed sent other) → Contains past (Closed sent other) ⊎ ((open_at ticket past ≡ Some sent) × (answer ≡ other))
    by_open None none has = inl has
    by_open (Some one) is has = ⊎_elim
        (λ same. let this : one ≡ sent = cc in inr (subst (λ (it : Sent). open_at ticket past ≡ Some it) this is, cc))
        (λ old. inl old)
        (Contains-cases (Closed one answer) past (Closed sent other) has)

-- ---- messages that are handed out

module _ (begun : Begun) where
  -- what was told as they are is what was told before
  pub handed-told : (sents : List Sent) (past later : List Step) → HandsOut begun sents past later → (sent : Sent) (answer : Option Reply) → Contains later (Closed sent answer) → Contains past (Closed sent answer)
  handed-told [] past later same sent answer has = subst (λ (steps : List Step). Contains steps (Closed sent answer)) same has
  handed-told (first ∷ sents) past later (next, more) sent answer has = ⊎_elim
      (λ same. absurd (cc))
      (λ old. old)
      (Contains-cases (Gave first) past (Closed sent answer) (handed-told sents (Gave first ∷ past) later more sent answer has))

  -- and what was handed out then was so before, or is one of them
  pub handed-given : (sents : List Sent) (past later : List Step) → HandsOut begun sents past later → (sent : Sent) → Contains (given later) sent → Contains (given past) sent ⊎ Contains sents sent
  handed-given [] past later same sent has = inl (subst (λ (steps : List Step). Contains (given steps) sent) same has)
  handed-given (first ∷ sents) past later (next, more) sent has = ⊎_elim
      (λ before. ⊎_elim
      (λ same. inr (subst (Contains (first ∷ sents)) same (Contains-first first sents)))
      (λ old. inl old)
      (Contains-cases first (given past) sent before))
      (λ new. inr (Contains-later first sents sent new))
      (handed-given sents (Gave first ∷ past) later more sent has)
