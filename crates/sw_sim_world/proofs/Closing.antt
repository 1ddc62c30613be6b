-- Tickets of a transcript that are closed, and stay so; and those of replies that were made.
use Rattle.std.proofs.Common.{◌≡◌, ◌≢◌, ⊎_elim, ℕ, suc, ◌<◌, ◌≤◌, ◌==◌, Bool, true, false, not, cond, Contains, List, [], ◌∷◌, filter, find, length, slice_get, Option, Some, None, refl, sym, ap, subst, ◌∙◌, arith}
use Rattle.std.proofs.lemmas.Bool.{cases_Bool, cond-false, cond-true, eq-eqb, eqb-true, ne_eqb}
use Rattle.std.proofs.lemmas.Option.{none-some, same_Some}
use Rattle.sw_ring.specs.Cluster.{ClusterModel}
use Rattle.sw_message.specs.Transcript.{Closed, Gave, IsRun, Step, after_answer, closed_by, given, is_not, open_at, opens}
use Rattle.sw_message.specs.declared.reply.Reply.{Reply}
use Rattle.sw_message.specs.declared.sent.Sent.{Sent}
use Rattle.sw_law_scene.specs.Scene.{Answer}
use Rattle.sw_operation.specs.Operating.{Begun, IsNext}
use Rattle.sw_core.specs.Sound.{IsSoundWorld}
use Rattle.sw_core.specs.World.{HandsOut, Operating, World, numbered}
use Rattle.sw_core.proofs.Machines.{numbers}
use Rattle.sw_core.proofs.Numbered.{numbered-contains}
use Rattle.sw_core.proofs.Transcripts.{given-below}

-- a message has a ticket
abbrev has_ticket : ℕ → Sent → Bool
has_ticket ticket sent = sent.ticket == ticket

-- the first that passes a test does
found-passes : (test : Sent → Bool) (sents : List Sent) (sent : Sent) → find test sents ≡ Some sent → test sent ≡ true
found-passes test [] sent is = absurd (none-some sent is)
found-passes test (first ∷ sents) sent is = ⊎_elim
    (λ passes. subst (λ (one : Sent). test one ≡ true) (same_Some first sent (sym (cond-true (test first) (Some first) (find test sents) passes) ∙ is)) passes)
    (λ fails. found-passes test sents sent (sym (cond-false (test first) (Some first) (find test sents) fails) ∙ is))
    (cases_Bool (test first))

-- where none passes, none of those that are kept does
none-kept : (test keeps : Sent → Bool) (sents : List Sent) → find test sents ≡ None → find test (filter keeps sents) ≡ None
none-kept test keeps [] none = refl
none-kept test keeps (first ∷ sents) none = by_test (test first) refl (none-kept test keeps sents)
  where
    by_keep : test first ≡ false → find test (filter keeps sents) ≡ None → (b : Bool) → find test (cond b (first ∷ filter keeps sents) (filter keeps sents)) ≡ None
    by_keep fails rest true = cond-false (test first) (Some first) (find test (filter keeps sents)) fails ∙ rest
    by_keep fails rest false = rest

    by_test : (b : Bool) → test first ≡ b → (find test sents ≡ None → find test (filter keeps sents) ≡ None) → find test (filter keeps (first ∷ sents)) ≡ None
    by_test true passes later = absurd (none-some first (sym none ∙ cond-true (test first) (Some first) (find test sents) passes))
    by_test false fails later = by_keep fails (later (sym (cond-false (test first) (Some first) (find test sents) fails) ∙ none)) (keeps first)

-- none of those without a ticket has it
none-left : (ticket : ℕ) (sents : List Sent) → find (has_ticket ticket) (filter (is_not ticket) sents) ≡ None
none-left ticket [] = refl
none-left ticket (first ∷ sents) = by_test (has_ticket ticket first) refl (none-left ticket sents)
  where
    by_test : (b : Bool) → has_ticket ticket first ≡ b → find (has_ticket ticket) (filter (is_not ticket) sents) ≡ None
        → find (has_ticket ticket) (cond (not b) (first ∷ filter (is_not ticket) sents) (filter (is_not ticket) sents)) ≡ None
    by_test true has rest = rest
    by_test false other rest = cond-false (has_ticket ticket first) (Some first) (find (has_ticket ticket) (filter (is_not ticket) sents)) other ∙ rest

-- and of each other ticket the same has it
others-kept : (ticket other : ℕ) → other ≢ ticket → (sents : List Sent) → find (has_ticket other) (filter (is_not ticket) sents) ≡ find (has_ticket other) sents
others-kept ticket other apart [] = refl
others-kept ticket other apart (first ∷ sents) = by_test (has_ticket ticket first) refl (others-kept ticket other apart sents)
  where
    by_test : (b : Bool) → has_ticket ticket first ≡ b → find (has_ticket other) (filter (is_not ticket) sents) ≡ find (has_ticket other) sents
        → find (has_ticket other) (cond (not b) (first ∷ filter (is_not ticket) sents) (filter (is_not ticket) sents)) ≡ find (has_ticket other) (first ∷ sents)
    by_test true is rest =
        rest
        ∙ sym (cond-false (has_ticket other first) (Some first) (find (has_ticket other) sents) (ne_eqb first.ticket other (λ same. apart (sym same ∙ eqb-true first.ticket ticket is))))
    by_test false is rest = ap (λ (later : Option Sent). cond (has_ticket other first) (Some first) later) rest

-- ---- steps

module _ (past : List Step) (sent : Sent) where
  -- a message that is handed out is open
  pub open-same : (ticket : ℕ) → sent.ticket ≡ ticket → open_at ticket (Gave sent ∷ past) ≡ Some sent
  open-same ticket same = cond-true (has_ticket ticket sent) (Some sent) (open_at ticket past) (eq-eqb sent.ticket ticket same)

  -- the others are as before then
  pub open-other : (ticket : ℕ) → sent.ticket ≢ ticket → open_at ticket (Gave sent ∷ past) ≡ open_at ticket past
  open-other ticket apart = cond-false (has_ticket ticket sent) (Some sent) (open_at ticket past) (ne_eqb sent.ticket ticket apart)

  -- the ticket of a message that was told is closed
  pub gone-open : (answer : Option Reply) (ticket : ℕ) → ticket ≡ sent.ticket → open_at ticket (Closed sent answer ∷ past) ≡ None
  gone-open answer ticket same = subst (λ (other : ℕ). find (has_ticket ticket) (filter (is_not other) (opens past)) ≡ None) same (none-left ticket (opens past))

  -- the others are as before then
  pub apart-open : (answer : Option Reply) (ticket : ℕ) → ticket ≢ sent.ticket → open_at ticket (Closed sent answer ∷ past) ≡ open_at ticket past
  apart-open answer ticket apart = others-kept sent.ticket ticket apart (opens past)

-- ---- an answer for a ticket

module _ (past : List Step) (ticket : ℕ) (answer : Option Reply) where
  -- the open message of a ticket has it
  pub open-ticket : (sent : Sent) → open_at ticket past ≡ Some sent → sent.ticket ≡ ticket
  open-ticket sent is = eqb-true sent.ticket ticket (found-passes (has_ticket ticket) (opens past) sent is)

  -- the ticket is closed then
  pub told-closed : open_at ticket (after_answer past ticket answer) ≡ None
  told-closed = by_open (open_at ticket past) refl
    where
      by_open : (opened : Option Sent) → open_at ticket past ≡ opened → open_at ticket (closed_by past answer opened) ≡ None
      by_open None is = is
      by_open (Some sent) is = subst (λ (other : ℕ). find (has_ticket ticket) (filter (is_not other) (opens past)) ≡ None) (sym (open-ticket sent is)) (none-left ticket (opens past))

  -- the others are as before
  pub told-other : (other : ℕ) → other ≢ ticket → open_at other (after_answer past ticket answer) ≡ open_at other past
  told-other other apart = by_open (open_at ticket past) refl
    where
      by_open : (opened : Option Sent) → open_at ticket past ≡ opened → open_at other (closed_by past answer opened) ≡ open_at other past
      by_open None is = refl
      by_open (Some sent) is = apart-open past sent answer other (λ same. apart (same ∙ open-ticket sent is))

  -- and one that was closed before is so still
  pub told-still : (other : ℕ) → open_at other past ≡ None → open_at other (after_answer past ticket answer) ≡ None
  told-still other closed = by_open (open_at ticket past)
    where
      by_open : (opened : Option Sent) → open_at other (closed_by past answer opened) ≡ None
      by_open None = closed
      by_open (Some sent) = none-kept (has_ticket other) (is_not sent.ticket) (opens past) closed

-- ---- messages that are handed out

module _ (begun : Begun) where
  -- the tickets of those before are open or closed as they were
  pub handed-same : (sents : List Sent) (past later : List Step) (ticket : ℕ) → HandsOut begun sents past later → ticket < length (given past) → open_at ticket later ≡ open_at ticket past
  handed-same [] past later ticket same below = ap (open_at ticket) same
  handed-same (first ∷ sents) past later ticket (next, more) below =
      let number = numbers begun past first next in
      handed-same sents (Gave first ∷ past) later ticket more (omega (arith, below)) ∙ open-other past first ticket (λ same. absurd (omega (arith, same, number, below)))

  -- and no fewer were handed out
  pub handed-more : (sents : List Sent) (past later : List Step) → HandsOut begun sents past later → length (given past) ≤ length (given later)
  handed-more [] past later same = omega (arith, ap (λ (steps : List Step). length (given steps)) same)
  handed-more (first ∷ sents) past later (next, more) = omega (arith, handed-more sents (Gave first ∷ past) later more)

-- the ticket of a reply that was made is one of those that its operation handed out
pub answer-below : (cluster : ClusterModel) (world : World) → IsSoundWorld cluster world → (slot at number : ℕ) (sent : Sent) (reply : Reply) → slice_get world.scene.messages slot ≡ Some (Answer at number sent reply)
    → (operation : Operating) → numbered world.operations number ≡ Some operation → sent.ticket < length (given operation.past)
answer-below cluster world sound slot at number sent reply made operation is =
    let stands = sound.operations number operation is in
    let asked = sound.scene.asked at number sent reply (numbered-contains world.scene.messages (suc slot) (Answer at number sent reply) made) in
    given-below (IsNext operation.begun) (numbers operation.begun) operation.past stands.run sent (stands.requests asked.0 sent asked.2).1
