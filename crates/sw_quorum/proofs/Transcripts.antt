-- What every transcript keeps of a machine that numbers its messages.
use Rattle.std.specs.Prelude.{◌≡◌, ℕ, zero, suc, ◌+◌, ◌<◌, true, false, not, is_some, List, [], ◌∷◌, length, filter, find, Option, Some, None}
use Rattle.std.specs.List.{All, AllPairs, sum_by}
use Rattle.std.proofs.Common.{ap, arith, cond, inl, inr, refl, subst, sym, ◌∙◌}
use Rattle.std.proofs.lemmas.Bool.{cases_Bool, cond-false, cond-true, eqb-true, ne_eqb}
use Rattle.std.proofs.lemmas.List.{length-append}
use Rattle.std.proofs.lemmas.List.Elements.{All-cons, All-filter, All-head, All-nil, All-tail, All-weaker}
use Rattle.std.proofs.lemmas.List.Kept.{AllPairs-cons, AllPairs-filter}
use Rattle.std.proofs.lemmas.List.Sums.{sum_by-append, sum_by-cons}
use Rattle.std.proofs.lemmas.Option.{none-some, same_Some}
use Rattle.sw_message.specs.Transcript.{Closed, Gave, Hand, IsRun, Next, Step, after_answer, closed_by, given, is_empty, is_not, is_waiting, open_at, opens}
use Rattle.sw_message.specs.declared.reply.Reply.{Reply}
use Rattle.sw_message.specs.declared.sent.Sent.{Sent}
use Rattle.sw_quorum.specs.Answers.{Judged, answers}
use Rattle.sw_quorum.specs.Transcripts.{AreNumbered, HasOther, Numbers, closed, has_ticket, closed_count}

-- ---- the open message of a ticket

-- it is one of those that are open, and its ticket is that one
pub found : (P : Sent → Type 0) (ticket : ℕ) (sents : List Sent) (sent : Sent) → find (has_ticket ticket) sents ≡ Some sent → All P sents → P sent × (sent.ticket ≡ ticket)
found P ticket [] sent is all = absurd (none-some sent is)
found P ticket (first ∷ sents) sent is all = elim (cases_Bool (has_ticket ticket first)) [
  | inl has ↦
      let same : first ≡ sent = same_Some first sent (sym (cond-true (has_ticket ticket first) (Some first) (find (has_ticket ticket) sents) has) ∙ is) in
      subst (λ (one : Sent). P one × (one.ticket ≡ ticket)) same (All-head P first sents all, eqb-true first.ticket ticket has)
  | inr other ↦ found P ticket sents sent (sym (cond-false (has_ticket ticket first) (Some first) (find (has_ticket ticket) sents) other) ∙ is) (All-tail P first sents all)
]

-- an answer for it
pub told-open : (past : List Step) (ticket : ℕ) (answer : Option Reply) (sent : Sent) → open_at ticket past ≡ Some sent → after_answer past ticket answer ≡ Closed sent answer ∷ past
told-open past ticket answer sent is = ap (closed_by past answer) is

-- an answer for a ticket that has none
pub told-ignored : (past : List Step) (ticket : ℕ) (answer : Option Reply) → open_at ticket past ≡ None → after_answer past ticket answer ≡ past
told-ignored past ticket answer is = ap (closed_by past answer) is

-- whether there is one
pub none_at : (opened : Option Sent) → is_some opened ≡ false → opened ≡ None
none_at None is = refl
none_at (Some sent) is = absurd (cc)

pub some_at : (opened : Option Sent) → is_some opened ≡ true → (sent : Sent) × (opened ≡ Some sent)
some_at None is = absurd (cc)
some_at (Some sent) is = (sent, refl)

-- ---- how many messages are open

pub some_found : (ticket : ℕ) (sents : List Sent) (sent : Sent) → find (has_ticket ticket) sents ≡ Some sent → 0 < length sents
some_found ticket [] sent is = absurd (none-some sent is)
some_found ticket (first ∷ sents) sent is = omega arith

some_waiting : (sents : List Sent) → 0 < length sents → not (is_empty sents) ≡ true
some_waiting [] some = absurd (omega (arith, some))
some_waiting (sent ∷ sents) some = refl

none_left : (sents : List Sent) → length sents ≡ 0 → sents ≡ []
none_left [] none = refl
none_left (sent ∷ sents) none = absurd (omega (arith, none))

pub waiting-some : (past : List Step) → 0 < length (opens past) → is_waiting past ≡ true
waiting-some past some = some_waiting (opens past) some

pub closed-none : (past : List Step) → length (opens past) ≡ 0 → opens past ≡ []
closed-none past none = none_left (opens past) none

pub all-kept : (ticket : ℕ) (sents : List Sent) → All (λ (sent : Sent). is_not ticket sent ≡ true) sents → filter (is_not ticket) sents ≡ sents
all-kept ticket [] all = refl
all-kept ticket (sent ∷ sents) all =
    ap (λ b. cond b (sent ∷ filter (is_not ticket) sents) (filter (is_not ticket) sents)) (All-head (λ (sent : Sent). is_not ticket sent ≡ true) sent sents all)
    ∙ ap (λ these. sent ∷ these) (all-kept ticket sents (All-tail (λ (sent : Sent). is_not ticket sent ≡ true) sent sents all))

-- without it there is one fewer
pub one_fewer : (ticket : ℕ) (sents : List Sent) (sent : Sent) → find (has_ticket ticket) sents ≡ Some sent → AllPairs HasOther sents → length (filter (is_not ticket) sents) + 1 ≡ length sents
one_fewer ticket [] sent is apart = absurd (none-some sent is)
one_fewer ticket (first ∷ sents) sent is apart = elim (cases_Bool (has_ticket ticket first)) [
  | inl has ↦
      let others : All (λ (one : Sent). is_not ticket one ≡ true) sents =
      λ i d within. ap not (ne_eqb _ ticket (λ same. apart zero (suc i) d (omega arith) (omega arith) (eqb-true first.ticket ticket has ∙ sym same))) in
      rw (has, all-kept ticket sents others) (omega arith)
  | inr other ↦
      let rest : AllPairs HasOther sents = λ i j d less within. apart (suc i) (suc j) d (omega arith) (omega arith) in
      let fewer = one_fewer ticket sents sent (sym (cond-false (has_ticket ticket first) (Some first) (find (has_ticket ticket) sents) other) ∙ is) rest in
      rw other (omega (arith, fewer))
]

-- and there is as much less as it counts
pub one_less : (f : Sent → ℕ) (ticket : ℕ) (sents : List Sent) (sent : Sent) → find (has_ticket ticket) sents ≡ Some sent → AllPairs HasOther sents
    → sum_by f (filter (is_not ticket) sents) + f sent ≡ sum_by f sents
one_less f ticket [] sent is apart = absurd (none-some sent is)
one_less f ticket (first ∷ sents) sent is apart = elim (cases_Bool (has_ticket ticket first)) [
  | inl has ↦
      let others : All (λ (one : Sent). is_not ticket one ≡ true) sents =
      λ i d within. ap not (ne_eqb _ ticket (λ same. apart zero (suc i) d (omega arith) (omega arith) (eqb-true first.ticket ticket has ∙ sym same))) in
      let same : first ≡ sent = same_Some first sent (sym (cond-true (has_ticket ticket first) (Some first) (find (has_ticket ticket) sents) has) ∙ is) in
      rw (has, all-kept ticket sents others) (omega (arith, ap f same, sum_by-cons f first sents))
  | inr other ↦
      let rest : AllPairs HasOther sents = λ i j d less within. apart (suc i) (suc j) d (omega arith) (omega arith) in
      let less = one_less f ticket sents sent (sym (cond-false (has_ticket ticket first) (Some first) (find (has_ticket ticket) sents) other) ∙ is) rest in
      rw other (omega (arith, less, sum_by-cons f first sents, sum_by-cons f first (filter (is_not ticket) sents)))
]

-- where each answer is judged by what it counts, so are those of a transcript
pub answers-weigh : {T : Type 0} (judge : Sent → Option Reply → List (Judged T)) (w : T → ℕ) (f : Sent → ℕ)
    → ((sent : Sent) (answer : Option Reply) → sum_by (λ (one : Judged T). w one.about) (judge sent answer) ≡ f sent)
    → (past : List Step) → sum_by (λ (one : Judged T). w one.about) (answers judge past) ≡ sum_by f (closed past)
answers-weigh judge w f each [] = refl
answers-weigh judge w f each (Gave sent ∷ past) = answers-weigh judge w f each past
answers-weigh {T} judge w f each (Closed sent answer ∷ past) =
    omega (arith, answers-weigh judge w f each past, each sent answer, sum_by-append (λ (one : Judged T). w one.about) (answers judge past) (judge sent answer), sum_by-cons f sent (closed past))

-- ---- every transcript

module _ (machine : List Step → Next → Type 0) where
  pub numbered : Numbers machine → (past : List Step) → IsRun machine past → AreNumbered past
  numbered numbers [] run = record { below = All-nil _; apart = λ i j d less within. absurd (omega arith); count = refl }
  numbered numbers (Gave sent ∷ past) run =
      let before = numbered numbers past run.1 in
      let is = numbers past sent run.0 in
      record {
        below = All-cons (λ (one : Sent). one.ticket < length (given (Gave sent ∷ past))) sent (opens past) (omega (arith, is))
            (All-weaker (λ (one : Sent). one.ticket < length (given past)) (λ (one : Sent). one.ticket < length (given (Gave sent ∷ past))) (λ one less. omega (arith, less)) (opens past) before.below);
        apart = AllPairs-cons HasOther sent (opens past)
            (All-weaker (λ (one : Sent). one.ticket < length (given past)) (HasOther sent) (λ one less same. absurd (omega (arith, less, is, same))) (opens past) before.below) before.apart;
        count = omega (arith, before.count);
      }
  numbered numbers (Closed sent answer ∷ past) run =
      let before = numbered numbers past run.1 in
      record {
        below = All-filter (is_not sent.ticket) (λ (one : Sent). one.ticket < length (given past)) (opens past) before.below;
        apart = AllPairs-filter HasOther (is_not sent.ticket) (opens past) before.apart;
        count = omega (arith, before.count, one_fewer sent.ticket (opens past) sent run.0 before.apart);
      }

  -- each message is open or told, whatever it counts
  pub sums-keep : Numbers machine → (f : Sent → ℕ) (past : List Step) → IsRun machine past → sum_by f (closed past) + sum_by f (opens past) ≡ sum_by f (given past)
  sums-keep numbers f [] run = refl
  sums-keep numbers f (Gave sent ∷ past) run = omega (arith, sums-keep numbers f past run.1, sum_by-cons f sent (opens past), sum_by-cons f sent (given past))
  sums-keep numbers f (Closed sent answer ∷ past) run =
      omega (arith, sums-keep numbers f past run.1, sum_by-cons f sent (closed past), one_less f sent.ticket (opens past) sent run.0 (numbered numbers past run.1).apart)

  -- what holds of a message when it is handed out, and stays so, holds of those that are open
  pub opens-keep : (P : List Step → Sent → Type 0) → ((past : List Step) (sent : Sent) → machine past (Hand sent) → P (Gave sent ∷ past) sent)
      → ((past : List Step) (step : Step) (sent : Sent) → P past sent → P (step ∷ past) sent) → (past : List Step) → IsRun machine past → All (P past) (opens past)
  opens-keep P hands stays [] run = All-nil (P [])
  opens-keep P hands stays (Gave sent ∷ past) run =
      All-cons (P (Gave sent ∷ past)) sent (opens past) (hands past sent run.0)
      (All-weaker (P past) (P (Gave sent ∷ past)) (stays past (Gave sent)) (opens past) (opens-keep P hands stays past run.1))
  opens-keep P hands stays (Closed sent answer ∷ past) run =
      All-filter (is_not sent.ticket) (P (Closed sent answer ∷ past)) (opens past)
      (All-weaker (P past) (P (Closed sent answer ∷ past)) (stays past (Closed sent answer)) (opens past) (opens-keep P hands stays past run.1))

  -- a transcript goes on by an answer to an open message
  pub run-told : (past : List Step) (ticket : ℕ) (answer : Option Reply) (sent : Sent) → open_at ticket past ≡ Some sent → IsRun machine past → IsRun machine (Closed sent answer ∷ past)
  run-told past ticket answer sent is run =
      let own = (found (λ (one : Sent). Unit {0}) ticket (opens past) sent is (λ i d within. tt)).1 in
      (ap (λ n. open_at n past) own ∙ is, run)

  -- where each answer to an open message is judged once, there are as many judged as answers
  pub judged-once : {T : Type 0} (judge : Sent → Option Reply → List (Judged T))
      → ((past : List Step) (sent : Sent) (answer : Option Reply) → IsRun machine past → open_at sent.ticket past ≡ Some sent → length (judge sent answer) ≡ 1)
      → (past : List Step) → IsRun machine past → length (answers judge past) ≡ closed_count past
  judged-once judge once [] run = refl
  judged-once judge once (Gave sent ∷ past) run = judged-once judge once past run.1
  judged-once judge once (Closed sent answer ∷ past) run =
      omega (arith, length-append (answers judge past) (judge sent answer), judged-once judge once past run.1, once past sent answer run.1 run.0)
