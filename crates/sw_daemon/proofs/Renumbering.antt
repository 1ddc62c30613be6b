-- A pass's transcript is that of its stage, by other tickets, behind what went before.
use Rattle.std.proofs.Common.{◌≡◌, inl, inr, ℕ, ◌+◌, ◌<◌, ◌==◌, Bool, true, false, not, List, [], ◌∷◌, length, map, Option, Some, None, refl, sym, ap, subst, ◌∙◌, arith}
use Rattle.std.specs.List.{filter, find}
use Rattle.std.proofs.lemmas.Bool.{cond-false, cond-true, eq-eqb, eqb-false, eqb-true, false_from_ne_true}
use Rattle.std.proofs.lemmas.Option.{none-some, same_Some}
use Rattle.sw_ring.specs.Cluster.{ClusterModel}
use Rattle.sw_message.specs.Learnt.{AreKnown, IsSoundBook, KnowsReply, Learnt}
use Rattle.sw_message.specs.Transcript.{Closed, Gave, IsRun, Next, Step, after_answer, closed_by, given, is_empty, is_not, is_waiting, open_at, opens}
use Rattle.sw_message.specs.declared.reply.Reply.{Reply}
use Rattle.sw_message.specs.declared.sent.Sent.{Sent}
use Rattle.sw_daemon.specs.Pass.{Begun, Gives, IsState, State, Takes, Turns, renumbered, stage_of}
use Rattle.sw_daemon.specs.Stage as stage
use Rattle.sw_daemon.specs.Stage.{Answered, Asks, End, Reverted, Reverts, Synced, Syncs}

-- ---- tickets

same-ticket : (before a b : ℕ) → (before + a == before + b) ≡ (a == b)
same-ticket before a b = by (a == b) refl
  where
    by : (same : Bool) → (a == b) ≡ same → (before + a == before + b) ≡ (a == b)
    by true is = eq-eqb (before + a) (before + b) (omega (arith, eqb-true a b is)) ∙ sym is
    by false is = false_from_ne_true (before + a == before + b) (λ same. eqb-false a b is (omega (arith, eqb-true (before + a) (before + b) same))) ∙ sym is

abbrev pub renumber : ℕ → Option Sent → Option Sent
renumber before None = None
renumber before (Some sent) = Some (renumbered before sent)

find-renumbered : (before ticket : ℕ) (sents : List Sent) → find (λ (sent : Sent). sent.ticket == before + ticket) (map (renumbered before) sents) ≡ renumber before (find (λ (sent : Sent). sent.ticket == ticket) sents)
find-renumbered before ticket [] = refl
find-renumbered before ticket (sent ∷ sents) = step (sent.ticket == ticket) refl (find-renumbered before ticket sents)
  where
    step : (b : Bool) → (sent.ticket == ticket) ≡ b
        → find (λ (one : Sent). one.ticket == before + ticket) (map (renumbered before) sents) ≡ renumber before (find (λ (one : Sent). one.ticket == ticket) sents)
        → find (λ (one : Sent). one.ticket == before + ticket) (map (renumbered before) (sent ∷ sents)) ≡ renumber before (find (λ (one : Sent). one.ticket == ticket) (sent ∷ sents))
    step true is later = rw (same-ticket before sent.ticket ticket, is) refl
    step false is later = rw (same-ticket before sent.ticket ticket, is) later

filter-renumbered : (before ticket : ℕ) (sents : List Sent) → filter (is_not (before + ticket)) (map (renumbered before) sents) ≡ map (renumbered before) (filter (is_not ticket) sents)
filter-renumbered before ticket [] = refl
filter-renumbered before ticket (sent ∷ sents) = step (sent.ticket == ticket) refl (filter-renumbered before ticket sents)
  where
    step : (b : Bool) → (sent.ticket == ticket) ≡ b → filter (is_not (before + ticket)) (map (renumbered before) sents) ≡ map (renumbered before) (filter (is_not ticket) sents)
        → filter (is_not (before + ticket)) (map (renumbered before) (sent ∷ sents)) ≡ map (renumbered before) (filter (is_not ticket) (sent ∷ sents))
    step true is later = rw (same-ticket before sent.ticket ticket, is) later
    step false is later = rw (same-ticket before sent.ticket ticket, is) (ap (λ rest. renumbered before sent ∷ rest) later)

-- ---- transcripts

-- the open messages are those of the stage, and what was handed out before it is counted
pub record Matches (past : List Step) (state : State) : Type 0 where
  pub opens_are : opens past ≡ map (renumbered state.before) (opens state.own)
  pub count_is : length (given past) ≡ state.before + length (given state.own)

none-open : (past : List Step) → is_waiting past ≡ false → opens past ≡ []
none-open past waits = empty (opens past) waits
  where
    empty : (sents : List Sent) → not (is_empty sents) ≡ false → sents ≡ []
    empty [] is = refl
    empty (sent ∷ sents) is = cc

-- a stage that is over has no open message
pub over-none : (begun : stage.Begun) (past : List Step) (end : End) → stage.IsEnd begun past end → opens past ≡ []
over-none (Asks begun) past (Answered answer) is = none-open past is.0
over-none (Syncs begun) past (Synced end) is = none-open past is.0
over-none (Reverts begun) past (Reverted end) is = none-open past is.0
over-none begun past end is = absurd is

pub matches-turned : (begun : Begun) (past : List Step) (state turned : State) → Matches past state → Turns begun (length (given past)) state turned → Matches past turned
matches-turned begun past state turned is (inl same) = subst (Matches past) (sym same) is
matches-turned begun past state turned is (inr (end, ends, course, follows, turned_is)) = subst (Matches past) (sym turned_is) (record {
  opens_are = is.opens_are ∙ ap (map (renumbered state.before)) (over-none (stage_of begun state.course.task) state.own end ends);
  count_is = omega arith;
})

matches-given : (begun : Begun) (past : List Step) (state : State) (sent : Sent) (after : State) → Matches past state → Gives begun (length (given past)) state sent after → Matches (Gave sent ∷ past) after
matches-given begun past state sent after is gives =
    let turned = matches-turned begun past state gives.turned is gives.turns in
    subst (Matches (Gave sent ∷ past)) (sym gives.after_is)
    (subst (λ (one : Sent). Matches (Gave one ∷ past) (record gives.turned { own = Gave gives.own ∷ gives.turned.own })) (sym gives.sent_is) (record {
      opens_are = ap (λ rest. renumbered gives.turned.before gives.own ∷ rest) turned.opens_are;
      count_is = omega (arith, turned.count_is);
    }))

matches-taken : (past : List Step) (state : State) (sent : Sent) (answer : Option Reply) (after : State) → Matches past state → Takes state sent answer after → Matches (Closed sent answer ∷ past) after
matches-taken past state sent answer after is takes =
    subst (Matches (Closed sent answer ∷ past)) (sym takes.after_is)
    (subst (λ (one : Sent). Matches (Closed one answer ∷ past) (record state { own = Closed takes.own answer ∷ state.own })) (sym takes.sent_is) (record {
      opens_are = ap (filter (is_not (state.before + takes.own.ticket))) is.opens_are ∙ filter-renumbered state.before takes.own.ticket (opens state.own);
      count_is = is.count_is;
    }))

pub matches : (begun : Begun) (past : List Step) (state : State) → IsState begun past state → Matches past state
matches begun [] state is = subst (Matches []) (sym is) (record { opens_are = refl; count_is = refl })
matches begun (Gave sent ∷ past) state (before, was, gives) = matches-given begun past before sent state (matches begun past before was) gives
matches begun (Closed sent answer ∷ past) state (before, was, takes) = matches-taken past before sent answer state (matches begun past before was) takes

-- ---- answers

-- no message of a stage has a ticket that was handed out before it
below-none : (before ticket : ℕ) → ticket < before → (sents : List Sent) → find (λ (sent : Sent). sent.ticket == ticket) (map (renumbered before) sents) ≡ None
below-none before ticket less [] = refl
below-none before ticket less (sent ∷ sents) = step (before + sent.ticket == ticket) refl (below-none before ticket less sents)
  where
    step : (b : Bool) → (before + sent.ticket == ticket) ≡ b → find (λ (one : Sent). one.ticket == ticket) (map (renumbered before) sents) ≡ None
        → find (λ (one : Sent). one.ticket == ticket) (map (renumbered before) (sent ∷ sents)) ≡ None
    step true is later = absurd (omega (arith, less, eqb-true (before + sent.ticket) ticket is))
    step false is later = rw is later

-- the message that is found has the ticket
ticket-found : (ticket : ℕ) (sents : List Sent) (sent : Sent) → find (λ (one : Sent). one.ticket == ticket) sents ≡ Some sent → sent.ticket ≡ ticket
ticket-found ticket [] sent is = absurd (none-some sent is)
ticket-found ticket (first ∷ sents) sent is = step (first.ticket == ticket) refl (ticket-found ticket sents sent)
  where
    step : (b : Bool) → (first.ticket == ticket) ≡ b → (find (λ (one : Sent). one.ticket == ticket) sents ≡ Some sent → sent.ticket ≡ ticket) → sent.ticket ≡ ticket
    step true has later = ap (λ (one : Sent). one.ticket) (sym (same_Some first sent (sym (cond-true (first.ticket == ticket) (Some first) (find (λ (one : Sent). one.ticket == ticket) sents) has) ∙ is))) ∙ eqb-true first.ticket ticket has
    step false other later = later (sym (cond-false (first.ticket == ticket) (Some first) (find (λ (one : Sent). one.ticket == ticket) sents) other) ∙ is)

module _ (past : List Step) (answer : Option Reply) where
  -- an answer is ignored where nothing is open, or the ticket is that of no message of the stage
  pub told-none : (ticket : ℕ) → opens past ≡ [] → after_answer past ticket answer ≡ past
  told-none ticket none = ap (λ opened. closed_by past answer (find (λ (sent : Sent). sent.ticket == ticket) opened)) none

  module _ (state : State) (same : Matches past state) where
    pub told-before : (ticket : ℕ) → ticket < state.before → after_answer past ticket answer ≡ past
    told-before ticket less =
        ap (closed_by past answer) (ap (find (λ (sent : Sent). sent.ticket == ticket)) same.opens_are ∙ below-none state.before ticket less (opens state.own))

    pub open-renumbered : (ticket : ℕ) → open_at (state.before + ticket) past ≡ renumber state.before (open_at ticket state.own)
    open-renumbered ticket = ap (find (λ (sent : Sent). sent.ticket == state.before + ticket)) same.opens_are ∙ find-renumbered state.before ticket (opens state.own)

    pub told-ignored : (ticket : ℕ) → open_at ticket state.own ≡ None → after_answer past (state.before + ticket) answer ≡ past
    told-ignored ticket none = ap (closed_by past answer) (open-renumbered ticket ∙ ap (renumber state.before) none)

    -- else it is one to the message of the stage
    open-so : (ticket : ℕ) (sent : Sent) → open_at ticket state.own ≡ Some sent → open_at (state.before + ticket) past ≡ Some (renumbered state.before sent)
    open-so ticket sent some = open-renumbered ticket ∙ ap (renumber state.before) some

    pub told-open : (ticket : ℕ) (sent : Sent) → open_at ticket state.own ≡ Some sent → after_answer past (state.before + ticket) answer ≡ Closed (renumbered state.before sent) answer ∷ past
    told-open ticket sent some = ap (closed_by past answer) (open-so ticket sent some)

    pub run-told : (machine : List Step → Next → Type 0) (ticket : ℕ) (sent : Sent) → open_at ticket state.own ≡ Some sent → IsRun machine past → IsRun machine (Closed (renumbered state.before sent) answer ∷ past)
    run-told machine ticket sent some run =
        let is = open-so ticket sent some in
        (ap (λ n. open_at n past) (ticket-found (state.before + ticket) (opens past) (renumbered state.before sent) is) ∙ is, run)

-- whether a message is open is the same of both
pub waiting-same : (past : List Step) (state : State) → Matches past state → is_waiting past ≡ is_waiting state.own
waiting-same past state same = ap (λ opened. not (is_empty opened)) same.opens_are ∙ mapped (opens state.own)
  where
    mapped : (sents : List Sent) → not (is_empty (map (renumbered state.before) sents)) ≡ not (is_empty sents)
    mapped [] = refl
    mapped (sent ∷ sents) = refl

-- ---- replies

module _ (cluster : ClusterModel) (learnt : Learnt) where
  sound-book : (past : List Step) → AreKnown cluster learnt past → IsSoundBook cluster.policy learnt.book
  sound-book [] known = known
  sound-book (Gave sent ∷ past) known = sound-book past known
  sound-book (Closed sent answer ∷ past) known = sound-book past known.1

  module _ (begun : Begun) where
    pub turned-known : (past : List Step) (count : ℕ) (state turned : State) → AreKnown cluster learnt past → Turns begun count state turned → AreKnown cluster learnt state.own → AreKnown cluster learnt turned.own
    turned-known past count state turned known (inl same) own = subst (λ (one : State). AreKnown cluster learnt one.own) (sym same) own
    turned-known past count state turned known (inr (end, ends, course, follows, turned_is)) own = subst (λ (one : State). AreKnown cluster learnt one.own) (sym turned_is) (sound-book past known)

    -- what is known of a pass's transcript is known of that of its stage
    pub own-known : (past : List Step) (state : State) → IsState begun past state → AreKnown cluster learnt past → AreKnown cluster learnt state.own
    own-known [] state is known = subst (λ (one : State). AreKnown cluster learnt one.own) (sym is) known
    own-known (Gave sent ∷ past) state (before, was, gives) known =
        subst (λ (one : State). AreKnown cluster learnt one.own) (sym gives.after_is) (turned-known past (length (given past)) before gives.turned known gives.turns (own-known past before was known))
    own-known (Closed sent answer ∷ past) state (before, was, takes) known =
        subst (λ (one : State). AreKnown cluster learnt one.own) (sym takes.after_is)
        (subst (λ (one : Sent). KnowsReply cluster learnt one.device one.msg answer) takes.sent_is known.0, own-known past before was known.1)
