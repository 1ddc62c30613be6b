-- The fragments and commits of a put go to homes of its place; which fragments were stored, and that there were enough of them.
use Rattle.std.proofs.Common.{◌≡◌, inl, inr, ℕ, zero, ◌+◌, ◌≤◌, ◌<◌, false, not, ◌&&◌, ◌||◌, List, [], ◌∷◌, ◌++◌, append-nil, length, map, Option, Some, None, is_some, refl, sym, ap, subst, arith}
use Rattle.std.specs.Prelude.{nat_lt}
use Rattle.std.specs.List.{All, slice_get}
use Rattle.std.proofs.lemmas.Bool.{and_parts, cond_both, ltb-false, not-true, or_parts}
use Rattle.std.proofs.lemmas.List.Elements.{All-append, All-get_or, All-map, All-nil, All-same, All-weaker}
use Rattle.std.proofs.lemmas.Option.{get_or_from_slice_get, slice_get_within}
use Rattle.sw_ring.specs.Cluster.{column_of}
use Rattle.sw_ring.specs.Ring.{is_among}
use Rattle.sw_ring.proofs.Among.{Contains-cons}
use Rattle.sw_ring.proofs.Roles.{column_length}
use Rattle.sw_message.specs.Floors.{highest, stands_above}
use Rattle.sw_message.specs.Message.{IsMember}
use Rattle.sw_message.specs.Targets.{ascending}
use Rattle.sw_message.specs.Transcript.{Closed, Gave, IsRun, Step}
use Rattle.sw_message.specs.Warrant.{IsHome}
use Rattle.sw_message.specs.declared.miss.Miss.{Miss}
use Rattle.sw_message.specs.declared.reply.Reply.{Reply}
use Rattle.sw_message.specs.declared.reply.Reply.TheVariants as reply
use Rattle.sw_message.specs.declared.sent.Sent.{Sent}
use Rattle.sw_message.specs.declared.target.Target.{Target}
use Rattle.sw_message.proofs.Ascents.{all_ascending}
use Rattle.sw_quorum.specs.Answers.{done, floors, missed}
use Rattle.sw_quorum.proofs.Laws.{done-each, missed-each}
use Rattle.sw_quorum.proofs.Places.{handoffs_apart, handoffs_known, part_small}
use Rattle.sw_quorum.proofs.Refusals.{not-done}
use Rattle.sw_quorum.specs.declared.verdict.Verdict.TheVariants.{Done}
use Rattle.sw_put.specs.Causes.{WasStored}
use Rattle.sw_put.specs.Put.{Begun, IsBegun, IsNext, commits_due, due, handoffs, place_of, primaries, put_message, replacements, stores, stores_due}
use Rattle.sw_quorum.specs.Targets.{targets_from}
use Rattle.sw_quorum.specs.Verdicts.{store_verdict}
use Rattle.sw_put.specs.declared.errand.Errand.{Errand}
use Rattle.sw_put.specs.declared.errand.Errand.TheVariants.{CommitAt, StoreAt}
use Rattle.sw_put.proofs.Dues.{primaries-each, replacements-each}
use Rattle.sw_put.proofs.Transcripts.{open-put}

-- ---- targets of a put

pub record IsFit (begun : Begun) (target : Target) : Type 0 where
  pub home : IsHome begun.cluster (place_of begun) target
  pub member : IsMember begun.cluster target.device
  pub below : target.index < begun.cluster.policy.k + begun.cluster.policy.m

-- an errand goes to such a target, and a commit goes out where enough were stored
abbrev pub Fits : Begun → List Step → Errand → Type 0
Fits begun past (StoreAt target) = IsFit begun target
Fits begun past (CommitAt target) = (IsFit begun target × WasStored begun past target) × (begun.cluster.policy.q ≤ length (done (stores past)))

-- a fragment was stored only where the reply says so
pub synced : (stamp : ℕ) (answer : Option Reply) → store_verdict stamp answer ≡ Done → answer ≡ Some reply.Synced
synced stamp None is = absurd (cc)
synced stamp (Some reply.Synced) is = refl
synced stamp (Some (reply.Superseded floor)) is = absurd (not-done (stands_above floor stamp) floor is)
synced stamp (Some other) is = absurd (cc)

module _ (begun : Begun) (valid : IsBegun begun) where
  primary-fit : (target : Target) → (slice_get (primaries begun) target.index ≡ Some target.device) × (target.index < length (primaries begun)) → IsFit begun target
  primary-fit target (at, within) = record {
    home = inl at;
    member = subst (IsMember begun.cluster) (get_or_from_slice_get (primaries begun) target.index target.device target.device at)
        (All-get_or (IsMember begun.cluster) (primaries begun) target.index target.device within (valid.rules.known (place_of begun).part (part_small begun.cluster begun.name)));
    below = omega (arith, within, column_length begun.cluster (place_of begun).part valid.rules);
  }

  spare : All (λ handoff. IsMember begun.cluster handoff × (is_among (column_of begun.cluster (place_of begun).part) handoff ≡ false)) (handoffs begun)
  spare = λ i d within. (handoffs_known begun.cluster (place_of begun).part i d within, handoffs_apart begun.cluster (place_of begun).part i d within)

  -- where misses are of indices of the place
  due-fit : (misses : List (Target × Miss)) → All (λ (miss : Target × Miss). IsFit begun miss.0) misses → All (IsFit begun) (targets_from 0 (primaries begun) ++ replacements misses (handoffs begun))
  due-fit misses all =
      All-append (IsFit begun) (targets_from 0 (primaries begun)) (replacements misses (handoffs begun))
      (All-weaker (λ (target : Target). (slice_get (primaries begun) target.index ≡ Some target.device) × (target.index < length (primaries begun))) (IsFit begun) primary-fit (targets_from 0 (primaries begun)) (primaries-each (primaries begun)))
      (replacements-each (IsFit begun) (λ (miss : Target × Miss). IsFit begun miss.0)
      (λ handoff. IsMember begun.cluster handoff × (is_among (column_of begun.cluster (place_of begun).part) handoff ≡ false))
      (λ miss handoff fit known. record { home = inr (known.0, known.1, fit.below); member = known.0; below = fit.below }) misses (handoffs begun) all spare)

  commits-enough : (past : List Step) → All (λ (target : Target). begun.cluster.policy.q ≤ length (done (stores past))) (commits_due begun past)
  commits-enough past =
      let settled = not (nat_lt (length (stores past)) (length (stores_due begun past))) in
      let forbids = is_some (highest (floors (stores past))) in
      let few = nat_lt (length (done (stores past))) begun.cluster.policy.q in
      cond_both (settled && not (forbids || few)) (ascending (done (stores past))) [] (All (λ (target : Target). begun.cluster.policy.q ≤ length (done (stores past))))
      (λ is i d within. ltb-false (length (done (stores past))) begun.cluster.policy.q (or_parts forbids few (not-true (forbids || few) (and_parts settled (not (forbids || few)) is).1)).1)
      (λ is. All-nil _)

  commits-each : (P : Target → Type 0) (past : List Step) → All P (done (stores past)) → All P (commits_due begun past)
  commits-each P past all =
      let settled = not (nat_lt (length (stores past)) (length (stores_due begun past))) in
      let forbids = is_some (highest (floors (stores past))) in
      let few = nat_lt (length (done (stores past))) begun.cluster.policy.q in
      cond_both (settled && not (forbids || few)) (ascending (done (stores past))) [] (All P) (λ is. all_ascending P (done (stores past)) all) (λ is. All-nil P)

  -- what is known of each miss and of each stored fragment
  pub record AreKnown (past : List Step) : Type 0 where
    pub misses : All (λ (miss : Target × Miss). IsFit begun miss.0) (missed (stores past))
    pub stored : All (λ (target : Target). IsFit begun target × WasStored begun past target) (done (stores past))

  errands-fit : (past : List Step) → AreKnown past → All (Fits begun past) (due begun past)
  errands-fit past known =
      All-append (Fits begun past) (map StoreAt (stores_due begun past)) (map CommitAt (commits_due begun past))
      (All-map (Fits begun past) StoreAt (stores_due begun past) (due-fit (missed (stores past)) known.misses))
      (All-map (Fits begun past) CommitAt (commits_due begun past)
      (λ i d within. (commits-each (λ (target : Target). IsFit begun target × WasStored begun past target) past known.stored i d within, commits-enough past i d within)))

  at : (past : List Step) (number : ℕ) (errand : Errand) → AreKnown past → slice_get (due begun past) number ≡ Some errand → Fits begun past errand
  at past number errand known is =
      subst (Fits begun past) (get_or_from_slice_get (due begun past) number errand errand is)
      (All-get_or (Fits begun past) (due begun past) number errand (slice_get_within (due begun past) number errand is) (errands-fit past known))

  still : (past : List Step) (step : Step) (targets : List Target) → All (λ (target : Target). IsFit begun target × WasStored begun past target) targets → All (λ (target : Target). IsFit begun target × WasStored begun (step ∷ past) target) targets
  still past step targets all =
      All-weaker (λ (target : Target). IsFit begun target × WasStored begun past target) (λ (target : Target). IsFit begun target × WasStored begun (step ∷ past) target)
      (λ target was. (was.0, (was.1.0, Contains-cons (Closed (put_message begun was.1.0 (StoreAt target)) (Some reply.Synced)) step past was.1.1))) targets all

  told-known : (past : List Step) (ticket : ℕ) (errand : Errand) (answer : Option Reply) → AreKnown past → Fits begun past errand → AreKnown (Closed (put_message begun ticket errand) answer ∷ past)
  told-known past ticket (StoreAt target) answer known fit =
      let step : Step = Closed (put_message begun ticket (StoreAt target)) answer in
      record {
        misses = missed-each (λ (miss : Target × Miss). IsFit begun miss.0) (stores past) target (store_verdict begun.stamp answer) (λ miss is. fit) known.misses;
        stored = done-each (λ (target : Target). IsFit begun target × WasStored begun (step ∷ past) target) (stores past) target (store_verdict begun.stamp answer)
            (λ is. (fit, (ticket, (zero, omega arith, ap (λ answer. Closed (put_message begun ticket (StoreAt target)) answer) (synced begun.stamp answer is)))))
            (still past step (done (stores past)) known.stored);
      }
  told-known past ticket (CommitAt target) answer known fit =
      let step : Step = Closed (put_message begun ticket (CommitAt target)) answer in
      record {
        misses = All-same (λ (miss : Target × Miss). IsFit begun miss.0) _ _ (ap missed (append-nil (stores past))) known.misses;
        stored = All-same (λ (target : Target). IsFit begun target × WasStored begun (step ∷ past) target) _ _ (ap done (append-nil (stores past))) (still past step (done (stores past)) known.stored);
      }

  pub known : (past : List Step) → IsRun (IsNext begun) past → AreKnown past
  known [] run = record { misses = All-nil _; stored = All-nil _ }
  known (Gave sent ∷ past) run = let before = known past run.1 in record { misses = before.misses; stored = still past (Gave sent) (done (stores past)) before.stored }
  known (Closed sent answer ∷ past) run =
      let before = known past run.1 in
      let put = (open-put begun past sent.ticket sent run.1 run.0).0 in
      subst (λ (one : Sent). AreKnown (Closed one answer ∷ past)) (sym put.is) (told-known past sent.ticket put.about answer before (at past sent.ticket put.about before put.found))

  -- what is due goes where it may
  pub fits : (past : List Step) (number : ℕ) (errand : Errand) → IsRun (IsNext begun) past → slice_get (due begun past) number ≡ Some errand → Fits begun past errand
  fits past number errand run is = at past number errand (known past run) is
