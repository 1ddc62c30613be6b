-- What every transcript of a put tells of its causes.
use Rattle.std.proofs.Common.{◌≡◌, ◌⊎◌, inl, inr, ℕ, zero, suc, true, ◌&&◌, eqb, ltb, List, [], ◌∷◌, ◌++◌, append-nil, Contains, Option, Some, None, refl, sym, ap, subst, ◌∙◌, arith}
use Rattle.std.specs.List.{All}
use Rattle.std.proofs.lemmas.Bool.{and_from, and_parts, eq-eqb, eqb-true, lt-ltb, ltb-true, or_cases, or_left, or_right}
use Rattle.std.proofs.lemmas.List.Elements.{All-nil, All-same, All-weaker, Contains-push}
use Rattle.sw_hashdir.specs.Directory.{StandsAbove}
use Rattle.sw_hashdir.specs.declared.floor.Floor.{Floor}
use Rattle.sw_hashdir.specs.declared.floor.FloorKind.{FloorKind}
use Rattle.sw_hashdir.specs.declared.floor.FloorKind.TheVariants.{Durable, Tombstone}
use Rattle.sw_ring.proofs.Among.{Contains-cons}
use Rattle.sw_message.specs.Floors.{is_tombstone, stands_above}
use Rattle.sw_message.specs.Transcript.{Closed, Gave, IsRun, Step}
use Rattle.sw_message.specs.declared.miss.Miss.{Miss}
use Rattle.sw_message.specs.declared.reply.Reply.{Reply}
use Rattle.sw_message.specs.declared.reply.Reply.TheVariants as reply
use Rattle.sw_message.specs.declared.sent.Sent.{Sent}
use Rattle.sw_message.specs.declared.target.Target.{Target}
use Rattle.sw_quorum.specs.Answers.{done, floors, floors_from, forbidden_if, missed}
use Rattle.sw_quorum.proofs.Laws.{done-each, floor-stays, floors-each, floors-more, missed-each}
use Rattle.sw_quorum.proofs.Refusals.{IsRefusal, not-done, refusal}
use Rattle.sw_quorum.specs.declared.verdict.Verdict.TheVariants.{Done, Forbidden}
use Rattle.sw_put.specs.Causes.{WasCommitted, WasMissed, WasNotCommitted, WasStored, WasTold}
use Rattle.sw_put.specs.Put.{Begun, IsBegun, IsNext, commits, judge_commit, judge_store, put_message, stores}
use Rattle.sw_quorum.specs.Verdicts.{commit_verdict, store_verdict}
use Rattle.sw_put.specs.declared.errand.Errand.{Errand}
use Rattle.sw_put.specs.declared.errand.Errand.TheVariants.{CommitAt, StoreAt}
use Rattle.sw_put.proofs.Homes.{Fits, IsFit, fits}
use Rattle.sw_put.proofs.Transcripts.{open-put}

-- ---- a floor that stands above a stamp, by the test and as a fact

tombstone : (kind : FloorKind) → is_tombstone kind ≡ true → kind ≡ Tombstone
tombstone Durable is = absurd (cc)
tombstone Tombstone is = refl

stands : (floor : Floor) (stamp : ℕ) → stands_above floor stamp ≡ true → StandsAbove floor stamp
stands floor stamp is = elim (or_cases (ltb stamp floor.stamp) (eqb floor.stamp stamp && is_tombstone floor.kind) is) [
  | inl less ↦ inl (ltb-true stamp floor.stamp less)
  | inr rest ↦ let level = and_parts (eqb floor.stamp stamp) (is_tombstone floor.kind) rest in inr (eqb-true floor.stamp stamp level.0, tombstone floor.kind level.1)
]

is_above : (floor : Floor) (stamp : ℕ) → StandsAbove floor stamp → stands_above floor stamp ≡ true
is_above floor stamp (inl less) = or_left (ltb stamp floor.stamp) (eqb floor.stamp stamp && is_tombstone floor.kind) (lt-ltb stamp floor.stamp less)
is_above floor stamp (inr level) =
    or_right (ltb stamp floor.stamp) (eqb floor.stamp stamp && is_tombstone floor.kind)
    (and_from (eqb floor.stamp stamp) (is_tombstone floor.kind) (eq-eqb floor.stamp stamp level.0) (ap is_tombstone level.1))

-- ---- what verdicts are of

abbrev Refuses : ℕ → Option Reply → Floor → Type 0
Refuses stamp = IsRefusal (λ floor. stands_above floor stamp)

refused-store : (stamp : ℕ) (answer : Option Reply) (floor : Floor) → store_verdict stamp answer ≡ Forbidden floor → Refuses stamp answer floor
refused-store stamp None floor is = absurd (cc)
refused-store stamp (Some reply.Synced) floor is = absurd (cc)
refused-store stamp (Some (reply.Superseded told)) floor is = refusal (λ floor. stands_above floor stamp) told floor is
refused-store stamp (Some other) floor is = absurd (cc)

refused-commit : (stamp : ℕ) (answer : Option Reply) (floor : Floor) → commit_verdict stamp answer ≡ Forbidden floor → Refuses stamp answer floor
refused-commit stamp None floor is = absurd (cc)
refused-commit stamp (Some reply.Committed) floor is = absurd (cc)
refused-commit stamp (Some (reply.Superseded told)) floor is = refusal (λ floor. stands_above floor stamp) told floor is
refused-commit stamp (Some reply.Missing) floor is = absurd (cc)
refused-commit stamp (Some other) floor is = absurd (cc)

-- a commit was done only where the reply says so
committed : (stamp : ℕ) (answer : Option Reply) → commit_verdict stamp answer ≡ Done → answer ≡ Some reply.Committed
committed stamp None is = absurd (cc)
committed stamp (Some reply.Committed) is = refl
committed stamp (Some (reply.Superseded floor)) is = absurd (not-done (stands_above floor stamp) floor is)
committed stamp (Some reply.Missing) is = absurd (cc)
committed stamp (Some other) is = absurd (cc)

-- ---- what a transcript tells

module _ (begun : Begun) where
  abbrev pub IsMade : List Step → Target → Type 0
  IsMade past target = IsFit begun target × WasStored begun past target × WasCommitted begun past target

  pub record AreTold (past : List Step) : Type 0 where
    pub misses : All (λ (one : Target × Miss). WasMissed begun past one.0 one.1) (missed (stores past))
    pub made : All (IsMade past) (done (commits past))
    pub unmade : All (λ (one : Target × Miss). WasNotCommitted begun past one.0 one.1) (missed (commits past))
    pub of_stores : All (WasTold begun past) (floors (stores past))
    pub of_commits : All (WasTold begun past) (floors (commits past))

  module _ (past : List Step) (step : Step) where
    stay-misses : (misses : List (Target × Miss)) → All (λ (one : Target × Miss). WasMissed begun past one.0 one.1) misses → All (λ (one : Target × Miss). WasMissed begun (step ∷ past) one.0 one.1) misses
    stay-misses misses all =
        All-weaker (λ (one : Target × Miss). WasMissed begun past one.0 one.1) (λ (one : Target × Miss). WasMissed begun (step ∷ past) one.0 one.1)
        (λ one was. (was.0, was.1, Contains-cons (Closed (put_message begun was.0 (StoreAt one.0)) was.1) step past was.2, was.3)) misses all

    stay-unmade : (misses : List (Target × Miss)) → All (λ (one : Target × Miss). WasNotCommitted begun past one.0 one.1) misses → All (λ (one : Target × Miss). WasNotCommitted begun (step ∷ past) one.0 one.1) misses
    stay-unmade misses all =
        All-weaker (λ (one : Target × Miss). WasNotCommitted begun past one.0 one.1) (λ (one : Target × Miss). WasNotCommitted begun (step ∷ past) one.0 one.1)
        (λ one was. (was.0, was.1, Contains-cons (Closed (put_message begun was.0 (CommitAt one.0)) was.1) step past was.2, was.3)) misses all

    stay-made : (targets : List Target) → All (IsMade past) targets → All (IsMade (step ∷ past)) targets
    stay-made targets all =
        All-weaker (IsMade past) (IsMade (step ∷ past))
        (λ target was. (
          was.0,
          (was.1.0, Contains-cons (Closed (put_message begun was.1.0 (StoreAt target)) (Some reply.Synced)) step past was.1.1),
          (was.2.0, Contains-cons (Closed (put_message begun was.2.0 (CommitAt target)) (Some reply.Committed)) step past was.2.1),
        )) targets all

    stay-told : (told : List Floor) → All (WasTold begun past) told → All (WasTold begun (step ∷ past)) told
    stay-told told all =
        All-weaker (WasTold begun past) (WasTold begun (step ∷ past))
        (λ floor was. ((was.0.0, Contains-cons (Closed was.0.0 (Some (reply.Superseded floor))) step past was.0.1), was.1)) told all

  -- the floor of an answer was told of
  told-by : (past : List Step) (sent : Sent) (answer : Option Reply) (floor : Floor) → Refuses begun.stamp answer floor → WasTold begun (Closed sent answer ∷ past) floor
  told-by past sent answer floor is = ((sent, (zero, omega arith, ap (λ answer. Closed sent answer) is.0)), stands floor begun.stamp is.1)

  told-more : (past : List Step) (ticket : ℕ) (errand : Errand) (answer : Option Reply) → AreTold past → Fits begun past errand → AreTold (Closed (put_message begun ticket errand) answer ∷ past)
  told-more past ticket (StoreAt target) answer before fit =
      let step : Step = Closed (put_message begun ticket (StoreAt target)) answer in
      let verdict = store_verdict begun.stamp answer in
      record {
        misses = missed-each (λ (one : Target × Miss). WasMissed begun (step ∷ past) one.0 one.1) (stores past) target verdict
            (λ miss is. (ticket, answer, (zero, omega arith, refl), is)) (stay-misses past step (missed (stores past)) before.misses);
        made = All-same (IsMade (step ∷ past)) _ _ (ap done (append-nil (commits past))) (stay-made past step (done (commits past)) before.made);
        unmade = All-same (λ (one : Target × Miss). WasNotCommitted begun (step ∷ past) one.0 one.1) _ _ (ap missed (append-nil (commits past))) (stay-unmade past step (missed (commits past)) before.unmade);
        of_stores = floors-each (WasTold begun (step ∷ past)) (stores past) target verdict
            (λ floor is. told-by past (put_message begun ticket (StoreAt target)) answer floor (refused-store begun.stamp answer floor is)) (stay-told past step (floors (stores past)) before.of_stores);
        of_commits = All-same (WasTold begun (step ∷ past)) _ _ (ap floors (append-nil (commits past))) (stay-told past step (floors (commits past)) before.of_commits);
      }
  told-more past ticket (CommitAt target) answer before fit =
      let step : Step = Closed (put_message begun ticket (CommitAt target)) answer in
      let verdict = commit_verdict begun.stamp answer in
      record {
        misses = All-same (λ (one : Target × Miss). WasMissed begun (step ∷ past) one.0 one.1) _ _ (ap missed (append-nil (stores past))) (stay-misses past step (missed (stores past)) before.misses);
        made = done-each (IsMade (step ∷ past)) (commits past) target verdict
            (λ is. (
              fit.0.0,
              (fit.0.1.0, Contains-cons (Closed (put_message begun fit.0.1.0 (StoreAt target)) (Some reply.Synced)) step past fit.0.1.1),
              (ticket, (zero, omega arith, ap (λ answer. Closed (put_message begun ticket (CommitAt target)) answer) (committed begun.stamp answer is))),
            )) (stay-made past step (done (commits past)) before.made);
        unmade = missed-each (λ (one : Target × Miss). WasNotCommitted begun (step ∷ past) one.0 one.1) (commits past) target verdict
            (λ miss is. (ticket, answer, (zero, omega arith, refl), is)) (stay-unmade past step (missed (commits past)) before.unmade);
        of_stores = All-same (WasTold begun (step ∷ past)) _ _ (ap floors (append-nil (stores past))) (stay-told past step (floors (stores past)) before.of_stores);
        of_commits = floors-each (WasTold begun (step ∷ past)) (commits past) target verdict
            (λ floor is. told-by past (put_message begun ticket (CommitAt target)) answer floor (refused-commit begun.stamp answer floor is)) (stay-told past step (floors (commits past)) before.of_commits);
      }

  pub told-all : IsBegun begun → (past : List Step) → IsRun (IsNext begun) past → AreTold past
  told-all valid [] run = record { misses = All-nil _; made = All-nil _; unmade = All-nil _; of_stores = All-nil _; of_commits = All-nil _ }
  told-all valid (Gave sent ∷ past) run =
      let before = told-all valid past run.1 in
      record {
        misses = stay-misses past (Gave sent) (missed (stores past)) before.misses;
        made = stay-made past (Gave sent) (done (commits past)) before.made;
        unmade = stay-unmade past (Gave sent) (missed (commits past)) before.unmade;
        of_stores = stay-told past (Gave sent) (floors (stores past)) before.of_stores;
        of_commits = stay-told past (Gave sent) (floors (commits past)) before.of_commits;
      }
  told-all valid (Closed sent answer ∷ past) run =
      let put = (open-put begun past sent.ticket sent run.1 run.0).0 in
      subst (λ (one : Sent). AreTold (Closed one answer ∷ past)) (sym put.is)
      (told-more past sent.ticket put.about answer (told-all valid past run.1) (fits begun valid past sent.ticket put.about run.1 put.found))

  -- ---- each floor that was told of counts

  abbrev pub IsCounted : List Step → Floor → Type 0
  IsCounted past floor = Contains (floors (stores past)) floor ⊎ Contains (floors (commits past)) floor

  counted-here : (past : List Step) (ticket : ℕ) (errand : Errand) (floor : Floor) → stands_above floor begun.stamp ≡ true → IsCounted (Closed (put_message begun ticket errand) (Some (reply.Superseded floor)) ∷ past) floor
  counted-here past ticket (StoreAt target) floor above =
      inl (subst (λ these. Contains these floor)
      (sym (floors-more (stores past) target (forbidden_if (stands_above floor begun.stamp) floor) ∙ ap (λ b. floors (stores past) ++ floors_from (forbidden_if b floor)) above))
      (Contains-push (floors (stores past)) floor))
  counted-here past ticket (CommitAt target) floor above =
      inr (subst (λ these. Contains these floor)
      (sym (floors-more (commits past) target (forbidden_if (stands_above floor begun.stamp) floor) ∙ ap (λ b. floors (commits past) ++ floors_from (forbidden_if b floor)) above))
      (Contains-push (floors (commits past)) floor))

  still-counted : (past : List Step) (sent : Sent) (answer : Option Reply) (floor : Floor) → IsCounted past floor → IsCounted (Closed sent answer ∷ past) floor
  still-counted past sent answer floor (inl has) = inl (floor-stays (stores past) (judge_store sent.device sent.msg answer) floor has)
  still-counted past sent answer floor (inr has) = inr (floor-stays (commits past) (judge_commit sent.device sent.msg answer) floor has)

  pub counted : (past : List Step) (floor : Floor) → IsRun (IsNext begun) past → WasTold begun past floor → IsCounted past floor
  counted [] floor run ((sent, (k, within, is)), above) = absurd (omega (arith, within))
  counted (Gave other ∷ past) floor run ((sent, (zero, within, is)), above) = absurd (cc)
  counted (Gave other ∷ past) floor run ((sent, (suc k, within, is)), above) = counted past floor run.1 ((sent, (k, omega (arith, within), is)), above)
  counted (Closed other answer ∷ past) floor run ((sent, (zero, within, is)), above) =
      let put = (open-put begun past other.ticket other run.1 run.0).0 in
      let same : answer ≡ Some (reply.Superseded floor) = cc in
      subst (λ answer. IsCounted (Closed other answer ∷ past) floor) (sym same)
      (subst (λ (one : Sent). IsCounted (Closed one (Some (reply.Superseded floor)) ∷ past) floor) (sym put.is) (counted-here past other.ticket put.about floor (is_above floor begun.stamp above)))
  counted (Closed other answer ∷ past) floor run ((sent, (suc k, within, is)), above) =
      still-counted past other answer floor (counted past floor run.1 ((sent, (k, omega (arith, within), is)), above))
