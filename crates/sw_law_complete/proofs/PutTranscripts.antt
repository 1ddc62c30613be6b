-- A put whose fragments were all stored and whose commits were all made ends as created with k + m commits.
use Rattle.std.proofs.Common.{◌≡◌, ◌+◌, ◌≤◌, true, false, not, ◌&&◌, List, [], length, Contains, Option, Some, None, is_some, sym, ap, ◌∙◌, arith}
use Rattle.std.specs.Prelude.{nat_lt}
use Rattle.std.specs.List.{sum_by}
use Rattle.std.proofs.lemmas.Bool.{and_from, cond-false, cond-true, le-ltb, or_from}
use Rattle.sw_hashdir.specs.declared.floor.Floor.{Floor}
use Rattle.sw_ring.proofs.Roles.{column_length}
use Rattle.sw_message.specs.Floors.{highest}
use Rattle.sw_message.specs.Targets.{ascending}
use Rattle.sw_message.specs.Transcript.{Closed, IsRun, Over, Step}
use Rattle.sw_message.specs.declared.message.Msg.{Msg}
use Rattle.sw_message.specs.declared.message.Msg.TheVariants as message
use Rattle.sw_message.specs.declared.miss.Miss.{Miss}
use Rattle.sw_message.specs.declared.reply.Reply.{Reply}
use Rattle.sw_message.specs.declared.reply.Reply.TheVariants as reply
use Rattle.sw_message.specs.declared.sent.Sent.{Sent}
use Rattle.sw_message.specs.declared.target.Target.{Target}
use Rattle.sw_message.proofs.Ascents.{sum_ascending}
use Rattle.sw_quorum.specs.Answers.{done, floors, missed}
use Rattle.sw_quorum.proofs.Laws.{none-forbidden, parts, sum-ones}
use Rattle.sw_quorum.proofs.Quorums.{quorums}
use Rattle.sw_quorum.specs.Verdicts.{commit_verdict, store_verdict}
use Rattle.sw_put.specs.Causes.{WasMissed, WasNotCommitted, WasTold}
use Rattle.sw_put.specs.Put.{Begun, IsBegun, IsNext, are_refused, are_settled, commits, commits_due, committed_end, end_at, misses, place_of, put_end, put_next, settled_end, stores, stores_due, too_few_commits}
use Rattle.sw_put.specs.declared.end.PutEnd.{PutEnd}
use Rattle.sw_put.specs.declared.end.PutEnd.TheVariants.{Created, TooFewSynced}
use Rattle.sw_put.proofs.Causes.{told-all}
use Rattle.sw_put.proofs.Dues.{length-stores_due}
use Rattle.sw_put.proofs.Transcripts.{over-all}
use Rattle.sw_law_complete.proofs.AnsweredSteps.{none_so}

-- the answer says that the write was done
abbrev pub IsDone : Msg → Option Reply → Type 0
IsDone (message.PutFrag place stamp index bytes) answer = answer ≡ Some reply.Synced
IsDone (message.Commit place stamp index) answer = answer ≡ Some reply.Committed
IsDone other answer = ⊥

-- so does each in a transcript
abbrev pub AreDone : List Step → Type 0
AreDone past = (sent : Sent) (answer : Option Reply) → Contains past (Closed sent answer) → IsDone sent.msg answer

-- a floor does not say so
not_refused : (msg : Msg) (floor : Floor) → IsDone msg (Some (reply.Superseded floor)) → ⊥
not_refused (message.PutFrag place stamp index bytes) floor same = cc
not_refused (message.Commit place stamp index) floor same = cc
not_refused other floor none = none

module _ (begun : Begun) where
  module _ (past : List Step) (are : AreDone past) where
    -- no fragment was missed
    pub none_missed : (one : Target × Miss) → WasMissed begun past one.0 one.1 → ⊥
    none_missed one (ticket, answer, has, verdict) =
        let is : answer ≡ Some reply.Synced = are _ answer has in
        let judged = sym (ap (store_verdict begun.stamp) is) ∙ verdict in
        cc

    -- and no commit
    none_unmade : (one : Target × Miss) → WasNotCommitted begun past one.0 one.1 → ⊥
    none_unmade one (ticket, answer, has, verdict) =
        let is : answer ≡ Some reply.Committed = are _ answer has in
        let judged = sym (ap (commit_verdict begun.stamp) is) ∙ verdict in
        cc

    -- no floor was told of
    none_told : (floor : Floor) → WasTold begun past floor → ⊥
    none_told floor ((sent, has), stands) = not_refused sent.msg floor (are sent (Some (reply.Superseded floor)) has)

  module _ (valid : IsBegun begun) (past : List Step) (run : IsRun (IsNext begun) past) (are : AreDone past) (over : put_next begun past ≡ Over) where
    -- ---- fragments

    no_misses : missed (stores past) ≡ []
    no_misses = none_so (λ (one : Target × Miss). WasMissed begun past one.0 one.1) (missed (stores past)) (none_missed past are) (told-all begun valid past run).misses

    no_floors : floors (stores past) ≡ []
    no_floors = none_so (WasTold begun past) (floors (stores past)) (none_told past are) (told-all begun valid past run).of_stores

    no_floor : highest (floors (stores past)) ≡ None
    no_floor = ap highest no_floors

    -- all were stored
    all_stored : length (done (stores past)) ≡ begun.cluster.policy.k + begun.cluster.policy.m
    all_stored =
        omega (
          arith,
          (over-all begun past run over).0,
          length-stores_due begun (stores past),
          ap length no_misses,
          column_length begun.cluster (place_of begun).part valid.rules,
          parts (λ _. 1) (stores past),
          ap (sum_by (λ _. 1)) (none-forbidden (stores past) no_floors),
          sum-ones (done (stores past)),
          sum-ones (missed (stores past)),
          sum-ones (stores past),
        )

    enough : begun.cluster.policy.q ≤ length (done (stores past))
    enough = omega (arith, all_stored, (quorums begun.cluster.policy valid.rules.policy).synced)

    -- ---- commits

    settled : are_settled begun past ≡ true
    settled = ap not (le-ltb (length (stores past)) (length (stores_due begun past)) (omega (arith, (over-all begun past run over).0)))

    not_refused_by : are_refused begun past ≡ false
    not_refused_by = or_from (is_some (highest (floors (stores past)))) (nat_lt (length (done (stores past))) begun.cluster.policy.q) (ap is_some no_floor) (le-ltb (length (done (stores past))) begun.cluster.policy.q enough)

    -- one went out for each fragment
    all_due : length (commits_due begun past) ≡ length (done (stores past))
    all_due =
        ap length (cond-true (are_settled begun past && not (are_refused begun past)) (ascending (done (stores past))) [] (and_from (are_settled begun past) (not (are_refused begun past)) settled (ap not not_refused_by)))
        ∙ sym (sum-ones (ascending (done (stores past)))) ∙ sum_ascending (λ _. 1) (done (stores past)) ∙ sum-ones (done (stores past))

    no_unmade : missed (commits past) ≡ []
    no_unmade = none_so (λ (one : Target × Miss). WasNotCommitted begun past one.0 one.1) (missed (commits past)) (none_unmade past are) (told-all begun valid past run).unmade

    no_refusals : floors (commits past) ≡ []
    no_refusals = none_so (WasTold begun past) (floors (commits past)) (none_told past are) (told-all begun valid past run).of_commits

    -- and all were made
    all_made : length (done (commits past)) ≡ begun.cluster.policy.k + begun.cluster.policy.m
    all_made =
        omega (
          arith,
          (over-all begun past run over).1,
          all_due,
          all_stored,
          ap length no_unmade,
          parts (λ _. 1) (commits past),
          ap (sum_by (λ _. 1)) (none-forbidden (commits past) no_refusals),
          sum-ones (done (commits past)),
          sum-ones (missed (commits past)),
          sum-ones (commits past),
        )

    -- ---- the end

    made_end : committed_end begun (commits past) ≡ Created begun.stamp (begun.cluster.policy.k + begun.cluster.policy.m)
    made_end =
        let q = quorums begun.cluster.policy valid.rules.policy in
        cond-false (nat_lt (length (done (commits past))) begun.cluster.policy.c) (too_few_commits (commits past) (highest (floors (commits past)))) (Created begun.stamp (length (done (commits past))))
        (le-ltb (length (done (commits past))) begun.cluster.policy.c (omega (arith, all_made, q.synced, q.committed)))
        ∙ ap (Created begun.stamp) all_made

    stored_end : settled_end begun past None ≡ Created begun.stamp (begun.cluster.policy.k + begun.cluster.policy.m)
    stored_end =
        cond-false (nat_lt (length (done (stores past))) begun.cluster.policy.q) (TooFewSynced (length (done (stores past))) (misses (stores past))) (committed_end begun (commits past))
        (le-ltb (length (done (stores past))) begun.cluster.policy.q enough)
        ∙ made_end

    -- so it was created
    pub done_created : put_end begun past ≡ Some (Created begun.stamp (begun.cluster.policy.k + begun.cluster.policy.m))
    done_created = ap (end_at begun past) over ∙ ap (λ (floor : Option Floor). Some (settled_end begun past floor)) no_floor ∙ ap (λ (end : PutEnd). Some end) stored_end
