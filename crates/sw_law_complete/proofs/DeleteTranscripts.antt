-- A delete each answer to which is that its tombstone is there ends as deleted with k + m marks, and goes to primaries alone.
use Rattle.std.proofs.Common.{◌≡◌, ⊎_elim, ℕ, ◌+◌, Bool, true, Contains, List, [], ◌∷◌, length, take, Option, Some, sym, ap, subst, ◌∙◌, arith}
use Rattle.std.specs.Prelude.{nat_lt}
use Rattle.std.specs.List.{sum_by}
use Rattle.std.proofs.lemmas.Bool.{cond-false, le-ltb}
use Rattle.std.proofs.lemmas.List.{length-append, length-take}
use Rattle.sw_hashdir.specs.declared.floor.Floor.{Floor}
use Rattle.sw_diskfile.proofs.Lists.{Contains-cases, Contains-none}
use Rattle.sw_ring.proofs.Roles.{column_length}
use Rattle.sw_message.specs.Floors.{highest}
use Rattle.sw_message.specs.Transcript.{Closed, Gave, IsRun, Over, Step, given}
use Rattle.sw_message.specs.declared.message.Msg.{Msg}
use Rattle.sw_message.specs.declared.message.Msg.TheVariants as message
use Rattle.sw_message.specs.declared.miss.Miss.{Miss}
use Rattle.sw_message.specs.declared.reply.Reply.{Reply}
use Rattle.sw_message.specs.declared.reply.Reply.TheVariants as reply
use Rattle.sw_message.specs.declared.sent.Sent.{Sent}
use Rattle.sw_quorum.specs.Answers.{done, floors, missed}
use Rattle.sw_quorum.proofs.DueLaws as laws
use Rattle.sw_quorum.proofs.Laws.{none-forbidden, parts, sum-ones}
use Rattle.sw_quorum.proofs.Quorums.{quorums}
use Rattle.sw_quorum.specs.Verdicts.{delete_verdict}
use Rattle.sw_delete.specs.Causes.{ToldExisted, WasMissed, WasTold}
use Rattle.sw_delete.specs.Delete.{Begun, IsBegun, IsNext, delete_end, delete_message, delete_next, deletes, due, end_at, existed_in, handoffs, place_of, primaries, settled_end, too_few_marks}
use Rattle.sw_delete.specs.declared.end.DeleteEnd.{DeleteEnd}
use Rattle.sw_delete.specs.declared.end.DeleteEnd.TheVariants.{Deleted}
use Rattle.sw_delete.proofs.Causes.{existed-told, told-all, told-existed}
use Rattle.sw_delete.proofs.Transcripts.{answers-and-opens, answers-are, given-within, handed}
use Rattle.sw_law_complete.proofs.AnsweredSteps.{none_so}

-- the answer says that the tombstone is there
abbrev pub IsMarked : Msg → Option Reply → Type 0
IsMarked (message.Delete place stamp) answer = (existed : Bool) × (answer ≡ Some (reply.Deleted existed))
IsMarked other answer = ⊥

-- so does each in a transcript
abbrev pub AreMarked : List Step → Type 0
AreMarked past = (sent : Sent) (answer : Option Reply) → Contains past (Closed sent answer) → IsMarked sent.msg answer

-- a floor does not say so
not_refused : (msg : Msg) (floor : Floor) → IsMarked msg (Some (reply.Superseded floor)) → ⊥
not_refused (message.Delete place stamp) floor (existed, same) = cc
not_refused other floor none = none

module _ (begun : Begun) where
  -- each message that was handed out is the delete's
  pub given_is : (past : List Step) → IsRun (IsNext begun) past → (sent : Sent) → Contains (given past) sent → (device : ℕ) × (sent ≡ delete_message begun sent.ticket device)
  given_is [] run sent has = absurd (Contains-none sent has)
  given_is (Gave first ∷ past) run sent has = ⊎_elim
      (λ same. subst (λ (one : Sent). (device : ℕ) × (one ≡ delete_message begun one.ticket device)) same (let is = (handed begun past first run.0).1 in (is.about, is.is)))
      (λ later. given_is past run.1 sent later)
      (Contains-cases first (given past) sent has)
  given_is (Closed first answer ∷ past) run sent has = given_is past run.1 sent has

  module _ (past : List Step) (are : AreMarked past) where
    -- none was missed
    none_missed : (one : ℕ × Miss) → WasMissed begun past one.0 one.1 → ⊥
    none_missed one (ticket, answer, has, verdict) =
        let is = are (delete_message begun ticket one.0) answer has in
        let judged = sym (ap (delete_verdict begun.stamp) is.1) ∙ verdict in
        cc

    -- no floor was told of
    none_told : (floor : Floor) → WasTold begun past floor → ⊥
    none_told floor ((sent, has), refuses) = not_refused sent.msg floor (are sent (Some (reply.Superseded floor)) has)

  module _ (valid : IsBegun begun) (past : List Step) (run : IsRun (IsNext begun) past) (are : AreMarked past) (over : delete_next begun past ≡ Over) where
    no_misses : missed (deletes past) ≡ []
    no_misses = none_so (λ (one : ℕ × Miss). WasMissed begun past one.0 one.1) (missed (deletes past)) (none_missed past are) (told-all begun past run).misses

    no_floors : floors (deletes past) ≡ []
    no_floors = none_so (WasTold begun past) (floors (deletes past)) (none_told past are) (told-all begun past run).refusals

    -- all were marked
    all_marked : length (done (deletes past)) ≡ begun.cluster.policy.k + begun.cluster.policy.m
    all_marked =
        omega (
          arith,
          (laws.over (delete_message begun) (due begun past) past over).1,
          answers-are begun past run,
          answers-and-opens begun past run,
          given-within begun past run,
          length-append (primaries begun) (take (length (missed (deletes past))) (handoffs begun)),
          length-take (length (missed (deletes past))) (handoffs begun),
          ap length no_misses,
          column_length begun.cluster (place_of begun).part valid.rules,
          parts (λ _. 1) (deletes past),
          ap (sum_by (λ _. 1)) (none-forbidden (deletes past) no_floors),
          sum-ones (done (deletes past)),
          sum-ones (missed (deletes past)),
          sum-ones (deletes past),
        )

    marked_end : settled_end begun past ≡ Deleted begun.stamp (begun.cluster.policy.k + begun.cluster.policy.m) (existed_in past)
    marked_end =
        let q = quorums begun.cluster.policy valid.rules.policy in
        cond-false (nat_lt (length (done (deletes past))) begun.cluster.policy.c) (too_few_marks (deletes past) (highest (floors (deletes past)))) (Deleted begun.stamp (length (done (deletes past))) (existed_in past))
        (le-ltb (length (done (deletes past))) begun.cluster.policy.c (omega (arith, all_marked, q.synced, q.committed)))
        ∙ ap (λ (count : ℕ). Deleted begun.stamp count (existed_in past)) all_marked

    -- so it was deleted
    pub marked_deleted : delete_end begun past ≡ Some (Deleted begun.stamp (begun.cluster.policy.k + begun.cluster.policy.m) (existed_in past))
    marked_deleted = ap (end_at begun past) over ∙ ap (λ (end : DeleteEnd). Some end) marked_end

    -- and existed exactly where some reply told so
    pub end_deleted : (existed : Bool) × (delete_end begun past ≡ Some (Deleted begun.stamp (begun.cluster.policy.k + begun.cluster.policy.m) existed)) × (existed ≡ true → ToldExisted past) × (ToldExisted past → existed ≡ true)
    end_deleted = (existed_in past, marked_deleted, existed-told past, told-existed past)
