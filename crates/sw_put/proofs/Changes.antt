-- A put that handed out a message, took an answer, or ended.
use Rattle.std.proofs.Common.{◌≡◌, ℕ, ◌+◌, ◌*◌, ◌≤◌, ◌<◌, ◌==◌, Bool, List, [], ◌∷◌, ◌++◌, append-nil, length, map, Option, Some, None, sym, ap, subst, ◌∙◌, arith}
use Rattle.std.specs.List.{find, slice_get}
use Rattle.std.proofs.lemmas.Option.{none-some, same_Some}
use Rattle.sw_types.specs.Policy.{PolicyModel}
use Rattle.sw_archive.specs.Put.{put_archive}
use Rattle.sw_message.specs.Tickets.{AreTickets}
use Rattle.sw_message.specs.Transcript.{Closed, Gave, Hand, Step, after_answer, open_at}
use Rattle.sw_message.specs.declared.message.Msg.{Msg}
use Rattle.sw_message.specs.declared.message.Msg.TheVariants.{PutFrag}
use Rattle.sw_message.specs.declared.reply.Reply.{Reply}
use Rattle.sw_message.specs.declared.sent.Sent.{Sent}
use Rattle.sw_message.specs.declared.target.Target.{Target}
use Rattle.sw_quorum.specs.Answers.{Judged, missed}
use Rattle.sw_quorum.specs.Tally.{Counts, counts_of}
use Rattle.sw_quorum.proofs.Transcripts.{run-told, told-ignored, told-open}
use Rattle.sw_put.specs.Inside.{put_seen}
use Rattle.sw_put.specs.Plans.{planned}
use Rattle.sw_put.specs.Put.{Begun, IsNext, commits, commits_due, due, handoffs, put_end, put_message, put_next, replacements, stores, stores_due}
use Rattle.sw_quorum.specs.Targets.{targets_from}
use Rattle.sw_quorum.specs.Verdicts.{commit_verdict, store_verdict}
use Rattle.sw_put.specs.Standing.{PutModel, Stands}
use Rattle.sw_put.specs.declared.end.PutEnd.{PutEnd}
use Rattle.sw_put.specs.declared.errand.Errand.{Errand}
use Rattle.sw_put.specs.declared.errand.Errand.TheVariants.{CommitAt, StoreAt}
use Rattle.sw_put.specs.declared.put.PutOp.TheInside.{Inside}
use Rattle.sw_put.proofs.Dues.{commits_due_by, no_commits, stores_due-few, stores_due_by}
use Rattle.sw_put.proofs.Transcripts.{commits_due-few, ended, fewer-committed, fewer-stored, grew, length-due, open-put, over-closed}

-- what holds of a put, by its fields
pub by_fields : (inside : Inside) (put : PutModel) (begun : Begun) (past : List Step) → put_seen inside ≡ put → Stands put begun past → Stands (put_seen inside) begun past
by_fields inside put begun past is stands = subst (λ (put : PutModel). Stands put begun past) (sym is) stands

-- where fragments have to go, by what is seen of it
abbrev pub stores_due_seen : PutModel → List Target
stores_due_seen put = targets_from 0 put.primaries ++ replacements put.stores.missed put.handoffs

abbrev pub due_seen : PutModel → List Errand
due_seen put = map StoreAt (stores_due_seen put) ++ map CommitAt put.commits_due

module _ (put : PutModel) (begun : Begun) (past : List Step) (stands : Stands put begun past) where
  pub stores_due_is : stores_due begun past ≡ stores_due_seen put
  stores_due_is =
      ap (λ devices. targets_from 0 devices ++ replacements (missed (stores past)) (handoffs begun)) (sym stands.primaries_are)
      ∙ ap (λ (counts : Counts Target). targets_from 0 put.primaries ++ replacements counts.missed (handoffs begun)) (sym stands.stores_are)
      ∙ ap (λ devices. targets_from 0 put.primaries ++ replacements put.stores.missed devices) (sym stands.handoffs_are)

  pub due_is : due begun past ≡ due_seen put
  due_is = ap (λ these. map StoreAt these ++ map CommitAt (commits_due begun past)) stores_due_is ∙ ap (λ these. map StoreAt (stores_due_seen put) ++ map CommitAt these) (sym stands.commits_due_are)

  pub stores_count : put.stores.answered ≡ length (stores past)
  stores_count = ap (λ (counts : Counts Target). counts.answered) stands.stores_are

  pub commits_count : put.commits.answered ≡ length (commits past)
  commits_count = ap (λ (counts : Counts Target). counts.answered) stands.commits_are

  -- the messages are no more than twice the devices
  pub due-few : length (due begun past) ≤ 2 * (length put.primaries + length put.handoffs)
  due-few =
      omega (
        arith,
        length-due begun past,
        stores_due-few begun (stores past),
        commits_due-few begun past stands.run,
        ap length stands.primaries_are,
        ap length stands.handoffs_are,
      )

  -- ---- a message

  -- an index is below the code's
  pub index_below : (target : Target) → target.index < begun.cluster.policy.k + begun.cluster.policy.m → target.index < put.policy.k + put.policy.m
  index_below target below = subst (λ (policy : PolicyModel). target.index < policy.k + policy.m) (sym stands.policy_is) below

  pub fragment_is : (target : Target) (msg : Msg) → msg ≡ PutFrag put.place put.stamp target.index (put_archive put.policy put.stamp put.name put.object target.index)
      → (ticket : ℕ) → put_message begun ticket (StoreAt target) ≡ record { ticket = ticket; device = target.device; msg = msg }
  fragment_is target msg is ticket =
      let sent : Msg → Sent = λ msg. record { ticket = ticket; device = target.device; msg = msg } in
      ap (λ place. sent (PutFrag place begun.stamp target.index (put_archive begun.cluster.policy begun.stamp begun.name begun.object target.index))) (sym stands.place_is)
      ∙ ap (λ stamp. sent (PutFrag put.place stamp target.index (put_archive begun.cluster.policy stamp begun.name begun.object target.index))) (sym stands.stamp_is)
      ∙ ap (λ policy. sent (PutFrag put.place put.stamp target.index (put_archive policy put.stamp begun.name begun.object target.index))) (sym stands.policy_is)
      ∙ ap (λ name. sent (PutFrag put.place put.stamp target.index (put_archive put.policy put.stamp name begun.object target.index))) (sym stands.name_is)
      ∙ ap (λ object. sent (PutFrag put.place put.stamp target.index (put_archive put.policy put.stamp put.name object target.index))) (sym stands.object_is)
      ∙ ap sent (sym is)

  pub stands_handed : (flags : List Bool) (sent : Sent) → AreTickets flags (Gave sent ∷ past) → put_next begun past ≡ Hand sent → Stands (record put { tickets = flags }) begun (Gave sent ∷ past)
  stands_handed flags sent are is = record {
    valid = stands.valid;
    run = (is, stands.run);
    enough_stored_is = stands.enough_stored_is;
    enough_committed_is = stands.enough_committed_is;
    place_is = stands.place_is;
    policy_is = stands.policy_is;
    stamp_is = stands.stamp_is;
    name_is = stands.name_is;
    object_is = stands.object_is;
    primaries_are = stands.primaries_are;
    handoffs_are = stands.handoffs_are;
    stores_are = stands.stores_are;
    commits_are = stands.commits_are;
    commits_due_are = stands.commits_due_are;
    tickets_are = are;
    end_is = λ end ends. let over = ended begun past end (stands.end_is end ends) in absurd (cc);
  }

  -- ---- an answer

  no_longer : (ticket : ℕ) (sent : Sent) (end : PutEnd) → open_at ticket past ≡ Some sent → put.end ≡ Some end → ⊥
  no_longer ticket sent end is ends =
      let closed = over-closed begun past stands.run (ended begun past end (stands.end_is end ends)) in
      none-some sent (sym (ap (find (λ (one : Sent). one.ticket == ticket)) closed) ∙ is)

  pub stands_ignored : (flags : List Bool) (ticket : ℕ) (answer : Option Reply) → open_at ticket past ≡ None → AreTickets flags (after_answer past ticket answer)
      → Stands (record put { tickets = flags }) begun (after_answer past ticket answer)
  stands_ignored flags ticket answer none are =
      let same = told-ignored past ticket answer none in
      subst (Stands (record put { tickets = flags }) begun) (sym same) (record {
        valid = stands.valid;
        run = stands.run;
        enough_stored_is = stands.enough_stored_is;
        enough_committed_is = stands.enough_committed_is;
        place_is = stands.place_is;
        policy_is = stands.policy_is;
        stamp_is = stands.stamp_is;
        name_is = stands.name_is;
        object_is = stands.object_is;
        primaries_are = stands.primaries_are;
        handoffs_are = stands.handoffs_are;
        stores_are = stands.stores_are;
        commits_are = stands.commits_are;
        commits_due_are = stands.commits_due_are;
        tickets_are = subst (AreTickets flags) same are;
        end_is = stands.end_is;
      })

  -- the message of an open ticket
  module _ (ticket : ℕ) (errand : Errand) (sent : Sent) (is : open_at ticket past ≡ Some sent) (found : slice_get (due begun past) ticket ≡ Some errand) where
    pub message_is : sent ≡ put_message begun sent.ticket errand
    message_is =
        let known = open-put begun past ticket sent stands.run is in
        let same : known.0.about ≡ errand = same_Some _ _ (sym known.0.found ∙ ap (slice_get (due begun past)) known.1 ∙ found) in
        known.0.is ∙ ap (put_message begun sent.ticket) same

    pub opened_is : open_at sent.ticket past ≡ Some sent
    opened_is = ap (λ n. open_at n past) (open-put begun past ticket sent stands.run is).1 ∙ is

  module _ (ticket : ℕ) (target : Target) (sent : Sent) (is : open_at ticket past ≡ Some sent) (found : slice_get (due begun past) ticket ≡ Some (StoreAt target)) where
    -- fragments' answers are missing
    stores_missing : length (stores past) < length (stores_due begun past)
    stores_missing =
        fewer-stored begun past sent.ticket target sent stands.run (grew begun past stands.run) (opened_is ticket (StoreAt target) sent is found) (message_is ticket (StoreAt target) sent is found)

    -- so there is room for this one
    pub store_room : put.stores.answered < length put.primaries + length put.handoffs
    store_room = omega (arith, stores_count, stores_missing, stores_due-few begun (stores past), ap length stands.primaries_are, ap length stands.handoffs_are)

    pub nothing_planned : put.commits_due ≡ []
    nothing_planned = stands.commits_due_are ∙ no_commits begun (stores past) stores_missing

    pub stands_stored : (flags : List Bool) (counts : Counts Target) (plans : List Target) (count : ℕ) (answer : Option Reply)
        → AreTickets flags (after_answer past ticket answer)
        → ((answers : List (Judged Target)) → put.stores ≡ counts_of answers → counts ≡ counts_of (answers ++ record { about = target; verdict = store_verdict put.stamp answer } ∷ []))
        → ((answers : List (Judged Target)) → counts ≡ counts_of answers → count ≡ length (stores_due_by begun answers))
        → plans ≡ planned counts count put.enough_stored
        → Stands (record put { tickets = flags; stores = counts; commits_due = plans }) begun (after_answer past ticket answer)
    stands_stored flags counts plans count answer are taken counted plan =
        let message = message_is ticket (StoreAt target) sent is found in
        let path = told-open past ticket answer sent is in
        let after : List (Judged Target) = stores past ++ record { about = target; verdict = store_verdict begun.stamp answer } ∷ [] in
        let stored : counts ≡ counts_of after =
        taken (stores past) stands.stores_are ∙ ap (λ stamp. counts_of (stores past ++ record { about = target; verdict = store_verdict stamp answer } ∷ [])) stands.stamp_is in
        subst (Stands (record put { tickets = flags; stores = counts; commits_due = plans }) begun) (sym path) (record {
          valid = stands.valid;
          run = run-told (IsNext begun) past ticket answer sent is stands.run;
          enough_stored_is = stands.enough_stored_is;
          enough_committed_is = stands.enough_committed_is;
          place_is = stands.place_is;
          policy_is = stands.policy_is;
          stamp_is = stands.stamp_is;
          name_is = stands.name_is;
          object_is = stands.object_is;
          primaries_are = stands.primaries_are;
          handoffs_are = stands.handoffs_are;
          stores_are = stored ∙ ap (λ (one : Sent). counts_of (stores (Closed one answer ∷ past))) (sym message);
          commits_are = stands.commits_are ∙ ap counts_of (sym (append-nil (commits past))) ∙ ap (λ (one : Sent). counts_of (commits (Closed one answer ∷ past))) (sym message);
          commits_due_are = plan
              ∙ ap (λ (counts : Counts Target). planned counts count put.enough_stored) stored
              ∙ ap (λ count. planned (counts_of after) count put.enough_stored) (counted after stored)
              ∙ ap (planned (counts_of after) (length (stores_due_by begun after))) stands.enough_stored_is
              ∙ ap (λ (one : Sent). commits_due begun (Closed one answer ∷ past)) (sym message);
          tickets_are = subst (AreTickets flags) path are;
          end_is = λ end ends. absurd (no_longer ticket sent end is ends);
        })

  module _ (ticket : ℕ) (target : Target) (sent : Sent) (is : open_at ticket past ≡ Some sent) (found : slice_get (due begun past) ticket ≡ Some (CommitAt target)) where
    -- there is room for this answer
    pub commit_room : put.commits.answered < length put.primaries + length put.handoffs
    commit_room =
        omega (
          arith,
          commits_count,
          fewer-committed begun past sent.ticket target sent stands.run (grew begun past stands.run) (opened_is ticket (CommitAt target) sent is found) (message_is ticket (CommitAt target) sent is found),
          commits_due-few begun past stands.run,
          ap length stands.primaries_are,
          ap length stands.handoffs_are,
        )

    pub stands_committed : (flags : List Bool) (counts : Counts Target) (answer : Option Reply)
        → AreTickets flags (after_answer past ticket answer)
        → ((answers : List (Judged Target)) → put.commits ≡ counts_of answers → counts ≡ counts_of (answers ++ record { about = target; verdict = commit_verdict put.stamp answer } ∷ []))
        → Stands (record put { tickets = flags; commits = counts }) begun (after_answer past ticket answer)
    stands_committed flags counts answer are taken =
        let message = message_is ticket (CommitAt target) sent is found in
        let path = told-open past ticket answer sent is in
        subst (Stands (record put { tickets = flags; commits = counts }) begun) (sym path) (record {
          valid = stands.valid;
          run = run-told (IsNext begun) past ticket answer sent is stands.run;
          enough_stored_is = stands.enough_stored_is;
          enough_committed_is = stands.enough_committed_is;
          place_is = stands.place_is;
          policy_is = stands.policy_is;
          stamp_is = stands.stamp_is;
          name_is = stands.name_is;
          object_is = stands.object_is;
          primaries_are = stands.primaries_are;
          handoffs_are = stands.handoffs_are;
          stores_are = stands.stores_are ∙ ap counts_of (sym (append-nil (stores past))) ∙ ap (λ (one : Sent). counts_of (stores (Closed one answer ∷ past))) (sym message);
          commits_are = taken (commits past) stands.commits_are
              ∙ ap (λ stamp. counts_of (commits past ++ record { about = target; verdict = commit_verdict stamp answer } ∷ [])) stands.stamp_is
              ∙ ap (λ (one : Sent). counts_of (commits (Closed one answer ∷ past))) (sym message);
          commits_due_are = stands.commits_due_are
              ∙ ap (commits_due_by begun) (sym (append-nil (stores past)))
              ∙ ap (λ (one : Sent). commits_due begun (Closed one answer ∷ past)) (sym message);
          tickets_are = subst (AreTickets flags) path are;
          end_is = λ end ends. absurd (no_longer ticket sent end is ends);
        })

  -- ---- the end

  pub stands_ended : (end : PutEnd) → put_end begun past ≡ Some end → Stands (record put { end = Some end }) begun past
  stands_ended end is = record {
    valid = stands.valid;
    run = stands.run;
    enough_stored_is = stands.enough_stored_is;
    enough_committed_is = stands.enough_committed_is;
    place_is = stands.place_is;
    policy_is = stands.policy_is;
    stamp_is = stands.stamp_is;
    name_is = stands.name_is;
    object_is = stands.object_is;
    primaries_are = stands.primaries_are;
    handoffs_are = stands.handoffs_are;
    stores_are = stands.stores_are;
    commits_are = stands.commits_are;
    commits_due_are = stands.commits_due_are;
    tickets_are = stands.tickets_are;
    end_is = λ other same. is ∙ same;
  }
