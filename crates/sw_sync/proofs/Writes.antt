-- What primaries answer to a repair.
use Rattle.std.proofs.Common.{◌≡◌, ◌≢◌, ◌⊎◌, inl, inr, ℕ, ◌≤◌, Bool, true, false, not, Contains, List, [], ◌∷◌, ◌++◌, Option, Some, refl, sym, ap, subst, ◌∙◌, arith}
use Rattle.std.specs.List.{All, AllPairs, count_by}
use Rattle.std.proofs.lemmas.List.Elements.{All-cons, All-nil}
use Rattle.sw_hashdir.specs.Listing.{ListingModel}
use Rattle.sw_message.specs.Transcript.{Closed, IsRun, Step}
use Rattle.sw_message.specs.declared.message.Msg.{Msg}
use Rattle.sw_message.specs.declared.message.Msg.TheVariants as message
use Rattle.sw_message.specs.declared.reply.Reply.{Reply}
use Rattle.sw_message.specs.declared.reply.Reply.TheVariants as reply
use Rattle.sw_message.specs.declared.sent.Sent.{Sent}
use Rattle.sw_message.specs.declared.target.Target.{Target}
use Rattle.sw_quorum.specs.Targets.{targets_from}
use Rattle.sw_quorum.specs.Verdicts.{commit_verdict, store_verdict}
use Rattle.sw_quorum.specs.declared.verdict.Verdict.{Verdict}
use Rattle.sw_quorum.specs.declared.verdict.Verdict.TheVariants as verdict
use Rattle.sw_gather.proofs.Lists.{here}
use Rattle.sw_sync.specs.Answers.{WasListed, WasTold}
use Rattle.sw_sync.specs.Causes.{AreFailures, capped, count_told, failed_device, is_committed}
use Rattle.sw_sync.specs.Parts.{Repair}
use Rattle.sw_sync.specs.Sync.{Begun, IsNext, committed_as, counted, due_after, failed_by, errand_of, is_lacking, listing_of, primaries, shows_plain, stored}
use Rattle.sw_sync.specs.declared.errand.Errand.{Errand}
use Rattle.sw_sync.specs.declared.errand.Errand.TheVariants.{Ask, Commit, Delete, Fetch, Store}
use Rattle.sw_sync.proofs.Asking.{IsQuestion, surveyed-later}
use Rattle.sw_sync.proofs.Errands.{Does, IsAbout, IsFor, does-told}
use Rattle.sw_sync.proofs.Failures.{HasRefused, asks-refused, committed-is, committed-not, counted-more, counted-same, failures-told, fetch-refused, judged-commit, judged-store, none-failed, stored-done, synced-refused}
use Rattle.sw_sync.proofs.Firsts.{IsUntold, Once, about-for, once-told, one-once, same_errand, told-about, told-same}
use Rattle.sw_sync.proofs.Gathers.{gathers-other, to_fetch}
use Rattle.sw_sync.proofs.Messages.{told-cases}
use Rattle.sw_sync.proofs.Repairing.{IsStored, Repairing, ToRepair, commit-target, device-primary, lacking-target, repair-before, repair-later, stored-before}
use Rattle.sw_sync.proofs.Shows.{is-primary, listed-answered, lists-none, lists-plain, one-target, plain-not_none}
use Rattle.sw_sync.proofs.Surveys.{no-question}

-- an archive that was stored was not refused
refused-store : (device : ℕ) (msg : Msg) (answer : Option Reply) {target : Target} → errand_of device msg ≡ Some (Store target) → answer ≡ Some reply.Synced → HasRefused msg answer → ⊥
refused-store device (message.PutFrag place stamp index bytes) answer about same refused =
    synced-refused place stamp index bytes (subst (HasRefused (message.PutFrag place stamp index bytes)) same refused)
refused-store device other answer about same refused = cc

module _ (begun : Begun) (past : List Step) (repair : Repair) (due : List Errand) (repairing : Repairing begun past repair due) where
  abbrev Todo : List Step → Errand → Type 0
  Todo past = ToRepair begun past repairing.heard repair

  abbrev now : Sent → Option Reply → List Step
  now sent answer = Closed sent answer ∷ past

  -- what is lacking is not plain
  plain-lacking : (target : Target) → shows_plain repair.stamp repairing.heard.lists target ≡ true → Contains repair.lacking target → ⊥
  plain-lacking target plain there =
      plain-not_none repair.stamp target (listing_of repairing.heard.lists target.device) plain (lacking-target begun past repair due repairing target there).1

  -- a primary that is told something has listed
  lacking-listed : (target : Target) → Contains repair.lacking target → (listing : ListingModel) × WasListed begun past target.device listing
  lacking-listed target there =
      let at = lacking-target begun past repair due repairing target there in
      let lists = lists-none begun past repairing.heard repairing.surveyed repair.stamp target at.0 at.1 in
      (lists.listing, lists.listed)

  commit-listed : (target : Target) → Todo past (Commit target) → (listing : ListingModel) × WasListed begun past target.device listing
  commit-listed target (inl plain) = let lists = lists-plain begun past repairing.heard repairing.surveyed repair.stamp target plain.0 plain.1 in (lists.listing, lists.listed)
  commit-listed target (inr stored) = lacking-listed target stored.0

  -- a primary that answers has refused nothing before
  module _ (apart : AllPairs (λ a b. a ≢ b) (primaries begun)) (run : IsRun (IsNext begun) past) (target : Target) (primary : Contains (targets_from 0 (primaries begun)) target) where
    same-target : (one : Target) → Contains (targets_from 0 (primaries begun)) one → target.device ≡ one.device → one ≡ target
    same-target one there same = one-target (primaries begun) apart one target (is-primary begun one there) (is-primary begun target primary) (sym same)

    never-refused : ((sent : Sent) (answer : Option Reply) → Contains past (Closed sent answer) → HasRefused sent.msg answer → Todo past (Commit target) → errand_of sent.device sent.msg ≡ Some (Commit target) → ⊥)
        → ((sent : Sent) (answer : Option Reply) → Contains past (Closed sent answer) → HasRefused sent.msg answer → Todo past (Store target) → errand_of sent.device sent.msg ≡ Some (Store target) → ⊥)
        → (msg : Msg) (answer : Option Reply) → WasTold past target.device msg answer → HasRefused msg answer → ⊥
    never-refused commits stores msg answer (ticket, there) refused = by_about (told-about begun repair.stamp (Todo past) past due repairing.once run sent answer there)
      where
        sent : Sent
        sent = record { ticket = ticket; device = target.device; msg = msg }

        by_errand : (errand : Errand) → Todo past errand → errand_of target.device msg ≡ Some errand → IsFor begun repair.stamp errand sent → ⊥
        by_errand (Commit one) todo about for =
            let same = same-target one (commit-target begun past repair due repairing one todo) (ap (λ (sent : Sent). sent.device) for.2) in
            commits sent answer there refused (subst (λ (one : Target). Todo past (Commit one)) same todo) (about ∙ ap (λ (one : Target). Some (Commit one)) same)
        by_errand (Store one) todo about for =
            let same = same-target one (lacking-target begun past repair due repairing one todo.0).0 (ap (λ (sent : Sent). sent.device) for.2) in
            stores sent answer there refused (subst (λ (one : Target). Todo past (Store one)) same todo) (about ∙ ap (λ (one : Target). Some (Store one)) same)
        by_errand (Fetch source) todo about for =
            fetch-refused begun.place repair.stamp source.index answer (subst (λ (one : Msg). HasRefused one answer) (ap (λ (sent : Sent). sent.msg) for.2) refused)
        by_errand (Ask device) todo about for = todo
        by_errand (Delete device) todo about for = todo

        by_about : IsQuestion begun sent ⊎ IsAbout begun repair.stamp (Todo past) sent → ⊥
        by_about (inl question) = asks-refused begun.place answer (subst (λ (one : Msg). HasRefused one answer) question refused)
        by_about (inr (errand, todo, for)) = by_errand errand todo (about-for begun repair.stamp errand sent for) for

  module _ (apart : AllPairs (λ a b. a ≢ b) (primaries begun)) (run : IsRun (IsNext begun) past) (ticket : ℕ) (target : Target) (answer : Option Reply) where
    -- an entry was to be made durable
    module _ (todo : Todo past (Commit target)) (untold : IsUntold past (Commit target)) where
      abbrev asked : Sent
      asked = record { ticket = ticket; device = target.device; msg = message.Commit begun.place repair.stamp target.index }

      abbrev verdict_is : Verdict
      verdict_is = commit_verdict repair.stamp answer

      none-stored : (one : Target) → IsStored begun (now asked answer) repair.stamp one → IsStored begun past repair.stamp one
      none-stored = stored-before begun past repair asked answer (λ bytes one same synced. cc)

      commit-does : Does begun repair.stamp (Todo (now asked answer)) (now asked answer) (due ++ [])
      commit-does = does-told begun repair.stamp (Todo past) (Todo (now asked answer)) past due repairing.does (repair-later begun past (Closed asked answer) repairing.heard repair) asked answer []
          (All-nil (Todo (now asked answer))) (λ one is. inl (repair-before begun past (Closed asked answer) repairing.heard repair none-stored one is))

      commit-once : Once begun repair.stamp (Todo (now asked answer)) (now asked answer) (due ++ [])
      commit-once = once-told begun repair.stamp (Todo past) (Todo (now asked answer)) past due repairing.once (repair-later begun past (Closed asked answer) repairing.heard repair) asked answer [] repairing.does.sought (λ device is. is)
          (All-nil (λ errand. Todo past errand → ⊥)) (λ errand. omega arith) (λ one is. inl (repair-before begun past (Closed asked answer) repairing.heard repair none-stored one is))

      -- where the archive was sent, it was stored
      stored-unrefused : Todo past (Commit target) → (sent : Sent) (told : Option Reply) → Contains past (Closed sent told) → HasRefused sent.msg told → Todo past (Store target) → errand_of sent.device sent.msg ≡ Some (Store target) → ⊥
      stored-unrefused (inl plain) sent told there refused to_store about = plain-lacking target plain.1 to_store.0
      stored-unrefused (inr (lacking, (bytes, (number, was)))) sent told there refused to_store about =
          let put : Sent = record { ticket = number; device = target.device; msg = message.PutFrag begun.place repair.stamp target.index bytes } in
          let same : told ≡ Some reply.Synced = told-same begun repair.stamp (Todo past) past due repairing.once run (Store target) to_store sent put told (Some reply.Synced) about refl there was in
          refused-store sent.device sent.msg told about same refused

      commit-new : All (λ one. failed_device one ≢ target.device) repair.failed
      commit-new =
          let listed = commit-listed target todo in
          none-failed begun past target.device (listed-answered begun past repairing.heard repairing.surveyed target.device listed.0 listed.1)
          (never-refused apart run target (commit-target begun past repair due repairing target todo) (λ sent told there refused _ about. untold sent told there about) (stored-unrefused todo)) repair.failed repairing.failures.each

      commit-failures : AreFailures begun (now asked answer) (repair.failed ++ failed_by target.device verdict_is)
      commit-failures = failures-told begun past ticket target.device asked.msg answer repair.failed repairing.failures (λ same. cc) verdict_is (judged-commit begun.place repair.stamp target.index answer)
          (device-primary begun target (commit-target begun past repair due repairing target todo)) commit-new

      pub repairing-committed : (b : Bool) → is_lacking repair target.index ≡ b → Repairing begun (now asked answer) (committed_as b repair target.device verdict_is) (due ++ [])
      repairing-committed true is = record {
        heard = repairing.heard;
        surveyed = surveyed-later begun past (Closed asked answer) repairing.heard (no-question begun asked answer (λ same. cc)) repairing.surveyed;
        own = repairing.own;
        lacking = repairing.lacking;
        choices = repairing.choices;
        listed = repairing.listed;
        does = commit-does;
        once = commit-once;
        commits = counted-same repair.commits (count_told (is_committed (λ index. not (is_lacking repair index))) past) (is_committed (λ index. not (is_lacking repair index)) asked.msg answer) repairing.commits
            (committed-not (λ index. not (is_lacking repair index)) begun.place repair.stamp target.index answer (ap not is));
        rebuilt = counted-more repair.rebuilt (count_told (is_committed (is_lacking repair)) past) verdict_is (is_committed (is_lacking repair) asked.msg answer) repairing.rebuilt
            (committed-is (is_lacking repair) begun.place repair.stamp target.index answer is);
        failures = commit-failures;
        gathers = gathers-other begun past repair due repairing.gathers ticket target.device asked.msg answer (λ same. cc) [] repair.commits (counted repair.rebuilt verdict_is) (repair.failed ++ failed_by target.device verdict_is) refl refl;
      }
      repairing-committed false is = record {
        heard = repairing.heard;
        surveyed = surveyed-later begun past (Closed asked answer) repairing.heard (no-question begun asked answer (λ same. cc)) repairing.surveyed;
        own = repairing.own;
        lacking = repairing.lacking;
        choices = repairing.choices;
        listed = repairing.listed;
        does = commit-does;
        once = commit-once;
        commits = counted-more repair.commits (count_told (is_committed (λ index. not (is_lacking repair index))) past) verdict_is (is_committed (λ index. not (is_lacking repair index)) asked.msg answer) repairing.commits
            (committed-is (λ index. not (is_lacking repair index)) begun.place repair.stamp target.index answer (ap not is));
        rebuilt = counted-same repair.rebuilt (count_told (is_committed (is_lacking repair)) past) (is_committed (is_lacking repair) asked.msg answer) repairing.rebuilt
            (committed-not (is_lacking repair) begun.place repair.stamp target.index answer is);
        failures = commit-failures;
        gathers = gathers-other begun past repair due repairing.gathers ticket target.device asked.msg answer (λ same. cc) [] (counted repair.commits verdict_is) repair.rebuilt (repair.failed ++ failed_by target.device verdict_is) refl refl;
      }

    -- a rebuilt archive was sent
    module _ (bytes : List ℕ) (todo : Todo past (Store target)) (untold : IsUntold past (Store target)) where
      abbrev there : Contains repair.lacking target
      there = todo.0

      abbrev put : Sent
      put = record { ticket = ticket; device = target.device; msg = message.PutFrag begun.place repair.stamp target.index bytes }

      abbrev means : Verdict
      means = store_verdict repair.stamp answer

      -- it was stored just where that is done
      more-due : (one : Verdict) → means ≡ one → All (Todo (now put answer)) (due_after target one)
      more-due verdict.Done is =
          All-cons (Todo (now put answer)) (Commit target) [] (inr (there, (bytes, (ticket, subst (λ (told : Option Reply). Contains (now put answer) (Closed put told)) (stored-done repair.stamp answer is) (here (Closed put answer) past)))))
          (All-nil (Todo (now put answer)))
      more-due (verdict.Forbidden floor) is = All-nil (Todo (now put answer))
      more-due (verdict.Missed how) is = All-nil (Todo (now put answer))

      new-due : (one : Target) → IsStored begun (now put answer) repair.stamp one → IsStored begun past repair.stamp one ⊎ Contains (due_after target means) (Commit one)
      new-due one (other, was) = elim (told-cases past put answer one.device (message.PutFrag begun.place repair.stamp one.index other) (Some reply.Synced) was) [
        | inr before ↦ inl (other, before)
        | inl this ↦
            let indices : target.index ≡ one.index = cc (this.1) in
            let same : target ≡ one = ap (λ n. record { index = n; device = target.device }) indices ∙ ap (λ n. record { index = one.index; device = n }) this.0 in
            let done : means ≡ verdict.Done = ap (store_verdict repair.stamp) this.2 in
            inr (subst (λ (means : Verdict). Contains (due_after target means) (Commit one)) (sym done) (subst (λ (other : Target). Contains (Commit target ∷ []) (Commit other)) same (here (Commit target) [])))
      ]

      by-due : (errand : Errand) → Todo (now put answer) errand → Todo past errand ⊎ Contains (due_after target means) errand
      by-due (Commit one) (inl plain) = inl (inl plain)
      by-due (Commit one) (inr (lacking, was)) = elim (new-due one was) [ inl before ↦ inl (inr (lacking, before)) | inr due ↦ inr due ]
      by-due (Store one) is = inl is
      by-due (Fetch source) is = inl is
      by-due (Ask device) is = inl is
      by-due (Delete device) is = inl is

      -- it was not stored before
      unstored : Todo past (Commit target) → ⊥
      unstored (inl plain) = plain-lacking target plain.1 there
      unstored (inr (lacking, (bytes, (number, was)))) =
          untold (record { ticket = number; device = target.device; msg = message.PutFrag begun.place repair.stamp target.index bytes }) (Some reply.Synced) was refl

      due-new : (means : Verdict) → All (λ errand. Todo past errand → ⊥) (due_after target means)
      due-new verdict.Done = All-cons (λ errand. Todo past errand → ⊥) (Commit target) [] unstored (All-nil (λ errand. Todo past errand → ⊥))
      due-new (verdict.Forbidden floor) = All-nil (λ errand. Todo past errand → ⊥)
      due-new (verdict.Missed how) = All-nil (λ errand. Todo past errand → ⊥)

      due-once : (means : Verdict) (errand : Errand) → count_by (same_errand errand) (due_after target means) ≤ 1
      due-once verdict.Done errand = one-once errand (Commit target)
      due-once (verdict.Forbidden floor) errand = omega arith
      due-once (verdict.Missed how) errand = omega arith

      store-new : All (λ one. failed_device one ≢ target.device) repair.failed
      store-new =
          let listed = lacking-listed target there in
          none-failed begun past target.device (listed-answered begun past repairing.heard repairing.surveyed target.device listed.0 listed.1)
          (never-refused apart run target (lacking-target begun past repair due repairing target there).0 (λ sent told was refused commits about. unstored commits)
          (λ sent told was refused _ about. untold sent told was about)) repair.failed repairing.failures.each

      no-fetches : (means : Verdict) → count_by to_fetch (due_after target means) ≡ 0
      no-fetches verdict.Done = refl
      no-fetches (verdict.Forbidden floor) = refl
      no-fetches (verdict.Missed how) = refl

      pub repairing-stored : Repairing begun (now put answer) (stored repair target means) (due ++ due_after target means)
      repairing-stored = record {
        heard = repairing.heard;
        surveyed = surveyed-later begun past (Closed put answer) repairing.heard (no-question begun put answer (λ same. cc)) repairing.surveyed;
        own = repairing.own;
        lacking = repairing.lacking;
        choices = repairing.choices;
        listed = repairing.listed;
        does = does-told begun repair.stamp (Todo past) (Todo (now put answer)) past due repairing.does (repair-later begun past (Closed put answer) repairing.heard repair) put answer (due_after target means)
            (more-due means refl) by-due;
        once = once-told begun repair.stamp (Todo past) (Todo (now put answer)) past due repairing.once (repair-later begun past (Closed put answer) repairing.heard repair) put answer (due_after target means) repairing.does.sought
            (λ device is. is) (due-new means) (due-once means) by-due;
        commits = repairing.commits ∙ ap {A = ℕ} capped (omega arith);
        rebuilt = repairing.rebuilt ∙ ap {A = ℕ} capped (omega arith);
        failures = failures-told begun past ticket target.device put.msg answer repair.failed repairing.failures (λ same. cc) means (judged-store begun.place repair.stamp target.index bytes answer)
            (device-primary begun target (lacking-target begun past repair due repairing target there).0) store-new;
        gathers = gathers-other begun past repair due repairing.gathers ticket target.device put.msg answer (λ same. cc) (due_after target means) repair.commits repair.rebuilt (repair.failed ++ failed_by target.device means) refl
            (no-fetches means);
      }
