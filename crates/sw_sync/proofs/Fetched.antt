-- What sources answer to a repair.
use Rattle.std.proofs.Common.{◌≡◌, ◌⊎◌, inl, inr, ℕ, ◌≤◌, ◌==◌, Bool, true, false, Contains, List, [], ◌∷◌, ◌++◌, length, map, Option, Some, None, refl, sym, ap, subst, ◌∙◌, arith}
use Rattle.std.specs.Prelude.{if◌then◌else◌}
use Rattle.std.specs.List.{All, AllPairs, count_by}
use Rattle.std.proofs.lemmas.Bool.{eq-eqb, eqb-true}
use Rattle.std.proofs.lemmas.List.Elements.{All-cons, All-contains_itself, All-map, All-nil, All-weaker, Contains-append_left, Contains-push, Contains-push_cases}
use Rattle.std.proofs.lemmas.List.Kept.{AllPairs-filter}
use Rattle.sw_archive.specs.Archive.{ArchiveModel}
use Rattle.sw_message.specs.Transcript.{Closed, Step}
use Rattle.sw_message.specs.declared.message.Msg.TheVariants as message
use Rattle.sw_message.specs.declared.miss.Miss.{Miss}
use Rattle.sw_message.specs.declared.reply.Reply.{Reply}
use Rattle.sw_message.specs.declared.sent.Sent.{Sent}
use Rattle.sw_message.specs.declared.target.Target.{Target}
use Rattle.sw_quorum.specs.Targets.{targets_from}
use Rattle.sw_gather.proofs.Lists.{here, in_map}
use Rattle.sw_sync.specs.Causes.{AreFailures, capped}
use Rattle.sw_sync.specs.Parts.{Repair}
use Rattle.sw_sync.specs.Sync.{Begun, Brings, IsFetched, Loses, brought, due_brought, due_retried, free_in, is_free, lost, primaries, retried, shows_none}
use Rattle.sw_sync.specs.declared.errand.Errand.{Errand}
use Rattle.sw_sync.specs.declared.errand.Errand.TheVariants.{Ask, Commit, Delete, Fetch, Store}
use Rattle.sw_sync.proofs.Asking.{Surveyed, surveyed-later}
use Rattle.sw_sync.proofs.Errands.{Does, does-told}
use Rattle.sw_sync.proofs.Failures.{failures-fetched}
use Rattle.sw_sync.proofs.Firsts.{IsUntold, Once, each-once, once-told, one-once, same_errand}
use Rattle.sw_sync.proofs.Freeing.{found-free, free-untried}
use Rattle.sw_sync.proofs.Gathers.{Gathers, fetched-brings, gathers-brought, gathers-lost}
use Rattle.sw_sync.proofs.Living.{WasFetched}
use Rattle.sw_sync.proofs.Repairing.{IsStored, Repairing, ToRepair, repair-before, repair-later, stored-before}
use Rattle.sw_sync.proofs.Shows.{HaveOtherIndex, targets-apart}
use Rattle.sw_sync.proofs.Surveys.{no-question}

module _ (begun : Begun) (past : List Step) (repair : Repair) (due : List Errand) (repairing : Repairing begun past repair due) where
  abbrev Todo : List Step → Errand → Type 0
  Todo past = ToRepair begun past repairing.heard repair

  abbrev now : Sent → Option Reply → List Step
  now sent answer = Closed sent answer ∷ past

  -- an archive was fetched
  module _ (ticket : ℕ) (source : Target) (answer : Option Reply) (there : Contains repair.tried source) (untold : IsUntold past (Fetch source)) where
    unfetched : WasFetched begun past repair.stamp source → ⊥
    unfetched (told, (number, was)) = untold (record { ticket = number; device = source.device; msg = message.Fetch begun.place repair.stamp source.index }) told was refl

    abbrev fetch : Sent
    fetch = record { ticket = ticket; device = source.device; msg = message.Fetch begun.place repair.stamp source.index }

    abbrev then_on : List Step
    then_on = now fetch answer

    nothing-stored : (one : Target) → IsStored begun then_on repair.stamp one → IsStored begun past repair.stamp one
    nothing-stored = stored-before begun past repair fetch answer (λ bytes one same synced. cc)

    fetch-failures : AreFailures begun then_on repair.failed
    fetch-failures = failures-fetched begun past ticket source.device fetch.msg answer repair.failed repairing.failures (λ same. cc) (λ how is. is) (λ floor is. is)

    fetch-surveyed : Surveyed begun then_on repairing.heard
    fetch-surveyed = surveyed-later begun past (Closed fetch answer) repairing.heard (no-question begun fetch answer (λ same. cc)) repairing.surveyed

    module _ (archive : ArchiveModel) (is : IsFetched begun.cluster begun.place repair source.index answer (Brings archive)) where
      abbrev with_it : Repair
      with_it = brought repair archive

      abbrev After : Errand → Type 0
      After = ToRepair begun then_on repairing.heard with_it

      fewer : length repair.archives ≡ begun.cluster.policy.k → ⊥
      fewer enough = let brings = fetched-brings begun repair source.index answer archive is in let code = brings.2.1.code.0 in omega (arith, enough, code, brings.3.few)

      brought-keeps : (errand : Errand) → Todo past errand → After errand
      brought-keeps (Commit target) todo = repair-later begun past (Closed fetch answer) repairing.heard repair (Commit target) todo
      brought-keeps (Store target) todo = absurd (fewer todo.1)
      brought-keeps (Fetch other) todo = todo
      brought-keeps (Ask device) todo = todo
      brought-keeps (Delete device) todo = todo

      abbrev due_by : Bool → List Errand
      due_by enough = if enough then map Store repair.lacking else []

      stores-due : (b : Bool) → (length with_it.archives == begun.cluster.policy.k) ≡ b → All After (due_by b)
      stores-due false count = All-nil After
      stores-due true count =
          All-map After Store repair.lacking
          (All-weaker (Contains repair.lacking) (λ (target : Target). After (Store target)) (λ target lacks. (lacks, eqb-true (length with_it.archives) begun.cluster.policy.k count)) repair.lacking (All-contains_itself repair.lacking))

      brought-back : (errand : Errand) → After errand → Todo past errand ⊎ Contains (due_by (length with_it.archives == begun.cluster.policy.k)) errand
      brought-back (Commit target) todo = inl (repair-before begun past (Closed fetch answer) repairing.heard repair nothing-stored (Commit target) todo)
      brought-back (Store target) todo =
          inr (subst (λ b. Contains (due_by b) (Store target)) (sym (eq-eqb (length with_it.archives) begun.cluster.policy.k todo.1)) (in_map Store repair.lacking target todo.0))
      brought-back (Fetch other) todo = inl todo
      brought-back (Ask device) todo = inl todo
      brought-back (Delete device) todo = inl todo

      stores-new : (b : Bool) → All (λ errand. Todo past errand → ⊥) (due_by b)
      stores-new false = All-nil (λ errand. Todo past errand → ⊥)
      stores-new true = All-map (λ errand. Todo past errand → ⊥) Store repair.lacking (λ i d within todo. fewer todo.1)

      stores-once : (b : Bool) (errand : Errand) → count_by (same_errand errand) (due_by b) ≤ 1
      stores-once false errand = omega arith
      stores-once true errand =
          each-once Store HaveOtherIndex (λ a b other same. other (cc)) repair.lacking
          (subst (AllPairs HaveOtherIndex) (sym repairing.lacking)
          (AllPairs-filter HaveOtherIndex (shows_none repair.stamp repairing.heard.lists) (targets_from 0 (primaries begun)) (targets-apart 0 (primaries begun)))) errand

      pub repairing-brought : Repairing begun then_on with_it (due ++ due_brought begun.cluster.policy.k with_it)
      repairing-brought = record {
        heard = repairing.heard;
        surveyed = fetch-surveyed;
        own = repairing.own;
        lacking = repairing.lacking;
        choices = repairing.choices;
        listed = repairing.listed;
        does = does-told begun repair.stamp (Todo past) After past due repairing.does brought-keeps fetch answer (due_brought begun.cluster.policy.k with_it) (stores-due (length with_it.archives == begun.cluster.policy.k) refl)
            brought-back;
        once = once-told begun repair.stamp (Todo past) After past due repairing.once brought-keeps fetch answer (due_brought begun.cluster.policy.k with_it) repairing.does.sought (λ device is. is)
            (stores-new (length with_it.archives == begun.cluster.policy.k)) (stores-once (length with_it.archives == begun.cluster.policy.k)) brought-back;
        commits = repairing.commits ∙ ap {A = ℕ} capped (omega arith);
        rebuilt = repairing.rebuilt ∙ ap {A = ℕ} capped (omega arith);
        failures = fetch-failures;
        gathers = gathers-brought begun past repair due repairing.gathers ticket source answer there unfetched archive is;
      }

    module _ (how : Miss) (is : IsFetched begun.cluster begun.place repair source.index answer (Loses how)) where
      abbrev without : Repair
      without = lost repair source how

      retried-keeps : (found : Option Target) (errand : Errand) → Todo past errand → ToRepair begun then_on repairing.heard (retried without found) errand
      retried-keeps None errand todo = repair-later begun past (Closed fetch answer) repairing.heard repair errand todo
      retried-keeps (Some first) (Commit target) todo = repair-later begun past (Closed fetch answer) repairing.heard repair (Commit target) todo
      retried-keeps (Some first) (Store target) todo = todo
      retried-keeps (Some first) (Fetch other) todo = Contains-append_left repair.tried (first ∷ []) other todo
      retried-keeps (Some first) (Ask device) todo = todo
      retried-keeps (Some first) (Delete device) todo = todo

      retried-due : (found : Option Target) → All (ToRepair begun then_on repairing.heard (retried without found)) (due_retried found)
      retried-due None = All-nil (ToRepair begun then_on repairing.heard without)
      retried-due (Some first) =
          All-cons (ToRepair begun then_on repairing.heard (retried without (Some first))) (Fetch first) [] (Contains-push repair.tried first) (All-nil (ToRepair begun then_on repairing.heard (retried without (Some first))))

      retried-back : (found : Option Target) (errand : Errand) → ToRepair begun then_on repairing.heard (retried without found) errand → Todo past errand ⊎ Contains (due_retried found) errand
      retried-back None errand todo = inl (repair-before begun past (Closed fetch answer) repairing.heard repair nothing-stored errand todo)
      retried-back (Some first) (Commit target) todo = inl (repair-before begun past (Closed fetch answer) repairing.heard repair nothing-stored (Commit target) todo)
      retried-back (Some first) (Store target) todo = inl todo
      retried-back (Some first) (Fetch other) todo = elim (Contains-push_cases repair.tried first other todo) [
        | inl before ↦ inl before
        | inr same ↦ inr (subst (λ (one : Target). Contains (Fetch first ∷ []) (Fetch one)) same (here (Fetch first) []))
      ]
      retried-back (Some first) (Ask device) todo = inl todo
      retried-back (Some first) (Delete device) todo = inl todo

      retried-does : (found : Option Target) → Does begun repair.stamp (ToRepair begun then_on repairing.heard (retried without found)) then_on (due ++ due_retried found)
      retried-does found = does-told begun repair.stamp (Todo past) (ToRepair begun then_on repairing.heard (retried without found)) past due repairing.does (retried-keeps found) fetch answer (due_retried found) (retried-due found)
          (retried-back found)

      retried-new : (found : Option Target) → free_in without ≡ found → All (λ errand. Todo past errand → ⊥) (due_retried found)
      retried-new None is = All-nil (λ errand. Todo past errand → ⊥)
      retried-new (Some first) is =
          All-cons (λ errand. Todo past errand → ⊥) (Fetch first) [] (free-untried repair.tried without.lost first (found-free (is_free without) repair.choices first is).1) (All-nil (λ errand. Todo past errand → ⊥))

      fetch-once : (found : Option Target) (errand : Errand) → count_by (same_errand errand) (due_retried found) ≤ 1
      fetch-once None errand = omega arith
      fetch-once (Some first) errand = one-once errand (Fetch first)

      retried-once : (found : Option Target) → free_in without ≡ found → Once begun repair.stamp (ToRepair begun then_on repairing.heard (retried without found)) then_on (due ++ due_retried found)
      retried-once found is = once-told begun repair.stamp (Todo past) (ToRepair begun then_on repairing.heard (retried without found)) past due repairing.once (retried-keeps found) fetch answer (due_retried found) repairing.does.sought
          (no-ask found) (retried-new found is) (fetch-once found) (retried-back found)
        where
          no-ask : (found : Option Target) (device : ℕ) → ToRepair begun then_on repairing.heard (retried without found) (Ask device) → ⊥
          no-ask found device is = is

      repairing-retried : (found : Option Target) → free_in without ≡ found → Gathers begun then_on (retried without found) (due ++ due_retried found) → Repairing begun then_on (retried without found) (due ++ due_retried found)
      repairing-retried None is gathers = record {
        heard = repairing.heard;
        surveyed = fetch-surveyed;
        own = repairing.own;
        lacking = repairing.lacking;
        choices = repairing.choices;
        listed = repairing.listed;
        does = retried-does None;
        once = retried-once None is;
        commits = repairing.commits ∙ ap {A = ℕ} capped (omega arith);
        rebuilt = repairing.rebuilt ∙ ap {A = ℕ} capped (omega arith);
        failures = fetch-failures;
        gathers = gathers;
      }
      repairing-retried (Some first) is gathers = record {
        heard = repairing.heard;
        surveyed = fetch-surveyed;
        own = repairing.own;
        lacking = repairing.lacking;
        choices = repairing.choices;
        listed = repairing.listed;
        does = retried-does (Some first);
        once = retried-once (Some first) is;
        commits = repairing.commits ∙ ap {A = ℕ} capped (omega arith);
        rebuilt = repairing.rebuilt ∙ ap {A = ℕ} capped (omega arith);
        failures = fetch-failures;
        gathers = gathers;
      }

      pub repairing-lost : Repairing begun then_on (retried without (free_in without)) (due ++ due_retried (free_in without))
      repairing-lost = repairing-retried (free_in without) refl (gathers-lost begun past repair due repairing.gathers ticket source answer there unfetched how is)
