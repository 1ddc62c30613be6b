-- The archives that a sync has stand beside one another.
use Rattle.std.proofs.Common.{◌≡◌, ℕ, ◌&&◌, Bool, true, false, not, List, [], ◌∷◌, ◌++◌, Option, Some, None, sym, subst}
use Rattle.std.specs.Prelude.{if◌then◌else◌, ⊤}
use Rattle.sw_archive.specs.Archive.{ArchiveModel}
use Rattle.sw_archive.specs.Assemble.{AreTogether}
use Rattle.sw_archive.proofs.Gatherings.{AreTogether-push, none_together}
use Rattle.sw_message.specs.Transcript.{Closed, Gave, Step, is_waiting}
use Rattle.sw_message.specs.declared.reply.Reply.{Reply}
use Rattle.sw_message.specs.declared.reply.Reply.TheVariants as reply
use Rattle.sw_message.specs.declared.target.Target.{Target}
use Rattle.sw_quorum.specs.Verdicts.{commit_verdict}
use Rattle.sw_quorum.specs.declared.verdict.Verdict.{Verdict}
use Rattle.sw_sync.specs.Parts.{Heard, Repair}
use Rattle.sw_sync.specs.State.{State}
use Rattle.sw_sync.specs.Sync.{Begun, Brings, Hears, HearsRepair, IsFetched, IsState, Loses, Meaning, advanced, beginning, burial_of, closed, committed_as, fetched, free_in, is_empty, is_lacking, lost, primaries, repair_of, retried, settled, total}
use Rattle.sw_sync.specs.declared.errand.Errand.{Errand}
use Rattle.sw_sync.specs.declared.errand.Errand.TheVariants.{Ask, Commit, Delete, Fetch, Store}
use Rattle.sw_sync.specs.declared.stage.Stage.{Stage}
use Rattle.sw_sync.specs.declared.stage.Stage.TheVariants.{Buries, Ends, Handoffs, Primaries, Repairs}
use Rattle.sw_sync.proofs.Plans.{by_plan}

abbrev pub StageTogether : Stage → Type 0
StageTogether (Repairs repair) = AreTogether repair.archives
StageTogether other = ⊤

-- ---- an answer

module _ (begun : Begun) where
  fetched-together : (repair : Repair) (source : Target) (answer : Option Reply) (meaning : Meaning) → IsFetched begun.cluster begun.place repair source.index answer meaning → AreTogether repair.archives
      → AreTogether (fetched repair source meaning).archives
  fetched-together repair source (Some (reply.Fragment bytes)) (Brings archive) is together = AreTogether-push repair.archives archive together is.0.0.sound is.1
  fetched-together repair source None (Brings archive) is together = absurd (cc)
  fetched-together repair source (Some (reply.Gone listing)) (Brings archive) is together = absurd (cc)
  fetched-together repair source (Some other) (Brings archive) is together = absurd (cc)
  fetched-together repair source answer (Loses how) is together = by_free (free_in (lost repair source how))
    where
      by_free : (free : Option Target) → AreTogether (retried (lost repair source how) free).archives
      by_free None = together
      by_free (Some other) = together

  committed-together : (b : Bool) (repair : Repair) (device : ℕ) (verdict : Verdict) → AreTogether repair.archives → AreTogether (committed_as b repair device verdict).archives
  committed-together true repair device verdict together = together
  committed-together false repair device verdict together = together

  repair-together : (repair : Repair) (errand : Errand) (answer : Option Reply) (after : Repair) (more : List Errand) → HearsRepair begun.cluster begun.place repair errand answer after more → AreTogether repair.archives
      → AreTogether after.archives
  repair-together repair (Ask device) answer after more hears together = subst (λ (one : Repair). AreTogether one.archives) (sym hears.0) together
  repair-together repair (Delete device) answer after more hears together = subst (λ (one : Repair). AreTogether one.archives) (sym hears.0) together
  repair-together repair (Store target) answer after more hears together = subst (λ (one : Repair). AreTogether one.archives) (sym hears.0) together
  repair-together repair (Commit target) answer after more hears together =
      subst (λ (one : Repair). AreTogether one.archives) (sym hears.0) (committed-together (is_lacking repair target.index) repair target.device (commit_verdict repair.stamp answer) together)
  repair-together repair (Fetch source) answer after more hears together =
      subst (λ (one : Repair). AreTogether one.archives) (sym hears.2) (fetched-together repair source answer hears.0 hears.1 together)

  hears-together : (stage : Stage) (errand : Errand) (answer : Option Reply) (after : Stage) (more : List Errand) → Hears begun.cluster begun.place stage errand answer after more → StageTogether stage → StageTogether after
  hears-together (Repairs repair) errand answer after more hears together = subst StageTogether (sym hears.2) (repair-together repair errand answer hears.0 more hears.1 together)
  hears-together (Handoffs heard) (Ask device) answer after more hears together = subst StageTogether (sym hears.0) tt
  hears-together (Primaries heard) (Ask device) answer after more hears together = subst StageTogether (sym hears.0) tt
  hears-together (Buries burial) (Delete device) answer after more hears together = subst StageTogether (sym hears.0) tt
  hears-together stage errand answer after more hears together = subst StageTogether (sym hears.0) together

  -- ---- what follows

  abbrev IsTogether : State → Type 0
  IsTogether state = StageTogether state.stage

  chosen-together : (b : Bool) (one other : State) → IsTogether one → IsTogether other → IsTogether (if b then one else other)
  chosen-together true one other first second = first
  chosen-together false one other first second = second

  closed-together : (stage : Stage) → StageTogether stage → IsTogether (closed begun.cluster.policy.k stage)
  closed-together (Buries burial) together = tt
  closed-together (Repairs repair) together = tt
  closed-together other together = together

  closed-if : (b : Bool) (state : State) → IsTogether state → IsTogether (if b then closed begun.cluster.policy.k state.stage else state)
  closed-if b state together = chosen-together b (closed begun.cluster.policy.k state.stage) state (closed-together state.stage together) together

  advanced-together : (stage : Stage) → StageTogether stage → IsTogether (advanced begun stage)
  advanced-together (Handoffs heard) together = tt
  advanced-together (Primaries heard) together =
      by_plan begun heard IsTogether
      (λ stamp own. closed-if _ (burial_of (primaries begun) heard stamp) tt)
      (λ stamp own. closed-if _ (repair_of begun.cluster.policy.k (total begun) (primaries begun) heard stamp) none_together)
      (λ none. tt)
      (λ nothing. tt)
      (λ best newer. tt)
  advanced-together (Buries burial) together = tt
  advanced-together (Repairs repair) together = tt
  advanced-together (Ends end) together = tt

  settled-together : (waiting : Bool) (state : State) → IsTogether state → IsTogether (settled begun waiting state)
  settled-together waiting state together = chosen-together (is_empty state.due && not waiting) (advanced begun state.stage) state (advanced-together state.stage together) together

  pub state-together : (past : List Step) (state : State) → IsState begun past state → IsTogether state
  state-together [] state is = subst IsTogether (sym is) (settled-together false (beginning begun) tt)
  state-together (Gave sent ∷ past) state (before, was, hands) = subst IsTogether (sym hands.after_is) (state-together past before was)
  state-together (Closed sent answer ∷ past) state (before, was, after, takes, is) =
      subst IsTogether (sym is)
      (settled-together (is_waiting (Closed sent answer ∷ past)) after
      (subst IsTogether (sym takes.after_is) (hears-together before.stage takes.errand answer takes.stage takes.more takes.hears (state-together past before was))))
