-- What is due fits its stage.
use Rattle.std.proofs.Common.{◌≡◌, ℕ, ◌+◌, ◌<◌, ◌≤◌, ◌==◌, Bool, true, false, List, [], ◌∷◌, ◌++◌, append-nil, length, map, Option, Some, None, refl, sym, ap, subst, ◌∙◌, arith}
use Rattle.std.specs.Prelude.{if◌then◌else◌, ⊤}
use Rattle.std.specs.List.{All, filter}
use Rattle.std.proofs.lemmas.Bool.{eqb-true}
use Rattle.std.proofs.lemmas.List.Elements.{All-append, All-cons, All-filter, All-head, All-map, All-nil, All-push, All-tail, All-weaker}
use Rattle.sw_hashpath.specs.Place.{PlaceModel}
use Rattle.sw_types.specs.Policy.{PolicyModel}
use Rattle.sw_types.proofs.Policies.{bounds}
use Rattle.sw_archive.specs.Archive.{ArchiveModel}
use Rattle.sw_archive.specs.Assemble.{AreEnough, IsNext}
use Rattle.sw_ring.specs.Cluster.{ClusterModel, KeepsRules}
use Rattle.sw_ring.proofs.Roles.{column_length}
use Rattle.sw_message.specs.Spoil.{HasCode}
use Rattle.sw_message.specs.Transcript.{Closed, Gave, Step}
use Rattle.sw_message.specs.declared.reply.Reply.{Reply}
use Rattle.sw_message.specs.declared.reply.Reply.TheVariants as reply
use Rattle.sw_message.specs.declared.target.Target.{Target}
use Rattle.sw_quorum.specs.Targets.{targets_from}
use Rattle.sw_quorum.specs.Verdicts.{commit_verdict, store_verdict}
use Rattle.sw_quorum.specs.declared.verdict.Verdict.{Verdict}
use Rattle.sw_quorum.specs.declared.verdict.Verdict.TheVariants as verdict
use Rattle.sw_gather.proofs.Joins.{enough_coded}
use Rattle.sw_sync.specs.Parts.{Heard, Repair}
use Rattle.sw_sync.specs.State.{State}
use Rattle.sw_sync.specs.Sync.{Begun, Brings, Fits, Hears, HearsRepair, IsFetched, IsState, Loses, Meaning, advanced, beginning, brought, burial_of, closed, committed, committed_as, due_after, due_brought, due_fetched, due_retried, fetched, free_in, handoffs, is_lacking, lost, primaries, repair_of, retried, shows_none, shows_plain, stored, total}
use Rattle.sw_sync.specs.declared.errand.Errand.{Errand}
use Rattle.sw_sync.specs.declared.errand.Errand.TheVariants.{Ask, Commit, Delete, Fetch, Store}
use Rattle.sw_sync.specs.declared.stage.Stage.{Stage}
use Rattle.sw_sync.specs.declared.stage.Stage.TheVariants.{Buries, Ends, Handoffs, Primaries, Repairs}
use Rattle.sw_sync.proofs.Plans.{by_plan}

-- ---- questions

asks-fit : (stage : Stage) (devices : List ℕ) → All (Fits stage) (map Ask devices)
asks-fit stage devices = All-map (Fits stage) Ask devices (λ i d within. tt)

-- each index is below the number of devices
targets-below : (from most : ℕ) (devices : List ℕ) → from + length devices ≤ most → All (λ (target : Target). target.index < most) (targets_from from devices)
targets-below from most [] within = All-nil (λ (target : Target). target.index < most)
targets-below from most (device ∷ devices) within =
    All-cons (λ (target : Target). target.index < most) (record { index = from; device = device }) (targets_from (from + 1) devices) (omega (arith, within)) (targets-below (from + 1) most devices (omega (arith, within)))

-- ---- a fetch

-- an archive that was brought has the policy's code
read-coded : (cluster : ClusterModel) (place : PlaceModel) (repair : Repair) (index : ℕ) (answer : Option Reply) (archive : ArchiveModel) → IsFetched cluster place repair index answer (Brings archive)
    → HasCode cluster.policy archive × IsNext repair.archives archive
read-coded cluster place repair index (Some (reply.Fragment bytes)) archive is = (is.0.1.code, is.1)
read-coded cluster place repair index None archive is = absurd (cc)
read-coded cluster place repair index (Some (reply.Gone listing)) archive is = absurd (cc)
read-coded cluster place repair index (Some other) archive is = absurd (cc)

module _ (policy : PolicyModel) where
  -- what archives have that were brought, and the indices that are lacking
  record IsCoded (repair : Repair) : Type 0 where
    coded : All (HasCode policy) repair.archives
    below : All (λ (target : Target). target.index < policy.k + policy.m) repair.lacking

  abbrev StageCoded : Stage → Type 0
  StageCoded (Repairs repair) = IsCoded repair
  StageCoded other = ⊤

  abbrev IsFitting : Stage → List Errand → Type 0
  IsFitting stage due = StageCoded stage × All (Fits stage) due

  -- k archives of the code are enough for each index that is lacking
  stores-fit : 1 ≤ policy.k → (repair : Repair) → IsCoded repair → All (Fits (Repairs repair)) (due_brought policy.k repair)
  stores-fit some repair is = by_count (length repair.archives == policy.k) refl
    where
      by_count : (b : Bool) → (length repair.archives == policy.k) ≡ b → All (Fits (Repairs repair)) (if b then map Store repair.lacking else [])
      by_count false count = All-nil (Fits (Repairs repair))
      by_count true count =
          All-map (Fits (Repairs repair)) Store repair.lacking
          (All-weaker (λ (target : Target). target.index < policy.k + policy.m) (λ (target : Target). Fits (Repairs repair) (Store target))
          (λ target below. (
            enough_coded policy repair.archives is.coded some (eqb-true (length repair.archives) policy.k count),
            All-weaker (HasCode policy) (λ (archive : ArchiveModel). target.index < archive.k + archive.m) (λ archive code. omega (arith, below, code)) repair.archives is.coded,
          )) repair.lacking is.below)

  -- none can stand beside k others
  no-next : (archives : List ArchiveModel) (archive : ArchiveModel) → All (HasCode policy) archives → HasCode policy archive → IsNext archives archive → AreEnough archives → ⊥
  no-next [] archive coded code next is = is
  no-next (first ∷ archives) archive coded code next is = let own = All-head (HasCode policy) first archives coded in omega (arith, own, code, is, next.few)

  still-fit : (repair : Repair) (archive : ArchiveModel) → All (HasCode policy) repair.archives → HasCode policy archive → IsNext repair.archives archive → (errand : Errand) → Fits (Repairs repair) errand → Fits (Repairs (brought repair archive)) errand
  still-fit repair archive coded code next (Ask device) fits = tt
  still-fit repair archive coded code next (Delete device) fits = fits
  still-fit repair archive coded code next (Fetch source) fits = tt
  still-fit repair archive coded code next (Commit target) fits = tt
  still-fit repair archive coded code next (Store target) fits = absurd (no-next repair.archives archive coded code next fits.0)

  -- a source was tried in the place of one that was lost
  retried-fit : (repair : Repair) (due : List Errand) (source : Option Target) → IsFitting (Repairs repair) due → IsFitting (Repairs (retried repair source)) (due ++ due_retried source)
  retried-fit repair due None is = (is.0, subst (All (Fits (Repairs repair))) (sym (append-nil due)) is.1)
  retried-fit repair due (Some source) is = (record { coded = is.0.coded; below = is.0.below }, All-push (Fits (Repairs (retried repair (Some source)))) due (Fetch source) is.1 tt)

  committed-fit : (b : Bool) (repair : Repair) (device : ℕ) (verdict : Verdict) (due : List Errand) → IsFitting (Repairs repair) due → IsFitting (Repairs (committed_as b repair device verdict)) due
  committed-fit true repair device verdict due is = (record { coded = is.0.coded; below = is.0.below }, is.1)
  committed-fit false repair device verdict due is = (record { coded = is.0.coded; below = is.0.below }, is.1)

  stored-fit : (repair : Repair) (target : Target) (verdict : Verdict) (due : List Errand) → IsFitting (Repairs repair) due → IsFitting (Repairs repair) (due ++ due_after target verdict)
  stored-fit repair target verdict.Done due is = (is.0, All-push (Fits (Repairs repair)) due (Commit target) is.1 tt)
  stored-fit repair target (verdict.Forbidden floor) due is = (is.0, subst (All (Fits (Repairs repair))) (sym (append-nil due)) is.1)
  stored-fit repair target (verdict.Missed how) due is = (is.0, subst (All (Fits (Repairs repair))) (sym (append-nil due)) is.1)

  fetched-fit : 1 ≤ policy.k → (repair : Repair) (source : Target) (meaning : Meaning) (due : List Errand) → ((archive : ArchiveModel) → meaning ≡ Brings archive → HasCode policy archive × IsNext repair.archives archive)
      → IsFitting (Repairs repair) due → IsFitting (Repairs (fetched repair source meaning)) (due ++ due_fetched policy.k repair source meaning)
  fetched-fit some repair source (Brings archive) due brings is =
      let next = brings archive refl in
      let coded : IsCoded (brought repair archive) = record { coded = All-push (HasCode policy) repair.archives archive is.0.coded next.0; below = is.0.below } in
      let after = Fits (Repairs (brought repair archive)) in (
        coded,
        All-append after due (due_brought policy.k (brought repair archive))
            (All-weaker (Fits (Repairs repair)) after (still-fit repair archive is.0.coded next.0 next.1) due is.1)
            (stores-fit some (brought repair archive) coded),
      )
  fetched-fit some repair source (Loses how) due brings is =
      retried-fit (lost repair source how) due (free_in (lost repair source how)) (record { coded = is.0.coded; below = is.0.below }, is.1)

-- ---- the machine

module _ (begun : Begun) (rules : KeepsRules begun.cluster) where
  abbrev policy : PolicyModel
  policy = begun.cluster.policy

  some_data : 1 ≤ policy.k
  some_data = (bounds policy rules.policy).some_data

  nothing-more : (stage : Stage) (due more : List Errand) → more ≡ [] → IsFitting policy stage due → IsFitting policy stage (due ++ more)
  nothing-more stage due more none is = (is.0, subst (All (Fits stage)) (sym (ap (λ these. due ++ these) none ∙ append-nil due)) is.1)

  -- what an answer in a repair leads to
  repair-fit : (repair : Repair) (errand : Errand) (answer : Option Reply) (after : Repair) (due more : List Errand) → HearsRepair begun.cluster begun.place repair errand answer after more
      → IsFitting policy (Repairs repair) due → IsFitting policy (Repairs after) (due ++ more)
  repair-fit repair (Ask device) answer after due more hears is = subst (λ (one : Repair). IsFitting policy (Repairs one) (due ++ more)) (sym hears.0) (nothing-more (Repairs repair) due more hears.1 is)
  repair-fit repair (Delete device) answer after due more hears is = subst (λ (one : Repair). IsFitting policy (Repairs one) (due ++ more)) (sym hears.0) (nothing-more (Repairs repair) due more hears.1 is)
  repair-fit repair (Commit target) answer after due more hears is =
      let verdict = commit_verdict repair.stamp answer in
      subst (λ (one : Repair). IsFitting policy (Repairs one) (due ++ more)) (sym hears.0)
      (nothing-more (Repairs (committed repair target verdict)) due more hears.1 (committed-fit policy (is_lacking repair target.index) repair target.device verdict due is))
  repair-fit repair (Store target) answer after due more hears is =
      let verdict = store_verdict repair.stamp answer in
      subst (λ (one : Repair). IsFitting policy (Repairs one) (due ++ more)) (sym hears.0)
      (subst (λ these. IsFitting policy (Repairs (stored repair target verdict)) (due ++ these)) (sym hears.1)
      (stored-fit policy (stored repair target verdict) target verdict due (record { coded = is.0.coded; below = is.0.below }, is.1)))
  repair-fit repair (Fetch source) answer after due more hears is =
      subst (λ (one : Repair). IsFitting policy (Repairs one) (due ++ more)) (sym hears.2)
      (subst (λ these. IsFitting policy (Repairs (fetched repair source hears.0)) (due ++ these)) (sym hears.3)
      (fetched-fit policy some_data repair source hears.0 due
      (λ archive brings. read-coded begun.cluster begun.place repair source.index answer archive (subst (IsFetched begun.cluster begun.place repair source.index answer) brings hears.1)) is))

  hears-fit : (stage : Stage) (errand : Errand) (answer : Option Reply) (after : Stage) (due more : List Errand) → Hears begun.cluster begun.place stage errand answer after more
      → IsFitting policy stage due → IsFitting policy after (due ++ more)
  hears-fit (Repairs repair) errand answer after due more hears is =
      subst (λ (one : Stage). IsFitting policy one (due ++ more)) (sym hears.2) (repair-fit repair errand answer hears.0 due more hears.1 is)
  hears-fit stage (Ask device) answer after due more hears is = subst (λ (one : Stage). IsFitting policy one (due ++ more)) (sym hears.0) (nothing-more stage due more hears.1 is)
  hears-fit stage (Delete device) answer after due more hears is = subst (λ (one : Stage). IsFitting policy one (due ++ more)) (sym hears.0) (nothing-more stage due more hears.1 is)
  hears-fit stage (Fetch source) answer after due more hears is = subst (λ (one : Stage). IsFitting policy one (due ++ more)) (sym hears.0) (nothing-more stage due more hears.1 is)
  hears-fit stage (Store target) answer after due more hears is = subst (λ (one : Stage). IsFitting policy one (due ++ more)) (sym hears.0) (nothing-more stage due more hears.1 is)
  hears-fit stage (Commit target) answer after due more hears is = subst (λ (one : Stage). IsFitting policy one (due ++ more)) (sym hears.0) (nothing-more stage due more hears.1 is)

  -- what follows once nothing is due and nothing is open
  abbrev IsFit : State → Type 0
  IsFit state = IsFitting policy state.stage state.due

  closed-fit : (state : State) (b : Bool) → IsFit (closed policy.k state.stage) → IsFit state → IsFit (if b then closed policy.k state.stage else state)
  closed-fit state true closed going = closed
  closed-fit state false closed going = going

  deletes-planned : (heard : Heard) (stamp : ℕ) → IsFit (burial_of (primaries begun) heard stamp)
  deletes-planned heard stamp = (tt, All-map (Fits (burial_of (primaries begun) heard stamp).stage) Delete _ (λ i d within. tt))

  repair-planned : (heard : Heard) (stamp : ℕ) → IsFit (repair_of policy.k (total begun) (primaries begun) heard stamp)
  repair-planned heard stamp =
      let planned = repair_of policy.k (total begun) (primaries begun) heard stamp in
      let targets = targets_from 0 (primaries begun) in
      let few : 0 + length (primaries begun) ≤ total begun = omega (arith, column_length begun.cluster begun.place.part rules) in (
        record {
          coded = All-nil (HasCode policy);
          below = All-filter (shows_none stamp heard.lists) (λ (target : Target). target.index < total begun) targets (targets-below 0 (total begun) (primaries begun) few);
        },
        All-append (Fits planned.stage) (map Commit (filter (shows_plain stamp heard.lists) targets)) _
            (All-map (Fits planned.stage) Commit (filter (shows_plain stamp heard.lists) targets) (λ i d within. tt))
            (All-map (Fits planned.stage) Fetch _ (λ i d within. tt)),
      )

  advanced-fit : (stage : Stage) → IsFit (advanced begun stage)
  advanced-fit (Handoffs heard) = (tt, asks-fit (Primaries heard) (primaries begun))
  advanced-fit (Primaries heard) =
      by_plan begun heard IsFit
      (λ stamp own. closed-fit (burial_of (primaries begun) heard stamp) _ (tt, All-nil _) (deletes-planned heard stamp))
      (λ stamp own. closed-fit (repair_of policy.k (total begun) (primaries begun) heard stamp) _ (tt, All-nil _) (repair-planned heard stamp))
      (λ none. (tt, All-nil _))
      (λ nothing. (tt, All-nil _))
      (λ best newer. (tt, All-nil _))
  advanced-fit (Buries burial) = (tt, All-nil _)
  advanced-fit (Repairs repair) = (tt, All-nil _)
  advanced-fit (Ends end) = (tt, All-nil _)

  settled-fit : (state : State) (b : Bool) → IsFit state → IsFit (if b then advanced begun state.stage else state)
  settled-fit state true is = advanced-fit state.stage
  settled-fit state false is = is

  is-fit : (past : List Step) (state : State) → IsState begun past state → IsFit state
  is-fit [] state is = subst IsFit (sym is) (settled-fit (beginning begun) _ (tt, asks-fit (beginning begun).stage (handoffs begun)))
  is-fit (Gave sent ∷ past) state is =
      let before = is-fit past is.0 is.1 in
      subst IsFit (sym is.2.after_is) (before.0, All-tail (Fits is.0.stage) is.2.errand is.2.later (subst (All (Fits is.0.stage)) is.2.first before.1))
  is-fit (Closed sent answer ∷ past) state is =
      let before = is-fit past is.0 is.1 in
      subst IsFit (sym is.4)
      (settled-fit is.2 _ (subst IsFit (sym is.3.after_is) (hears-fit is.0.stage is.3.errand answer is.3.stage is.0.due is.3.more is.3.hears before)))

pub fits : (begun : Begun) → KeepsRules begun.cluster → (past : List Step) (state : State) → IsState begun past state → All (Fits state.stage) state.due
fits begun rules past state is = (is-fit begun rules past state is).1
