-- What a repair has done, once nothing is due and nothing is open.
use Rattle.std.proofs.Common.{◌≡◌, ◌⊎◌, inl, inr, ℕ, ◌+◌, ◌<◌, ◌≤◌, ◌==◌, Bool, true, false, cond, Contains, List, [], ◌∷◌, length, Option, refl, sym, ap, subst, ◌∙◌, arith}
use Rattle.std.specs.Prelude.{if◌then◌else◌, nat_lt}
use Rattle.std.specs.List.{sum_by}
use Rattle.std.proofs.lemmas.Bool.{cases_order, eq-eqb, eqb-true, ltb-false, ltb-true, or_cases, or_parts, true≢false}
use Rattle.std.proofs.lemmas.List.{length-map}
use Rattle.sw_archive.specs.Archive.{ArchiveModel}
use Rattle.sw_message.specs.Floors.{durable_at}
use Rattle.sw_message.specs.Transcript.{Closed, IsRun, Step, opens}
use Rattle.sw_message.specs.Warrant.{IsPrimaryOf}
use Rattle.sw_message.specs.declared.message.Msg.TheVariants as message
use Rattle.sw_message.specs.declared.reply.Reply.{Reply}
use Rattle.sw_message.specs.declared.sent.Sent.{Sent}
use Rattle.sw_message.specs.declared.target.Target.{Target}
use Rattle.sw_quorum.specs.Targets.{targets_from}
use Rattle.sw_quorum.proofs.Places.{counted-among}
use Rattle.sw_quorum.proofs.Transcripts.{sums-keep}
use Rattle.sw_quorum.specs.Transcripts.{closed}
use Rattle.sw_gather.specs.Choices.{firsts, has_index}
use Rattle.sw_gather.proofs.Lists.{any_passes, here, in_filter, none_in, some_passes}
use Rattle.sw_gather.proofs.Sources.{indices_of}
use Rattle.sw_sync.specs.Answers.{IsOwnFloor, ListsNone, WasTold}
use Rattle.sw_sync.specs.Causes.{FewBrought, FewListed, IsTooFew, IsUsed, LackingAreTold, PlainAreTold, WasRepaired}
use Rattle.sw_sync.specs.Parts.{Repair}
use Rattle.sw_sync.specs.Sync.{Begun, IsNext, have, is_empty, is_lacking, is_live, is_repaired, primaries, shows_none}
use Rattle.sw_sync.specs.declared.errand.Errand.{Errand}
use Rattle.sw_sync.specs.declared.errand.Errand.TheVariants.{Commit, Fetch, Store}
use Rattle.sw_sync.proofs.Errands.{does-over}
use Rattle.sw_sync.proofs.Freeing.{live-not_lost, not-free}
use Rattle.sw_sync.proofs.Gathers.{NoneFree, is_fetch}
use Rattle.sw_sync.proofs.Listed.{are-indices, choices-all, lacks, many-indices, some-lacking}
use Rattle.sw_sync.proofs.Messages.{answered-closed, numbers}
use Rattle.sw_sync.proofs.Repairing.{Repairing, ToRepair}
use Rattle.sw_sync.proofs.Shows.{in-targets, own-floor, shows-none, shows-plain}

some-first : (targets : List Target) → 0 < length targets → (target : Target) × Contains targets target
some-first [] some = absurd (omega (arith, some))
some-first (target ∷ targets) some = (target, here target targets)

module _ (begun : Begun) (past : List Step) (run : IsRun (IsNext begun) past) (none : opens past ≡ []) (repair : Repair) (repairing : Repairing begun past repair []) where
  abbrev k : ℕ
  k = begun.cluster.policy.k

  abbrev Todo : Errand → Type 0
  Todo = ToRepair begun past repairing.heard repair

  own : IsOwnFloor begun past (durable_at repair.stamp)
  own = own-floor begun past repairing.heard repairing.surveyed (durable_at repair.stamp) repairing.own

  -- ---- what was handed out was answered

  commit-answered : (target : Target) → Todo (Commit target) → (answer : Option Reply) × WasTold past target.device (message.Commit begun.place repair.stamp target.index) answer
  commit-answered target todo =
      let sent = does-over begun repair.stamp Todo past run none repairing.does (Commit target) todo in
      (sent.1.0, (sent.2.0, subst (λ (one : Sent). Contains past (Closed one sent.1.0)) sent.2.2 sent.1.1))

  store-answered : (target : Target) → Todo (Store target) → (bytes : List ℕ) × (answer : Option Reply) × WasTold past target.device (message.PutFrag begun.place repair.stamp target.index bytes) answer
  store-answered target todo =
      let sent = does-over begun repair.stamp Todo past run none repairing.does (Store target) todo in
      (sent.2.1, sent.1.0, (sent.2.0, subst (λ (one : Sent). Contains past (Closed one sent.1.0)) sent.2.2 sent.1.1))

  fetch-answered : (source : Target) → Contains repair.tried source → (answer : Option Reply) × WasTold past source.device (message.Fetch begun.place repair.stamp source.index) answer
  fetch-answered source there =
      let sent = does-over begun repair.stamp Todo past run none repairing.does (Fetch source) there in
      (sent.1.0, (sent.2.0, subst (λ (one : Sent). Contains past (Closed one sent.1.0)) sent.2.2 sent.1.1))

  -- ---- the indices that their primaries lack

  is-lacking : (target : Target) → IsPrimaryOf begun.cluster begun.place target.index target.device → shows_none repair.stamp repairing.heard.lists target ≡ true → Contains repair.lacking target
  is-lacking target primary shown =
      subst (λ these. Contains these target) (sym repairing.lacking)
      (in_filter (shows_none repair.stamp repairing.heard.lists) (targets_from 0 (primaries begun)) target (in-targets begun target primary) shown)

  lacked-are : (index : ℕ) → is_lacking repair index ≡ true → (device : ℕ) × ListsNone begun past repair.stamp (record { index = index; device = device })
  lacked-are index is =
      let one = some_passes (has_index index) repair.lacking is in
      (one.0.device, subst (λ n. ListsNone begun past repair.stamp (record { index = n; device = one.0.device })) (eqb-true one.0.index index one.2) (lacks begun past repair [] repairing one.0 one.1))

  others-are : (index device : ℕ) → is_lacking repair index ≡ false → ListsNone begun past repair.stamp (record { index = index; device = device }) → ⊥
  others-are index device is lists =
      let target : Target = record { index = index; device = device } in
      let there = is-lacking target lists.primary (shows-none begun past repairing.heard repairing.surveyed repair.stamp target lists) in
      true≢false (sym (any_passes (has_index index) repair.lacking target there (eq-eqb index index refl)) ∙ is)

  plain-told : PlainAreTold begun past repair.stamp
  plain-told target lists = commit-answered target (inl (in-targets begun target lists.primary, shows-plain begun past repairing.heard repairing.surveyed repair.stamp target lists))

  -- ---- where it is done

  module _ (done : is_repaired k repair ≡ true) where
    -- what is lacking was sent once k archives were there
    enough : (target : Target) → Contains repair.lacking target → length repair.archives ≡ k
    enough target there = elim (or_cases (is_empty repair.lacking) (length repair.archives == k) done) [
      | inl empty ↦ absurd (not-empty repair.lacking there empty)
      | inr count ↦ eqb-true (length repair.archives) k count
    ]
      where
        not-empty : (targets : List Target) → Contains targets target → is_empty targets ≡ true → ⊥
        not-empty [] there empty = none_in target there
        not-empty (one ∷ targets) there empty = cc

    lacking-told : LackingAreTold begun past repair.stamp
    lacking-told target lists =
        let there = is-lacking target lists.primary (shows-none begun past repairing.heard repairing.surveyed repair.stamp target lists) in
        let sent = store-answered target (there, enough target there) in (
          sent.0,
          sent.1,
          sent.2,
          λ synced. commit-answered target (inr (there, (sent.0, subst (WasTold past target.device (message.PutFrag begun.place repair.stamp target.index sent.0)) synced sent.2))),
        )

    pub was-repaired : WasRepaired begun past repair.commits repair.rebuilt 0 repair.failed
    was-repaired = record {
      stamp = repair.stamp;
      own = own;
      plain = plain-told;
      lacking = lacking-told;
      no_tombstones = refl;
      lacked = is_lacking repair;
      lacked_are = lacked-are;
      others_are = others-are;
      committed = repairing.commits;
      rebuilt_are = repairing.rebuilt;
      failures = repairing.failures;
    }

  -- ---- where too few archives were to be had

  -- what was fetched was tried
  some-tried : (source : Target) (answer : Option Reply) → WasTold past source.device (message.Fetch begun.place repair.stamp source.index) answer → (other : Target) × Contains repair.tried other
  some-tried source answer was =
      let f : Sent → ℕ = λ sent. cond (is_fetch sent) 1 0 in
      some-first repair.tried
      (omega (
        arith,
        repairing.gathers.tries,
        sums-keep (IsNext begun) (numbers begun) f past run,
        counted-among is_fetch (closed past) (record { ticket = was.0; device = source.device; msg = message.Fetch begun.place repair.stamp source.index }) refl (answered-closed past _ answer was.1),
      ))

  few-listed : repair.listed < k → FewListed begun past repair.stamp repair.listed
  few-listed few = record {
    indices = indices_of (firsts repair.choices);
    are = are-indices begun past repair [] repairing;
    count = omega (arith, few, repairing.listed, length-map (firsts repair.choices) (λ (target : Target). target.index));
    none_fetched = λ source answer was.
        let one = some-tried source answer was in
        let worth = repairing.gathers.worth one.0 one.1 in
        absurd (omega (arith, few, worth.1));
  }

  -- each choice was lost, or an archive of its index was brought
  abbrev IsSpentNow : Target → Type 0
  IsSpentNow source = IsUsed repairing.gathers.missed repair.archives source

  told-used : (source : Target) (answer : Option Reply) → WasTold past source.device (message.Fetch begun.place repair.stamp source.index) answer → IsSpentNow source
  told-used source answer was = elim (repairing.gathers.spent source answer was) [ inl missed ↦ inl missed.0 | inr brought ↦ inr brought ]

  tried-used : (source : Target) → Contains repair.tried source → IsSpentNow source
  tried-used source there = let told = fetch-answered source there in told-used source told.0 told.1

  taken-used : (source other : Target) → Contains repair.tried other → other.index ≡ source.index → is_live repair.lost other ≡ true → IsSpentNow source
  taken-used source other there same live =
      let told = fetch-answered other there in
      elim (repairing.gathers.spent other told.0 told.1) [
        | inl missed ↦ absurd (live-not_lost repair.lost other live missed.1)
        | inr brought ↦ inr (brought.0, brought.1, brought.2 ∙ same)
      ]

  -- if each that was lost had another tried in its place, k archives were brought
  replaced-enough : length repair.tried ≡ k + length repair.lost → length repair.archives ≡ k
  replaced-enough count =
      let f : Sent → ℕ = λ sent. cond (is_fetch sent) 1 0 in
      omega (arith, count, repairing.gathers.tries, repairing.gathers.losses, sums-keep (IsNext begun) (numbers begun) f past run, ap (sum_by f) none)

  choice-used : NoneFree repair ⊎ (length repair.tried ≡ k + length repair.lost) → (length repair.archives ≡ k → ⊥) → (source : Target) → Contains repair.choices source → IsSpentNow source
  choice-used (inr count) few source there = absurd (few (replaced-enough count))
  choice-used (inl no_free) few source there = elim (not-free repair.tried repair.lost source (no_free source there)) [
    | inl tried ↦ tried-used source tried
    | inr one ↦ taken-used source one.0 one.1 one.2 one.3
  ]

  module _ (not_done : is_repaired k repair ≡ false) where
    lacking : (target : Target) × Contains repair.lacking target
    lacking = some-lacking repair (or_parts (is_empty repair.lacking) (length repair.archives == k) not_done).0

    not-enough : length repair.archives ≡ k → ⊥
    not-enough same = true≢false (sym (eq-eqb (length repair.archives) k same) ∙ (or_parts (is_empty repair.lacking) (length repair.archives == k) not_done).1)

    few-brought : k ≤ repair.listed → FewBrought begun past repair.stamp (length repair.archives) repairing.gathers.missed
    few-brought many = record {
      indices = indices_of (firsts repair.choices);
      are = are-indices begun past repair [] repairing;
      listed = many-indices begun past repair [] repairing many;
      archives = repair.archives;
      brought = repairing.gathers.brought;
      count = refl;
      used_up = λ source is.
          choice-used (repairing.gathers.free (or_parts (is_empty repair.lacking) (length repair.archives == k) not_done).0 many) not-enough source (choices-all begun past repair [] repairing source is);
      fetched = told-used;
    }

    had : (b : Bool) → nat_lt repair.listed k ≡ b → ((if b then repair.listed else length repair.archives) < k)
        × (FewListed begun past repair.stamp (if b then repair.listed else length repair.archives) ⊎ FewBrought begun past repair.stamp (if b then repair.listed else length repair.archives) repairing.gathers.missed)
    had true few = (ltb-true repair.listed k few, inl (few-listed (ltb-true repair.listed k few)))
    had false many = (fewer repair.archives repairing.gathers.few not-enough, inr (few-brought (ltb-false repair.listed k many)))
      where
        fewer : (archives : List ArchiveModel) → length archives ≤ k → (length archives ≡ k → ⊥) → length archives < k
        fewer archives most other = elim (cases_order (length archives) k) [ inl same ↦ absurd (other same) | inr (inl less) ↦ less | inr (inr more) ↦ absurd (omega (arith, most, more)) ]

    pub too-few : IsTooFew begun past repair.stamp (have k repair) repair.misses
    too-few =
        let this = had (nat_lt repair.listed k) refl in
        record {
          own = own;
          target = lacking.0;
          lacking = lacks begun past repair [] repairing lacking.0 lacking.1;
          few = this.0;
          lost = repairing.gathers.missed;
          had = this.1;
          plain = plain-told;
          misses_are = repairing.gathers.misses;
        }
