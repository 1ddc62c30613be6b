-- Why a put ended as it did.
use Rattle.std.proofs.Common.{◌≡◌, ◌⊎◌, inl, inr, ⊎_elim, ℕ, ◌+◌, ◌≤◌, ◌<◌, Bool, true, false, not, ◌&&◌, ◌||◌, if◌then◌else◌, List, [], drop, get_or, length, map, Contains, Option, Some, None, is_some, refl, sym, ap, subst, ◌∙◌, arith}
use Rattle.std.specs.Prelude.{nat_lt}
use Rattle.std.specs.List.{count_by, slice_get, sum_by}
use Rattle.std.proofs.lemmas.Bool.{and_from, and_right, cases_lt, cond-false, cond-true, cond_both, le-ltb, lt-ltb, ltb-false, ltb-true, or_from, or_left, or_right}
use Rattle.std.proofs.lemmas.List.{drop_all, length-append, length-map, nil_from_length}
use Rattle.std.proofs.lemmas.List.Elements.{All-contains, All-weaker}
use Rattle.std.proofs.lemmas.List.Sums.{sum_by-append}
use Rattle.std.proofs.lemmas.Option.{same_Some, slice_get-get_or, slice_get_within}
use Rattle.sw_hashdir.specs.declared.floor.Floor.{Floor}
use Rattle.sw_ring.proofs.Roles.{column_length}
use Rattle.sw_message.specs.Floors.{IsHighest, highest}
use Rattle.sw_message.specs.Targets.{ascending}
use Rattle.sw_message.specs.Transcript.{IsRun, Over, Step, given, opens}
use Rattle.sw_message.specs.declared.miss.Miss.{Miss}
use Rattle.sw_message.specs.declared.miss.Miss.TheVariants.{NoReply}
use Rattle.sw_message.specs.declared.target.Target.{Target}
use Rattle.sw_message.proofs.Ascents.{sum_ascending}
use Rattle.sw_message.proofs.Highest.{is_highest}
use Rattle.sw_quorum.specs.Answers.{Judged, done, floors, missed}
use Rattle.sw_quorum.proofs.DueLaws as laws
use Rattle.sw_quorum.proofs.Laws.{none-forbidden, parts, sum-ones}
use Rattle.sw_quorum.proofs.Lookups.{slice_get-behind}
use Rattle.sw_quorum.proofs.Places.{apart-from_once, counted-among, one_if, some-counted, some-passing}
use Rattle.sw_quorum.proofs.Quorums.{quorums}
use Rattle.sw_put.specs.Causes.{AreMany, IsCreated, IsSuperseded, IsTooFewCommits, IsTooFewSynced, WasCommitted, WasMissed, WasNotCommitted, WasStored, WasTold}
use Rattle.sw_put.specs.Plans.{replacement}
use Rattle.sw_put.specs.Put.{Begun, IsBegun, IsNext, commits, commits_due, committed_end, due, end_at, handoffs, misses, place_of, primaries, put_end, put_message, put_next, replacements, settled_end, stores, stores_due, too_few_commits}
use Rattle.sw_quorum.specs.Targets.{targets_from}
use Rattle.sw_put.specs.declared.end.PutEnd.{PutEnd}
use Rattle.sw_put.specs.declared.end.PutEnd.TheVariants.{Created, Superseded, TooFewCommits, TooFewSynced}
use Rattle.sw_put.specs.declared.errand.Errand.TheVariants.{CommitAt, StoreAt}
use Rattle.sw_put.proofs.Causes.{IsMade, counted, told-all}
use Rattle.sw_put.proofs.Dues.{commits_due_by, length-stores_due, replacement-at, store-at, stores_due_by}
use Rattle.sw_put.proofs.Homes.{IsFit, known}
use Rattle.sw_put.proofs.Listed.{from-listed, is-listed, listed-apart, with_device}
use Rattle.sw_put.proofs.Transcripts.{commits-balance, counts_as, ended, grew, over-all, over-closed, own, stores-balance}
use Rattle.sw_put.proofs.Warrants.{device-once, devices-once, index-once, indices-apart}
use Rattle.sw_put.proofs.Weights.{commit_weight, has_device, has_index, is_target, primary-there, same_target, store_weight, target_is_itself}

-- ---- quorums

-- there is a commit to be made, and no more archives are to be stored than there are
module _ (begun : Begun) (valid : IsBegun begun) where
  some_commits : 1 ≤ begun.cluster.policy.c
  some_commits = (quorums begun.cluster.policy valid.rules.policy).some_commits

  quorum_within : begun.cluster.policy.q ≤ begun.cluster.policy.k + begun.cluster.policy.m
  quorum_within = (quorums begun.cluster.policy valid.rules.policy).synced

-- ---- which end it is

pub data Settled (begun : Begun) (past : List Step) (end : PutEnd) : Type 0 where
  first_floor : (floor : Floor) → highest (floors (stores past)) ≡ Some floor → end ≡ Superseded floor → Settled begun past end
  few_synced : highest (floors (stores past)) ≡ None → length (done (stores past)) < begun.cluster.policy.q → end ≡ TooFewSynced (length (done (stores past))) (misses (stores past)) → Settled begun past end
  enough_made : highest (floors (stores past)) ≡ None → begun.cluster.policy.q ≤ length (done (stores past)) → begun.cluster.policy.c ≤ length (done (commits past))
      → end ≡ Created begun.stamp (length (done (commits past))) → Settled begun past end
  second_floor : (floor : Floor) → highest (floors (stores past)) ≡ None → begun.cluster.policy.q ≤ length (done (stores past)) → length (done (commits past)) < begun.cluster.policy.c
      → highest (floors (commits past)) ≡ Some floor → end ≡ Superseded floor → Settled begun past end
  few_made : highest (floors (stores past)) ≡ None → begun.cluster.policy.q ≤ length (done (stores past)) → length (done (commits past)) < begun.cluster.policy.c
      → highest (floors (commits past)) ≡ None → end ≡ TooFewCommits (length (done (commits past))) (misses (commits past)) → Settled begun past end

module _ (begun : Begun) (past : List Step) (end : PutEnd) where
  by_second : (second : Option Floor) → highest (floors (commits past)) ≡ second → highest (floors (stores past)) ≡ None → begun.cluster.policy.q ≤ length (done (stores past)) → length (done (commits past)) < begun.cluster.policy.c
      → too_few_commits (commits past) second ≡ end → Settled begun past end
  by_second (Some floor) is none enough few same = second_floor floor none enough few is (sym same)
  by_second None is none enough few same = few_made none enough few is (sym same)

  by_made : (few : Bool) → nat_lt (length (done (commits past))) begun.cluster.policy.c ≡ few → highest (floors (stores past)) ≡ None → begun.cluster.policy.q ≤ length (done (stores past))
      → (if few then too_few_commits (commits past) (highest (floors (commits past))) else Created begun.stamp (length (done (commits past)))) ≡ end → Settled begun past end
  by_made true is none enough same = by_second (highest (floors (commits past))) refl none enough (ltb-true (length (done (commits past))) begun.cluster.policy.c is) same
  by_made false is none enough same = enough_made none enough (ltb-false (length (done (commits past))) begun.cluster.policy.c is) (sym same)

  by_synced : (few : Bool) → nat_lt (length (done (stores past))) begun.cluster.policy.q ≡ few → highest (floors (stores past)) ≡ None
      → (if few then TooFewSynced (length (done (stores past))) (misses (stores past)) else committed_end begun (commits past)) ≡ end → Settled begun past end
  by_synced true is none same = few_synced none (ltb-true (length (done (stores past))) begun.cluster.policy.q is) (sym same)
  by_synced false is none same = by_made (nat_lt (length (done (commits past))) begun.cluster.policy.c) refl none (ltb-false (length (done (stores past))) begun.cluster.policy.q is) same

  by_first : (first : Option Floor) → highest (floors (stores past)) ≡ first → settled_end begun past first ≡ end → Settled begun past end
  by_first (Some floor) is same = first_floor floor is (sym same)
  by_first None is same = by_synced (nat_lt (length (done (stores past))) begun.cluster.policy.q) refl is same

  pub settled : put_end begun past ≡ Some end → Settled begun past end
  settled is = by_first (highest (floors (stores past))) refl (same_Some _ end (sym (ap (end_at begun past) (ended begun past end is)) ∙ is))

-- ---- what is planned

module _ (begun : Begun) (judged : List (Judged Target)) where
  -- nothing where it is refused
  refused-plan : (is_some (highest (floors judged)) || nat_lt (length (done judged)) begun.cluster.policy.q) ≡ true → commits_due_by begun judged ≡ []
  refused-plan is =
      let settled = not (nat_lt (length judged) (length (stores_due_by begun judged))) in
      let refused = is_some (highest (floors judged)) || nat_lt (length (done judged)) begun.cluster.policy.q in
      cond-false (settled && not refused) (ascending (done judged)) [] (and_right settled (not refused) (ap not is))

  -- else what is stored, once all is answered
  whole-plan : length (stores_due_by begun judged) ≤ length judged → highest (floors judged) ≡ None → begun.cluster.policy.q ≤ length (done judged) → commits_due_by begun judged ≡ ascending (done judged)
  whole-plan all none enough =
      let settled = not (nat_lt (length judged) (length (stores_due_by begun judged))) in
      let refused = is_some (highest (floors judged)) || nat_lt (length (done judged)) begun.cluster.policy.q in
      cond-true (settled && not refused) (ascending (done judged)) []
      (and_from settled (not refused) (ap not (le-ltb (length judged) (length (stores_due_by begun judged)) all))
      (ap not (or_from (is_some (highest (floors judged))) (nat_lt (length (done judged)) begun.cluster.policy.q) (ap is_some none) (le-ltb (length (done judged)) begun.cluster.policy.q enough))))

  -- it counts no more than what is stored
  plan-within : (w : Target → ℕ) → sum_by w (commits_due_by begun judged) ≤ sum_by w (done judged)
  plan-within w =
      cond_both (not (nat_lt (length judged) (length (stores_due_by begun judged))) && not (is_some (highest (floors judged)) || nat_lt (length (done judged)) begun.cluster.policy.q)) (ascending (done judged)) []
      (λ (targets : List Target). sum_by w targets ≤ sum_by w (done judged)) (λ _. omega (arith, sum_ascending w (done judged))) (λ _. omega arith)

-- ---- a put that is over

module _ (begun : Begun) (past : List Step) (valid : IsBegun begun) (run : IsRun (IsNext begun) past) (over : put_next begun past ≡ Over) where
  all_stored : length (stores past) ≡ length (stores_due begun past)
  all_stored = (over-all begun past run over).0

  all_made : length (commits past) ≡ length (commits_due begun past)
  all_made = (over-all begun past run over).1

  nothing_open : opens past ≡ []
  nothing_open = over-closed begun past run over

  nothing_left : drop (length (given past)) (due begun past) ≡ []
  nothing_left = drop_all (length (given past)) (due begun past) (laws.over (put_message begun) (due begun past) past over).0

  -- each fragment that was due was answered, however they are counted
  stores-all : (w : Target → ℕ) → sum_by (λ (one : Judged Target). w one.about) (stores past) ≡ sum_by w (stores_due begun past)
  stores-all w =
      omega (arith, stores-balance begun past run (grew begun past run) w, ap (sum_by (counts_as (store_weight w))) nothing_open, ap (sum_by (store_weight w)) nothing_left)

  -- where no floor forbids one, it was stored or missed
  stores-parts : (w : Target → ℕ) → highest (floors (stores past)) ≡ None → sum_by w (done (stores past)) + sum_by (λ (one : Target × Miss). w one.0) (missed (stores past)) ≡ sum_by w (stores_due begun past)
  stores-parts w none =
      let no_floors : floors (stores past) ≡ [] = subst (IsHighest (floors (stores past))) none (is_highest (floors (stores past))) in
      omega (arith, stores-all w, parts w (stores past), ap (sum_by w) (none-forbidden (stores past) no_floors))

  -- each commit that was due was answered; and where enough are stored, that is one for each of them
  commits-parts : (w : Target → ℕ) → highest (floors (stores past)) ≡ None → begun.cluster.policy.q ≤ length (done (stores past)) → highest (floors (commits past)) ≡ None
      → sum_by w (done (commits past)) + sum_by (λ (one : Target × Miss). w one.0) (missed (commits past)) ≡ sum_by w (done (stores past))
  commits-parts w none enough no_floor =
      let no_floors : floors (commits past) ≡ [] = subst (IsHighest (floors (commits past))) no_floor (is_highest (floors (commits past))) in
      omega (
        arith,
        commits-balance begun past run (grew begun past run) w,
        ap (sum_by (counts_as (commit_weight w))) nothing_open,
        ap (sum_by (commit_weight w)) nothing_left,
        parts w (commits past),
        ap (sum_by w) (none-forbidden (commits past) no_floors),
        ap (sum_by w) (whole-plan begun (stores past) (omega (arith, all_stored)) none enough),
        sum_ascending w (done (stores past)),
      )

  -- ---- floors

  of_stores : highest (floors (stores past)) ≡ None → (floor : Floor) → Contains (floors (stores past)) floor → ⊥
  of_stores none floor has =
      let no_floors : floors (stores past) ≡ [] = subst (IsHighest (floors (stores past))) none (is_highest (floors (stores past))) in
      let there = subst (λ these. Contains these floor) no_floors has in omega (arith, there.1)

  of_commits : highest (floors (commits past)) ≡ None → (floor : Floor) → Contains (floors (commits past)) floor → ⊥
  of_commits none floor has =
      let no_floors : floors (commits past) ≡ [] = subst (IsHighest (floors (commits past))) none (is_highest (floors (commits past))) in
      let there = subst (λ these. Contains these floor) no_floors has in omega (arith, there.1)

  no_told : highest (floors (stores past)) ≡ None → highest (floors (commits past)) ≡ None → (floor : Floor) → WasTold begun past floor → ⊥
  no_told first second floor told = ⊎_elim (of_stores first floor) (of_commits second floor) (counted begun past floor run told)

  -- where it is refused, no commit went out
  no_commits : (is_some (highest (floors (stores past))) || nat_lt (length (done (stores past))) begun.cluster.policy.q) ≡ true → commits past ≡ []
  no_commits refused = nil_from_length (commits past) (all_made ∙ ap length (refused-plan begun (stores past) refused))

  -- ---- commits

  made-once : (w : Target → ℕ) → sum_by w (done (commits past)) ≤ sum_by w (done (stores past))
  made-once w =
      omega (arith, commits-balance begun past run (grew begun past run) w, parts w (commits past), plan-within begun (stores past) w)

  made-many : AreMany (length (done (commits past))) (done (commits past))
  made-many = record {
    counted = refl;
    indices = apart-from_once (λ (target : Target). target.index) (done (commits past)) (λ k. omega (arith, made-once (has_index k), index-once begun past run k));
  }

  -- ---- the ends

  pub created : (stamp count : ℕ) → Settled begun past (Created stamp count) → IsCreated begun past stamp count
  created stamp count (first_floor floor is same) = absurd (cc)
  created stamp count (few_synced none few same) = absurd (cc)
  created stamp count (second_floor floor none enough few is same) = absurd (cc)
  created stamp count (few_made none enough few is same) = absurd (cc)
  created stamp count (enough_made none enough many same) =
      let number : count ≡ length (done (commits past)) = cc in
      let own : stamp ≡ begun.stamp = cc in
      let all = (told-all begun valid past run).made in
      record {
        own = own;
        counted = number;
        enough = omega (arith, number, many);
        targets = done (commits past);
        many = record { counted = sym number; indices = made-many.indices };
        devices = apart-from_once (λ (target : Target). target.device) (done (commits past)) (λ k. omega (arith, made-once (has_device k), device-once begun past run valid k));
        homes = All-weaker (IsMade begun past) _ (λ target was. was.0.home) (done (commits past)) all;
        stored = All-weaker (IsMade begun past) (WasStored begun past) (λ target was. was.1) (done (commits past)) all;
        committed = All-weaker (IsMade begun past) (WasCommitted begun past) (λ target was. was.2) (done (commits past)) all;
      }

  first-floor : (floor : Floor) → highest (floors (stores past)) ≡ Some floor → IsSuperseded begun past floor
  first-floor floor is =
      let top : IsHighest (floors (stores past)) (Some floor) = subst (IsHighest (floors (stores past))) is (is_highest (floors (stores past))) in
      let none : commits past ≡ [] = no_commits (or_left (is_some (highest (floors (stores past)))) (nat_lt (length (done (stores past))) begun.cluster.policy.q) (ap is_some is)) in
      record {
        told = All-contains (WasTold begun past) (floors (stores past)) floor (told-all begun valid past run).of_stores top.0;
        greatest = λ other told above. ⊎_elim (λ has. top.1 other has above)
            (λ has. let there = subst (λ (these : List (Judged Target)). Contains (floors these) other) none has in absurd (omega (arith, there.1)))
            (counted begun past other run told);
        few = omega (arith, ap (λ (these : List (Judged Target)). length (done these)) none, some_commits begun valid);
      }

  second-floor : (floor : Floor) → highest (floors (stores past)) ≡ None → length (done (commits past)) < begun.cluster.policy.c → highest (floors (commits past)) ≡ Some floor → IsSuperseded begun past floor
  second-floor floor none few is =
      let top : IsHighest (floors (commits past)) (Some floor) = subst (IsHighest (floors (commits past))) is (is_highest (floors (commits past))) in
      record {
        told = All-contains (WasTold begun past) (floors (commits past)) floor (told-all begun valid past run).of_commits top.0;
        greatest = λ other told above. ⊎_elim (λ has. of_stores none other has) (λ has. top.1 other has above) (counted begun past other run told);
        few = few;
      }

  pub superseded : (floor : Floor) → Settled begun past (Superseded floor) → IsSuperseded begun past floor
  superseded floor (first_floor told is same) = let one : told ≡ floor = cc in subst (IsSuperseded begun past) one (first-floor told is)
  superseded floor (few_synced none few same) = absurd (cc)
  superseded floor (enough_made none enough many same) = absurd (cc)
  superseded floor (second_floor told none enough few is same) = let one : told ≡ floor = cc in subst (IsSuperseded begun past) one (second-floor told none few is)
  superseded floor (few_made none enough few is same) = absurd (cc)

  -- an index that is not among those that are stored has a miss
  other-index : highest (floors (stores past)) ≡ None → (index : ℕ) → index < begun.cluster.policy.k + begun.cluster.policy.m
      → ((target : Target) × Contains (done (stores past)) target × (target.index ≡ index))
      ⊎ ((target : Target) × (miss : Miss) × (target.index ≡ index) × WasMissed begun past target miss × Contains (misses (stores past)) (target.device, miss))
  other-index none index below = elim (cases_lt 0 (sum_by (has_index index) (done (stores past)))) [
    | inl some ↦ inl (some-counted (λ (target : Target). target.index) index (done (stores past)) some)
    | inr few ↦
        let some : 0 < sum_by (λ (one : Target × Miss). has_index index one.0) (missed (stores past)) =
        omega (
          arith,
          few,
          stores-parts (has_index index) none,
          sum_by-append (has_index index) (targets_from 0 (primaries begun)) (replacements (missed (stores past)) (handoffs begun)),
          primary-there 0 (primaries begun) index (omega arith) (omega (arith, below, column_length begun.cluster (place_of begun).part valid.rules)),
        ) in
        let one = some-counted (λ (one : Target × Miss). one.0.index) index (missed (stores past)) some in
        inr (
          one.0.0,
          one.0.1,
          one.2,
          All-contains (λ (one : Target × Miss). WasMissed begun past one.0 one.1) (missed (stores past)) one.0 (told-all begun valid past run).misses one.1,
          is-listed (missed (stores past)) one.0 one.1,
        )
  ]

  -- each that is listed was the miss of a fragment
  listed-stores : (device : ℕ) (miss : Miss) → Contains (misses (stores past)) (device, miss) → (index : ℕ) × WasMissed begun past (record { index = index; device = device }) miss
  listed-stores device miss has =
      let from = from-listed (missed (stores past)) device miss has in (
        from.0.0.index,
        subst (λ (one : ℕ × Miss). WasMissed begun past (record { index = from.0.0.index; device = one.0 }) one.1) from.2
            (All-contains (λ (one : Target × Miss). WasMissed begun past one.0 one.1) (missed (stores past)) from.0 (told-all begun valid past run).misses from.1),
      )

  -- each message was stored or missed
  all-messages : highest (floors (stores past)) ≡ None → commits_due begun past ≡ [] → length (done (stores past)) + length (misses (stores past)) ≡ length (given past)
  all-messages none nothing =
      omega (
        arith,
        stores-parts (λ _. 1) none,
        sum-ones (done (stores past)),
        sum-ones (missed (stores past)),
        sum-ones (stores_due begun past),
        length-map (missed (stores past)) with_device,
        length-append (map StoreAt (stores_due begun past)) (map CommitAt (commits_due begun past)),
        length-map (stores_due begun past) StoreAt,
        ap (λ (these : List Target). length (map CommitAt these)) nothing,
        (laws.over (put_message begun) (due begun past) past over).0,
        laws.given-within (put_message begun) (own begun) (due begun) past run (grew begun past run),
      )

  -- each handoff was used
  used : highest (floors (stores past)) ≡ None → length (done (stores past)) < begun.cluster.policy.q → (i d : ℕ) → i < length (handoffs begun)
      → (index : ℕ) × ((ticket : ℕ) × Contains (given past) (put_message begun ticket (StoreAt (record { index = index; device = get_or (handoffs begun) i d }))))
  used none few i d within =
      let ms = missed (stores past) in
      let front : List Target = targets_from 0 (primaries begun) in
      let many : length (handoffs begun) ≤ length ms =
      omega (
        arith,
        few,
        stores-parts (λ _. 1) none,
        sum-ones (done (stores past)),
        sum-ones ms,
        sum-ones (stores_due begun past),
        length-stores_due begun (stores past),
        column_length begun.cluster (place_of begun).part valid.rules,
        quorum_within begun valid,
      ) in
      let no_miss : Target × Miss = (record { index = 0; device = 0 }, NoReply) in
      let one = get_or ms i no_miss in
      let target : Target = record { index = one.0.index; device = get_or (handoffs begun) i d } in
      let replaced : slice_get (replacements ms (handoffs begun)) i ≡ Some target =
      replacement-at ms (handoffs begun) i
      ∙ ap (λ miss. replacement miss (slice_get (handoffs begun) i)) (slice_get-get_or ms i no_miss (omega (arith, many, within)))
      ∙ ap (replacement (Some one)) (slice_get-get_or (handoffs begun) i d within) in
      let ticket : ℕ = length front + i in
      let stored : slice_get (stores_due begun past) ticket ≡ Some target =
      slice_get-behind front (replacements ms (handoffs begun)) ticket (omega arith) ∙ ap (slice_get (replacements ms (handoffs begun))) (omega arith) ∙ replaced in
      let found = store-at (stores_due begun past) (commits_due begun past) ticket target stored in
      let given_all : ticket < length (given past) =
      omega (arith, slice_get_within (due begun past) ticket (StoreAt target) found, (laws.over (put_message begun) (due begun past) past over).0) in
      (target.index, (ticket, laws.handed-out (put_message begun) (own begun) (due begun) past ticket (StoreAt target) run (grew begun past run) given_all found))

  pub too_few_synced : (have : ℕ) (told : List (ℕ × Miss)) → Settled begun past (TooFewSynced have told) → IsTooFewSynced begun past have told
  too_few_synced have told (first_floor floor is same) = absurd (cc)
  too_few_synced have told (enough_made none enough many same) = absurd (cc)
  too_few_synced have told (second_floor floor none enough few is same) = absurd (cc)
  too_few_synced have told (few_made none enough few is same) = absurd (cc)
  too_few_synced have told (few_synced none few same) =
      let number : have ≡ length (done (stores past)) = cc in
      let list : told ≡ misses (stores past) = cc in
      let refused = or_right (is_some (highest (floors (stores past)))) (nat_lt (length (done (stores past))) begun.cluster.policy.q) (lt-ltb (length (done (stores past))) begun.cluster.policy.q few) in
      let no_commit : commits past ≡ [] = no_commits refused in
      subst (IsTooFewSynced begun past have) (sym list) (record {
        counted = number;
        few = omega (arith, number, few);
        no_floor = no_told none (ap (λ (these : List (Judged Target)). highest (floors these)) no_commit);
        targets = done (stores past);
        many = record { counted = sym number; indices = indices-apart begun past run };
        stored = All-weaker (λ target. IsFit begun target × WasStored begun past target) (WasStored begun past) (λ target was. was.1) (done (stores past)) (known begun valid past run).stored;
        others = other-index none;
        handoffs_used = used none few;
        misses_are = refl;
        listed = listed-stores;
        devices = listed-apart (missed (stores past)) (λ k. omega (arith, devices-once begun past run valid k));
        all = omega (arith, number, all-messages none (refused-plan begun (stores past) refused));
      })

  -- each that was stored was made durable or has a miss, which is listed
  each-made : highest (floors (stores past)) ≡ None → begun.cluster.policy.q ≤ length (done (stores past)) → highest (floors (commits past)) ≡ None
      → (target : Target) → Contains (done (stores past)) target
      → WasCommitted begun past target ⊎ ((miss : Miss) × WasNotCommitted begun past target miss × Contains (misses (commits past)) (target.device, miss))
  each-made none enough no_floor target has = elim (cases_lt 0 (count_by (is_target target) (done (commits past)))) [
    | inl some ↦
        let one = some-passing (is_target target) (done (commits past)) some in
        inl (subst (WasCommitted begun past) (same_target target one.0 one.2) (All-contains (IsMade begun past) (done (commits past)) one.0 (told-all begun valid past run).made one.1).2)
    | inr few ↦
        let some : 0 < count_by (λ (one : Target × Miss). is_target target one.0) (missed (commits past)) =
        omega (arith, few, commits-parts (λ one. one_if (is_target target one)) none enough no_floor, counted-among (is_target target) (done (stores past)) target (target_is_itself target) has) in
        let one = some-passing (λ (one : Target × Miss). is_target target one.0) (missed (commits past)) some in
        let same = same_target target one.0.0 one.2 in
        inr (
          one.0.1,
          subst (λ these. WasNotCommitted begun past these one.0.1) same
              (All-contains (λ (one : Target × Miss). WasNotCommitted begun past one.0 one.1) (missed (commits past)) one.0 (told-all begun valid past run).unmade one.1),
          subst (λ (these : Target). Contains (misses (commits past)) (these.device, one.0.1)) same (is-listed (missed (commits past)) one.0 one.1),
        )
  ]

  -- each that is listed was the miss of one that was stored
  listed-commits : highest (floors (stores past)) ≡ None → begun.cluster.policy.q ≤ length (done (stores past)) → highest (floors (commits past)) ≡ None → (device : ℕ) (miss : Miss) → Contains (misses (commits past)) (device, miss)
      → (index : ℕ) × Contains (done (stores past)) (record { index = index; device = device }) × WasNotCommitted begun past (record { index = index; device = device }) miss
  listed-commits none enough no_floor device miss has =
      let from = from-listed (missed (commits past)) device miss has in
      let target = from.0.0 in
      let counted : 0 < count_by (λ (one : Target × Miss). is_target target one.0) (missed (commits past)) =
      counted-among (λ (one : Target × Miss). is_target target one.0) (missed (commits past)) from.0 (target_is_itself target) from.1 in
      let some : 0 < count_by (is_target target) (done (stores past)) = omega (arith, counted, commits-parts (λ one. one_if (is_target target one)) none enough no_floor) in
      let stored = some-passing (is_target target) (done (stores past)) some in (
        target.index,
        subst (λ (one : ℕ × Miss). Contains (done (stores past)) (record { index = target.index; device = one.0 })) from.2
            (subst (Contains (done (stores past))) (same_target target stored.0 stored.2) stored.1),
        subst (λ (one : ℕ × Miss). WasNotCommitted begun past (record { index = target.index; device = one.0 }) one.1) from.2
            (All-contains (λ (one : Target × Miss). WasNotCommitted begun past one.0 one.1) (missed (commits past)) from.0 (told-all begun valid past run).unmade from.1),
      )

  pub too_few_made : (have : ℕ) (told : List (ℕ × Miss)) → Settled begun past (TooFewCommits have told) → IsTooFewCommits begun past have told
  too_few_made have told (first_floor floor is same) = absurd (cc)
  too_few_made have told (few_synced none few same) = absurd (cc)
  too_few_made have told (enough_made none enough many same) = absurd (cc)
  too_few_made have told (second_floor floor none enough few is same) = absurd (cc)
  too_few_made have told (few_made none enough few no_floor same) =
      let number : have ≡ length (done (commits past)) = cc in
      let list : told ≡ misses (commits past) = cc in
      subst (IsTooFewCommits begun past have) (sym list) (record {
        counted = number;
        few = omega (arith, number, few);
        no_floor = no_told none no_floor;
        enough = enough;
        targets = done (commits past);
        many = record { counted = sym number; indices = made-many.indices };
        committed = All-weaker (IsMade begun past) (WasCommitted begun past) (λ target was. was.2) (done (commits past)) (told-all begun valid past run).made;
        each = each-made none enough no_floor;
        others =
            omega (
              arith,
              number,
              length-map (missed (commits past)) with_device,
              commits-parts (λ _. 1) none enough no_floor,
              sum-ones (done (commits past)),
              sum-ones (missed (commits past)),
              sum-ones (done (stores past)),
            );
        misses_are = refl;
        listed = listed-commits none enough no_floor;
        devices = listed-apart (missed (commits past)) (λ k. omega (arith, commits-parts (has_device k) none enough no_floor, device-once begun past run valid k));
      })
