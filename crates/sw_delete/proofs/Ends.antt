-- Why a delete ended as it did.
use Rattle.std.proofs.Common.{◌≡◌, ◌⊎◌, inl, inr, ℕ, ◌+◌, ◌≤◌, ◌<◌, ◌==◌, Bool, true, false, if◌then◌else◌, List, [], ◌++◌, drop, length, take, Contains, Option, Some, None, refl, sym, ap, subst, ◌∙◌, arith}
use Rattle.std.specs.Prelude.{nat_lt}
use Rattle.std.specs.List.{count_by, sum_by}
use Rattle.std.proofs.lemmas.Bool.{cases_lt, eq-eqb, ltb-false, ltb-true}
use Rattle.std.proofs.lemmas.List.{drop_all, length-append, length-take, take_all}
use Rattle.std.proofs.lemmas.List.Elements.{All-contains, All-weaker}
use Rattle.std.proofs.lemmas.List.Sums.{sum_by-append, sum_by-take-drop}
use Rattle.std.proofs.lemmas.Option.{same_Some}
use Rattle.sw_hashdir.specs.declared.floor.Floor.{Floor}
use Rattle.sw_ring.proofs.Roles.{column_length}
use Rattle.sw_message.specs.Floors.{IsHighest, highest}
use Rattle.sw_message.specs.Transcript.{IsRun, Over, Step, given, opens}
use Rattle.sw_message.specs.declared.miss.Miss.{Miss}
use Rattle.sw_message.proofs.Highest.{is_highest}
use Rattle.sw_quorum.specs.Answers.{done, floors, missed}
use Rattle.sw_quorum.proofs.DueLaws as laws
use Rattle.sw_quorum.proofs.Laws.{none-forbidden, parts, sum-ones}
use Rattle.sw_quorum.proofs.Places.{apart-from_once, counted-among, device_once, one_if, part_small, some-counted}
use Rattle.sw_quorum.proofs.Quorums.{quorums}
use Rattle.sw_delete.specs.Causes.{AreMarked, IsDeleted, IsPlaced, IsSuperseded, IsTooFewMarks, WasMarked, WasMissed, WasTold}
use Rattle.sw_delete.specs.Delete.{Begun, IsBegun, IsNext, delete_end, delete_message, delete_next, deletes, due, end_at, existed_in, handoffs, place_of, primaries, settled_end, too_few_marks}
use Rattle.sw_delete.specs.declared.end.DeleteEnd.{DeleteEnd}
use Rattle.sw_delete.specs.declared.end.DeleteEnd.TheVariants as end
use Rattle.sw_delete.proofs.Causes.{IsMade, counted, existed-told, told-all, told-existed}
use Rattle.sw_delete.proofs.Dues.{grew}
use Rattle.sw_delete.proofs.Transcripts.{balance, counts_as, ended}

-- ---- which end it is

pub data Settled (begun : Begun) (past : List Step) (ending : DeleteEnd) : Type 0 where
  enough_marks : begun.cluster.policy.c ≤ length (done (deletes past)) → ending ≡ end.Deleted begun.stamp (length (done (deletes past))) (existed_in past) → Settled begun past ending
  some_floor : (floor : Floor) → length (done (deletes past)) < begun.cluster.policy.c → highest (floors (deletes past)) ≡ Some floor → ending ≡ end.Superseded floor → Settled begun past ending
  few_marks : length (done (deletes past)) < begun.cluster.policy.c → highest (floors (deletes past)) ≡ None → ending ≡ end.TooFewMarks (length (done (deletes past))) (missed (deletes past))
      → Settled begun past ending

module _ (begun : Begun) (past : List Step) (ending : DeleteEnd) where
  by_floor : (floor : Option Floor) → highest (floors (deletes past)) ≡ floor → length (done (deletes past)) < begun.cluster.policy.c → too_few_marks (deletes past) floor ≡ ending → Settled begun past ending
  by_floor (Some floor) is few same = some_floor floor few is (sym same)
  by_floor None is few same = few_marks few is (sym same)

  by_marks : (few : Bool) → nat_lt (length (done (deletes past))) begun.cluster.policy.c ≡ few
      → (if few then too_few_marks (deletes past) (highest (floors (deletes past))) else end.Deleted begun.stamp (length (done (deletes past))) (existed_in past)) ≡ ending → Settled begun past ending
  by_marks true is same = by_floor (highest (floors (deletes past))) refl (ltb-true (length (done (deletes past))) begun.cluster.policy.c is) same
  by_marks false is same = enough_marks (ltb-false (length (done (deletes past))) begun.cluster.policy.c is) (sym same)

  pub settled : delete_end begun past ≡ Some ending → Settled begun past ending
  settled is =
      by_marks (nat_lt (length (done (deletes past))) begun.cluster.policy.c) refl (same_Some (settled_end begun past) ending (sym (ap (end_at begun past) (ended begun past ending is)) ∙ is))

-- ---- a delete that is over

module _ (begun : Begun) (past : List Step) (valid : IsBegun begun) (run : IsRun (IsNext begun) past) (over : delete_next begun past ≡ Over) where
  nothing_open : opens past ≡ []
  nothing_open = laws.over-closed (delete_message begun) (λ n d. refl) (due begun) past run (grew begun past) over

  nothing_left : drop (length (given past)) (due begun past) ≡ []
  nothing_left = drop_all (length (given past)) (due begun past) (laws.over (delete_message begun) (due begun past) past over).0

  no_floors : highest (floors (deletes past)) ≡ None → floors (deletes past) ≡ []
  no_floors none = subst (IsHighest (floors (deletes past))) none (is_highest (floors (deletes past)))

  -- where no floor forbids one, each that was asked is marked or missed, however they are counted
  marks-parts : (w : ℕ → ℕ) → highest (floors (deletes past)) ≡ None → sum_by w (done (deletes past)) + sum_by (λ (one : ℕ × Miss). w one.0) (missed (deletes past)) ≡ sum_by w (due begun past)
  marks-parts w none =
      omega (
        arith,
        balance begun past run w,
        ap (sum_by (counts_as w)) nothing_open,
        ap (sum_by w) nothing_left,
        parts w (deletes past),
        ap (sum_by w) (none-forbidden (deletes past) (no_floors none)),
      )

  -- no device marked twice
  marked-once : (k : ℕ) → count_by (λ id. id == k) (done (deletes past)) ≤ 1
  marked-once k =
      let w : ℕ → ℕ = λ id. one_if (id == k) in
      omega (
        arith,
        balance begun past run w,
        parts w (deletes past),
        sum_by-append w (primaries begun) (take (length (missed (deletes past))) (handoffs begun)),
        sum_by-take-drop w (handoffs begun) (length (missed (deletes past))),
        device_once begun.cluster (place_of begun).part valid.rules (part_small begun.cluster begun.name) k,
      )

  marks : (count : ℕ) → count ≡ length (done (deletes past)) → AreMarked begun past count (done (deletes past))
  marks count is =
      let all = (told-all begun past run).marked in
      record {
        counted = sym is;
        apart = apart-from_once (λ id. id) (done (deletes past)) marked-once;
        placed = All-weaker (IsMade begun past) (IsPlaced begun) (λ device was. was.0) (done (deletes past)) all;
        marked = All-weaker (IsMade begun past) (WasMarked begun past) (λ device was. was.1) (done (deletes past)) all;
      }

  -- ---- the ends

  pub deleted : (stamp count : ℕ) (existed : Bool) → Settled begun past (end.Deleted stamp count existed) → IsDeleted begun past stamp count existed
  deleted stamp count existed (some_floor floor few is same) = absurd (cc)
  deleted stamp count existed (few_marks few none same) = absurd (cc)
  deleted stamp count existed (enough_marks enough same) =
      let own : stamp ≡ begun.stamp = cc in
      let number : count ≡ length (done (deletes past)) = cc in
      let there : existed ≡ existed_in past = cc in
      record {
        own = own;
        counted = number;
        enough = omega (arith, number, enough);
        devices = done (deletes past);
        marked = marks count number;
        existed_told = λ is. existed-told past (sym there ∙ is);
        told_existed = λ told. there ∙ told-existed past told;
      }

  by-floor : (floor : Floor) → length (done (deletes past)) < begun.cluster.policy.c → highest (floors (deletes past)) ≡ Some floor → IsSuperseded begun past floor
  by-floor floor few is =
      let top : IsHighest (floors (deletes past)) (Some floor) = subst (IsHighest (floors (deletes past))) is (is_highest (floors (deletes past))) in
      record {
        told = All-contains (WasTold begun past) (floors (deletes past)) floor (told-all begun past run).refusals top.0;
        greatest = λ other told above. top.1 other (counted begun past other run told) above;
        few = few;
      }

  pub superseded : (floor : Floor) → Settled begun past (end.Superseded floor) → IsSuperseded begun past floor
  superseded floor (enough_marks enough same) = absurd (cc)
  superseded floor (some_floor told few is same) = let one : told ≡ floor = cc in subst (IsSuperseded begun past) one (by-floor told few is)
  superseded floor (few_marks few none same) = absurd (cc)

  -- each device of the place was asked
  all-due : highest (floors (deletes past)) ≡ None → length (done (deletes past)) < begun.cluster.policy.c → due begun past ≡ primaries begun ++ handoffs begun
  all-due none few =
      let misses : ℕ = length (missed (deletes past)) in
      let quorum = quorums begun.cluster.policy valid.rules.policy in
      let many : length (handoffs begun) ≤ misses =
      omega (
        arith,
        few,
        marks-parts (λ _. 1) none,
        sum-ones (done (deletes past)),
        sum-ones (missed (deletes past)),
        sum-ones (due begun past),
        length-append (primaries begun) (take misses (handoffs begun)),
        length-take misses (handoffs begun),
        column_length begun.cluster (place_of begun).part valid.rules,
        quorum.committed,
        quorum.synced,
      ) in
      ap (λ these. primaries begun ++ these) (take_all misses (handoffs begun) many)

  asked : (device : ℕ) → IsPlaced begun device → 0 < count_by (λ id. id == device) (primaries begun) + count_by (λ id. id == device) (handoffs begun)
  asked device (inl has) = omega (arith, counted-among (λ id. id == device) (primaries begun) device (eq-eqb device device refl) has)
  asked device (inr has) = omega (arith, counted-among (λ id. id == device) (handoffs begun) device (eq-eqb device device refl) has)

  -- and is marked or has a miss
  each : highest (floors (deletes past)) ≡ None → length (done (deletes past)) < begun.cluster.policy.c → (device : ℕ) → IsPlaced begun device
      → Contains (done (deletes past)) device ⊎ ((miss : Miss) × Contains (missed (deletes past)) (device, miss) × WasMissed begun past device miss)
  each none few device placed = elim (cases_lt 0 (count_by (λ id. id == device) (done (deletes past)))) [
    | inl some ↦ let one = some-counted (λ id. id) device (done (deletes past)) some in inl (subst (Contains (done (deletes past))) one.2 one.1)
    | inr zero_marked ↦
        let w : ℕ → ℕ = λ id. one_if (id == device) in
        let some : 0 < count_by (λ (one : ℕ × Miss). one.0 == device) (missed (deletes past)) =
        omega (arith, zero_marked, asked device placed, marks-parts w none, ap (sum_by w) (all-due none few), sum_by-append w (primaries begun) (handoffs begun)) in
        let one = some-counted (λ (one : ℕ × Miss). one.0) device (missed (deletes past)) some in
        let was = All-contains (λ (one : ℕ × Miss). WasMissed begun past one.0 one.1) (missed (deletes past)) one.0 (told-all begun past run).misses one.1 in
        inr (
          one.0.1,
          subst (λ id. Contains (missed (deletes past)) (id, one.0.1)) one.2 one.1,
          subst (λ id. WasMissed begun past id one.0.1) one.2 was,
        )
  ]

  pub too_few : (have : ℕ) (misses : List (ℕ × Miss)) → Settled begun past (end.TooFewMarks have misses) → IsTooFewMarks begun past have misses
  too_few have misses (enough_marks enough same) = absurd (cc)
  too_few have misses (some_floor floor few is same) = absurd (cc)
  too_few have misses (few_marks few none same) =
      let number : have ≡ length (done (deletes past)) = cc in
      let list : misses ≡ missed (deletes past) = cc in
      record {
        counted = number;
        few = omega (arith, number, few);
        no_floor = λ floor told. let there = subst (λ these. Contains these floor) (no_floors none) (counted begun past floor run told) in omega (arith, there.1);
        devices = done (deletes past);
        marked = marks have number;
        others = λ device placed. subst (λ these. Contains (done (deletes past)) device ⊎ ((miss : Miss) × Contains these (device, miss) × WasMissed begun past device miss)) (sym list) (each none few device placed);
        misses_are = list;
      }
