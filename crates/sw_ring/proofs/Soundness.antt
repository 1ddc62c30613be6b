-- Members in which no broken rule is found keep the rules, and so does their cluster.
use Rattle.std.proofs.Common.{◌≡◌, ℕ, zero, suc, ◌+◌, ◌^◌, ◌<◌, ◌≤◌, ◌==◌, eqb, cond, Bool, true, false, nat_lt, List, [], ◌∷◌, length, get_or, slice_index, Option, Some, None, option_map, refl, sym, ◌∙◌, ap, subst, arith}
use Rattle.std.specs.Prelude.{◌≢◌}
use Rattle.std.specs.Option.{option_or}
use Rattle.std.proofs.lemmas.Bool.{or_parts}
use Rattle.std.proofs.lemmas.Bool.Decides.{Decides-eqb, nat_tests}
use Rattle.std.proofs.lemmas.List.Elements.{All-cons, All-map, All-nil, All-tail}
use Rattle.std.proofs.lemmas.List.Sorted.{IsPermutation-map, length_permutation, list_any-IsPermutation}
use Rattle.std.proofs.lemmas.Map.Made.{AllPairs-from_IsDistinct}
use Rattle.std.specs.List.{All, AllByRecursion, AllPairs, Contains, IsDistinct}
use Rattle.std.specs.List.Sorted.{IsPermutation}
use Rattle.sw_ring.specs.declared.device.Device.{Device}
use Rattle.sw_ring.specs.declared.fault.RingFault.{RingFault}
use Rattle.sw_ring.specs.Cluster.{ClusterModel, IsCluster, KeepsRules, ids_of}
use Rattle.sw_ring.specs.Members.{RingMembers}
use Rattle.sw_ring.specs.Ring.{duplicate_after, has_at, is_among, odd_row, ring_fault, rows_fault, twice_after, twice_in, unknown_device, unknown_in}
use Rattle.sw_ring.specs.Rules.{KeepRules, column_at, device_ids, greatest_devices, greatest_part_power}
use Rattle.sw_ring.proofs.Among.{Contains-from_among, among-from_Contains, same_number}
use Rattle.sw_ring.proofs.Partition.{AreEven, has_at_among}

both_none : {A : Type 0} (first later : Option A) → option_or first later ≡ None → (first ≡ None) × (later ≡ None)
both_none None later h = (refl, h)
both_none (Some x) later h = cc

nothing : {A : Type 0} (fault : A → RingFault) (found : Option A) → option_map fault found ≡ None → found ≡ None
nothing fault None h = refl
nothing fault (Some x) h = cc

-- a test that finds something was not met
not_found : {A : Type 0} (test : Bool) (x : A) (later : Option A) → cond test (Some x) later ≡ None → (test ≡ false) × (later ≡ None)
not_found true x later h = cc
not_found false x later h = (refl, h)

met : {A : Type 0} (test : Bool) (x : A) (later : Option A) → cond test later (Some x) ≡ None → (test ≡ true) × (later ≡ None)
met true x later h = (refl, h)
met false x later h = cc

not_above : (most n : ℕ) → nat_lt most n ≡ false → n ≤ most
not_above most n h = grind (arith, nat_tests)

even_rows : (number parts : ℕ) (rows : List (List ℕ)) → odd_row number parts rows ≡ None → AreEven parts rows
even_rows number parts [] h = All-nil (λ row. length row ≡ parts)
even_rows number parts (row ∷ rows) h =
    let here = met (length row == parts) number (odd_row (number + 1) parts rows) h in
    All-cons (λ row. length row ≡ parts) row rows (same_number (length row) parts here.0) (even_rows (number + 1) parts rows here.1)

weaker : (earlier : List ℕ) (id : ℕ) (ids : List ℕ) → AllByRecursion (λ other. is_among (id ∷ earlier) other ≡ false) ids → AllByRecursion (λ other. is_among earlier other ≡ false) ids
weaker earlier id [] h = tt
weaker earlier id (other ∷ ids) h = ((or_parts (id == other) (is_among earlier other) h.0).1, weaker earlier id ids h.1)

others : (earlier : List ℕ) (id : ℕ) (ids : List ℕ) → AllByRecursion (λ other. is_among (id ∷ earlier) other ≡ false) ids → AllByRecursion (λ other. eqb id other ≡ false) ids
others earlier id [] h = tt
others earlier id (other ∷ ids) h = ((or_parts (id == other) (is_among earlier other) h.0).0, others earlier id ids h.1)

-- ids of which none stands before, and none stands twice
apart : (earlier ids : List ℕ) → duplicate_after earlier ids ≡ None → AllByRecursion (λ id. is_among earlier id ≡ false) ids × IsDistinct eqb ids
unfolding IsDistinct
apart earlier [] h = (tt, tt)
apart earlier (id ∷ ids) h =
    let here = not_found (is_among earlier id) id (duplicate_after (id ∷ earlier) ids) h in
    let later = apart (id ∷ earlier) ids here.1 in
    ((here.0, weaker earlier id ids later.0), (others earlier id ids later.0, later.1))

distinct : (ids : List ℕ) → duplicate_after [] ids ≡ None → IsDistinct eqb ids
distinct ids h = (apart [] ids h).1

-- ---- the devices of the rows

row_known : (known row : List ℕ) → unknown_in known row ≡ None → All (Contains known) row
row_known known [] h = All-nil (Contains known)
row_known known (id ∷ ids) h =
    let here = met (is_among known id) id (unknown_in known ids) h in
    All-cons (Contains known) id ids (Contains-from_among known id here.0) (row_known known ids here.1)

rows_known : (known : List ℕ) (rows : List (List ℕ)) → unknown_device known rows ≡ None → All (All (Contains known)) rows
rows_known known [] h = All-nil (All (Contains known))
rows_known known (row ∷ rows) h =
    let parts = both_none (unknown_in known row) (unknown_device known rows) h in
    All-cons (All (Contains known)) row rows (row_known known row parts.0) (rows_known known rows parts.1)

row_new : (start : ℕ) (earlier : List (List ℕ)) (row : List ℕ) → twice_in start earlier row ≡ None → (i : ℕ) → i < length row → has_at (start + i) (get_or row i 0) earlier ≡ false
row_new start earlier [] h i within = absurd (omega arith)
row_new start earlier (id ∷ ids) h zero within =
    subst (λ part. has_at part id earlier ≡ false) (omega arith) (not_found (has_at start id earlier) (record { part = start; id = id }) (twice_in (start + 1) earlier ids) h).0
row_new start earlier (id ∷ ids) h (suc i) within =
    let later = (not_found (has_at start id earlier) (record { part = start; id = id }) (twice_in (start + 1) earlier ids) h).1 in
    subst (λ part. has_at part (get_or ids i 0) earlier ≡ false) (omega arith) (row_new (start + 1) earlier ids later i (omega arith))

column_once : (part parts : ℕ) (earlier rows : List (List ℕ)) → AreEven parts earlier → AreEven parts rows → part < parts → twice_after earlier rows ≡ None
    → duplicate_after (column_at part earlier) (column_at part rows) ≡ None
column_once part parts earlier [] before even within h = refl
column_once part parts earlier (row ∷ rows) before even within h =
    let both = both_none (twice_in 0 earlier row) (twice_after (row ∷ earlier) rows) h in
    let here : length row ≡ parts = even 0 [] (omega arith) in
    let id : ℕ = slice_index row part in
    let new : is_among (column_at part earlier) id ≡ false =
    sym (has_at_among part id parts earlier before within) ∙ subst (λ at. has_at at id earlier ≡ false) (omega arith) (row_new 0 earlier row both.0 part (omega (arith, here))) in
    ap (λ b. cond b (Some id) (duplicate_after (id ∷ column_at part earlier) (column_at part rows))) new
    ∙ column_once part parts (row ∷ earlier) rows (All-cons (λ row. length row ≡ parts) row earlier here before) (All-tail (λ row. length row ≡ parts) row rows even) within both.1

-- no two ids of a list are the same where none is found twice
apart_from : (ids : List ℕ) → duplicate_after [] ids ≡ None → AllPairs (λ one other. one ≢ other) ids
apart_from ids h = AllPairs-from_IsDistinct Decides-eqb ids (distinct ids h)

-- members that break no rule keep each
pub sound : (members : RingMembers) → ring_fault members ≡ None → KeepRules members
unfolding ring_fault rows_fault
sound members h =
    let power = both_none _ _ h in
    let policy = both_none _ _ power.1 in
    let count = both_none _ _ policy.1 in
    let ids = both_none _ _ count.1 in
    let rows = both_none _ _ ids.1 in
    let odd = both_none _ _ rows.1 in
    let known = both_none _ _ odd.1 in
    let even = even_rows 0 (2 ^ members.part_power) members.rows (nothing _ _ odd.0) in
    record {
      part_power = not_above greatest_part_power members.part_power (not_found _ _ _ power.0).0;
      policy = nothing _ _ policy.0;
      few = not_above greatest_devices (length members.devices) (not_found _ _ _ count.0).0;
      once = apart_from (device_ids members.devices) (nothing _ _ ids.0);
      rows = same_number (length members.rows) (members.policy.k + members.policy.m) (met _ _ _ rows.0).0;
      lengths = even;
      known = rows_known (device_ids members.devices) members.rows (nothing _ _ known.0);
      apart = λ part within. apart_from _ (column_once part (2 ^ members.part_power) [] members.rows (All-nil _) even within (nothing _ _ known.1));
    }

-- ---- the cluster of such members

-- each device of a partition is one of the ring's, in whatever order those stand
column_known : (ids sorted : List ℕ) (part parts : ℕ) (rows : List (List ℕ)) → IsPermutation ids sorted → AreEven parts rows → part < parts → All (All (Contains ids)) rows
    → All (λ id. is_among sorted id ≡ true) (column_at part rows)
column_known ids sorted part parts rows same even within known =
    All-map (λ id. is_among sorted id ≡ true) (λ row. slice_index row part) rows (λ i d below.
    sym (list_any-IsPermutation (λ other. other == slice_index (get_or rows i d) part) ids sorted same)
    ∙ among-from_Contains ids (slice_index (get_or rows i d) part) (known i d below part 0 (omega (arith, even i d below))))

pub rules_kept : (members : RingMembers) (cluster : ClusterModel) → KeepRules members → IsCluster members cluster → KeepsRules cluster
rules_kept members cluster kept is =
    let same : IsPermutation (device_ids members.devices) (ids_of cluster) = IsPermutation-map (λ (device : Device). device.id) members.devices cluster.devices is.devices in
    record {
      part_power = rw is.part_power kept.part_power;
      policy = rw is.policy kept.policy;
      few = omega (arith, length_permutation members.devices cluster.devices is.devices, kept.few);
      ascending = is.ascending;
      rows = rw (is.rows, is.policy) kept.rows;
      lengths = rw (is.rows, is.part_power) kept.lengths;
      known = rw (is.rows, is.part_power) (λ part within. column_known (device_ids members.devices) (ids_of cluster) part (2 ^ members.part_power) members.rows same kept.lengths within kept.known);
      apart = rw (is.rows, is.part_power) kept.apart;
    }
