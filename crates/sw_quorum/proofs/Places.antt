-- The place of a name and its devices, in a cluster that keeps the rules.
use Rattle.std.specs.Prelude.{◌≡◌, ◌≢◌, ℕ, zero, suc, ◌+◌, ◌^◌, ◌<◌, ◌≤◌, ◌==◌, Bool, true, false, not, cond, List, [], ◌∷◌, length, Contains}
use Rattle.std.specs.List.{All, AllPairs, count_by, slice_index}
use Rattle.std.proofs.Common.{ap, arith, inl, inr, refl, sym, ◌∙◌}
use Rattle.std.proofs.lemmas.Bool.{cases_Bool, eq-eqb, eqb-true, ne_eqb, not-true, true≢false}
use Rattle.std.proofs.lemmas.List.{length-map}
use Rattle.std.proofs.lemmas.List.Elements.{All-cons, All-contains_itself, All-filter, All-head, All-nil, All-tail, All-weaker, filter_passes}
use Rattle.std.proofs.lemmas.List.Filters.{length-filter_both}
use Rattle.std.proofs.lemmas.List.Kept.{AllPairs-cons, AllPairs-filter, AllPairs-from_increasing}
use Rattle.std.proofs.lemmas.List.Sums.{sum_by-cons}
use Rattle.sw_types.specs.Name.{NameModel}
use Rattle.sw_types.proofs.Policies.{bounds}
use Rattle.sw_hashpath.proofs.Laws.{part_below}
use Rattle.sw_hashpath.specs.Place.{IsPlace, hash_of}
use Rattle.sw_hashpath.proofs.Digests.{IsHash-md5}
use Rattle.sw_ring.specs.Cluster.{ClusterModel, KeepsRules, column_of, handoffs_of, ids_of, place_of_name}
use Rattle.sw_ring.specs.Ring.{is_among}
use Rattle.sw_ring.specs.declared.device.Device.{Device}
use Rattle.sw_ring.proofs.Among.{Contains-cons, among-from_Contains}
use Rattle.sw_message.specs.Message.{IsMember}

-- ---- what is in a list at most once

abbrev pub one_if : Bool → ℕ
one_if b = cond b 1 0

-- none is this one
none-is : {A : Type 0} (key : A → ℕ) (k : ℕ) (xs : List A) → count_by (λ x. key x == k) xs ≡ 0 → All (λ x. k ≢ key x) xs
none-is key k [] none = All-nil _
none-is key k (x ∷ xs) none = elim (cases_Bool (key x == k)) [
  | inl is ↦ absurd (omega (arith, none, sum_by-cons (λ x. cond (key x == k) 1 0) x xs, ap one_if is))
  | inr other ↦
      All-cons (λ x. k ≢ key x) x xs (λ same. true≢false (sym (eq-eqb (key x) k (sym same)) ∙ other))
      (none-is key k xs (omega (arith, none, sum_by-cons (λ x. cond (key x == k) 1 0) x xs)))
]

-- where each is there at most once, no two are the same
pub apart-from_once : {A : Type 0} (key : A → ℕ) (xs : List A) → ((k : ℕ) → count_by (λ x. key x == k) xs ≤ 1) → AllPairs (λ a b. key a ≢ key b) xs
apart-from_once key [] once = λ i j d less within. absurd (omega arith)
apart-from_once key (x ∷ xs) once =
    let here : one_if (key x == key x) ≡ 1 = ap one_if (eq-eqb (key x) (key x) refl) in
    AllPairs-cons (λ a b. key a ≢ key b) x xs
    (none-is key (key x) xs (omega (arith, once (key x), here, sum_by-cons (λ y. cond (key y == key x) 1 0) x xs)))
    (apart-from_once key xs (λ k. omega (arith, once k, sum_by-cons (λ y. cond (key y == k) 1 0) x xs)))

-- what passes a test is counted
pub counted-among : {A : Type 0} (test : A → Bool) (xs : List A) (x : A) → test x ≡ true → Contains xs x → 0 < count_by test xs
counted-among test [] x passes (i, within, is) = absurd (omega (arith, within))
counted-among test (first ∷ xs) x passes (zero, within, is) = omega (arith, sum_by-cons (λ y. cond (test y) 1 0) first xs, ap one_if (ap test is ∙ passes))
counted-among test (first ∷ xs) x passes (suc i, within, is) =
    omega (arith, sum_by-cons (λ y. cond (test y) 1 0) first xs, counted-among test xs x passes (i, omega (arith, within), is))

-- and what is counted passes it
pub some-passing : {A : Type 0} (test : A → Bool) (xs : List A) → 0 < count_by test xs → (x : A) × Contains xs x × (test x ≡ true)
some-passing test [] some = absurd (omega (arith, some))
some-passing test (x ∷ xs) some = elim (cases_Bool (test x)) [
  | inl is ↦ (x, (zero, omega arith, refl), is)
  | inr other ↦
      let later = some-passing test xs (omega (arith, some, ap one_if other, sum_by-cons (λ y. cond (test y) 1 0) x xs)) in
      (later.0, Contains-cons later.0 x xs later.1, later.2)
]

-- and so by a key
pub some-counted : {A : Type 0} (key : A → ℕ) (k : ℕ) (xs : List A) → 0 < count_by (λ x. key x == k) xs → (x : A) × Contains xs x × (key x ≡ k)
some-counted key k xs some = let one = some-passing (λ x. key x == k) xs some in (one.0, one.1, eqb-true (key one.0) k one.2)

none-counted : (k : ℕ) (xs : List ℕ) → All (λ x. x ≢ k) xs → count_by (λ x. x == k) xs ≡ 0
none-counted k [] all = refl
none-counted k (x ∷ xs) all =
    omega (arith, sum_by-cons (λ y. cond (y == k) 1 0) x xs, ap one_if (ne_eqb x k (All-head (λ x. x ≢ k) x xs all)), none-counted k xs (All-tail (λ x. x ≢ k) x xs all))

once-apart : (k : ℕ) (xs : List ℕ) → AllPairs (λ a b. a ≢ b) xs → count_by (λ x. x == k) xs ≤ 1
once-apart k [] apart = omega arith
once-apart k (x ∷ xs) apart = elim (cases_Bool (x == k)) [
  | inl is ↦
      let others : All (λ y. y ≢ k) xs = λ i d within same. apart zero (suc i) d (omega arith) (omega arith) (eqb-true x k is ∙ sym same) in
      omega (arith, sum_by-cons (λ y. cond (y == k) 1 0) x xs, ap one_if is, none-counted k xs others)
  | inr other ↦
      let rest : AllPairs (λ a b. a ≢ b) xs = λ i j d less within. apart (suc i) (suc j) d (omega arith) (omega arith) in
      omega (arith, sum_by-cons (λ y. cond (y == k) 1 0) x xs, ap one_if other, once-apart k xs rest)
]

-- ---- the place of a name

module _ (cluster : ClusterModel) (name : NameModel) where
  pub place_right : IsPlace cluster.part_power (place_of_name cluster name)
  place_right = record { hash = IsHash-md5 _; part = refl }

  pub part_small : (place_of_name cluster name).part < 2 ^ cluster.part_power
  part_small = part_below (hash_of name cluster.prefix cluster.suffix) cluster.part_power (IsHash-md5 _)

-- ---- the devices of a partition

module _ (cluster : ClusterModel) (part : ℕ) where
  pub handoffs_known : All (IsMember cluster) (handoffs_of cluster part)
  handoffs_known =
      let ids = ids_of cluster in
      All-filter (λ id. not (is_among (column_of cluster part) id)) (IsMember cluster) ids
      (All-weaker _ (IsMember cluster) (among-from_Contains ids) ids (All-contains_itself ids))

  -- a handoff is no primary
  pub handoffs_apart : All (λ id. is_among (column_of cluster part) id ≡ false) (handoffs_of cluster part)
  handoffs_apart =
      All-weaker (λ id. not (is_among (column_of cluster part) id) ≡ true) (λ id. is_among (column_of cluster part) id ≡ false) (λ id none. not-true (is_among (column_of cluster part) id) none)
      (handoffs_of cluster part) (filter_passes (λ id. not (is_among (column_of cluster part) id)) (ids_of cluster))

  -- there are few
  pub primaries_few : KeepsRules cluster → length (column_of cluster part) ≤ 32
  primaries_few rules =
      omega (arith, length-map cluster.rows (λ (row : List ℕ). slice_index row part), rules.rows, (bounds cluster.policy rules.policy).total)

  pub handoffs_few : KeepsRules cluster → length (handoffs_of cluster part) ≤ 64
  handoffs_few rules =
      let is_primary = is_among (column_of cluster part) in
      omega (
        arith,
        length-filter_both (λ (id : ℕ). not (is_primary id)) (λ (id : ℕ). not (not (is_primary id))) (λ id. refl) (ids_of cluster),
        length-map cluster.devices (λ (device : Device). device.id),
        rules.few,
      )

  -- each device is there once, as a primary or a handoff
  pub device_once : KeepsRules cluster → part < 2 ^ cluster.part_power → (device : ℕ)
      → count_by (λ id. id == device) (column_of cluster part) + count_by (λ id. id == device) (handoffs_of cluster part) ≤ 1
  device_once rules there device = elim (cases_Bool (is_among (column_of cluster part) device)) [
    | inl is ↦
        let others : All (λ id. id ≢ device) (handoffs_of cluster part) =
        All-weaker (λ id. is_among (column_of cluster part) id ≡ false) (λ id. id ≢ device) (λ id none same. true≢false (sym is ∙ ap (is_among (column_of cluster part)) (sym same) ∙ none)) (handoffs_of cluster part) handoffs_apart in
        omega (arith, none-counted device (handoffs_of cluster part) others, once-apart device (column_of cluster part) (rules.apart part there))
    | inr none ↦
        let others : All (λ id. id ≢ device) (column_of cluster part) =
        All-weaker (λ id. is_among (column_of cluster part) id ≡ true) (λ id. id ≢ device) (λ id is same. true≢false (sym is ∙ ap (is_among (column_of cluster part)) same ∙ none)) (column_of cluster part)
        (All-weaker _ (λ id. is_among (column_of cluster part) id ≡ true) (among-from_Contains (column_of cluster part)) (column_of cluster part) (All-contains_itself (column_of cluster part))) in
        let ids_apart : AllPairs (λ a b. a ≢ b) (ids_of cluster) = λ i j d less within same. absurd (omega (arith, same, AllPairs-from_increasing (ids_of cluster) rules.ascending i j d less within)) in
        omega (
          arith,
          none-counted device (column_of cluster part) others,
          once-apart device (handoffs_of cluster part) (AllPairs-filter (λ a b. a ≢ b) (λ id. not (is_among (column_of cluster part) id)) (ids_of cluster) ids_apart),
        )
  ]
