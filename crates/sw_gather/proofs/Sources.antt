-- The sources that devices list, ascending, and the first of each index.
use Rattle.std.proofs.Common.{◌≡◌, ◌≢◌, inl, inr, ◌⊎◌, ℕ, zero, suc, ◌<◌, ◌==◌, Bool, true, false, not, ◌&&◌, Contains, get_or, List, [], ◌∷◌, map, nat_lt, refl, sym, ap, subst, ◌∙◌, arith}
use Rattle.std.specs.Prelude.{if◌then◌else◌}
use Rattle.std.specs.List.{All, AllPairs, filter, flat_map}
use Rattle.std.proofs.lemmas.Bool.{and_parts, cases_eq, cond-true, eq-eqb, eqb-true, lt-ltb, ne_eqb}
use Rattle.std.proofs.lemmas.List.Elements.{All-append, All-cons, All-contains_itself, All-filter, All-head, All-map, All-nil, All-tail, filter_passes}
use Rattle.std.proofs.lemmas.List.Kept.{AllPairs-cons, AllPairs-filter}
use Rattle.sw_hashdir.specs.Listing.{ListingModel}
use Rattle.sw_hashdir.specs.declared.entry.Entry.{Entry}
use Rattle.sw_ring.proofs.Among.{Contains-cons}
use Rattle.sw_message.specs.Targets.{ascending, is_before, with_target}
use Rattle.sw_message.specs.declared.target.Target.{Target}
use Rattle.sw_gather.specs.Choices.{choices_in, entry_target, firsts, has_index, is_listed, listed_at, same_target}
use Rattle.sw_gather.proofs.Lists.{first_or_later, here, in_filter, in_flat, in_map, none_in}

-- ---- what holds of each

module _ (P : Target → Type 0) where
  pub with-kept : (target : Target) (others : List Target) → P target → All P others → All P (with_target target others)
  with-kept target [] is all = All-cons P target [] is all
  with-kept target (other ∷ others) is all = by_order (is_before target other) (with-kept target others is (All-tail P other others all))
    where
      by_order : (b : Bool) → All P (with_target target others) → All P (if b then target ∷ other ∷ others else other ∷ with_target target others)
      by_order true later = All-cons P target (other ∷ others) is all
      by_order false later = All-cons P other (with_target target others) (All-head P other others all) later

  pub ascending-kept : (targets : List Target) → All P targets → All P (ascending targets)
  ascending-kept [] all = all
  ascending-kept (target ∷ targets) all = with-kept target (ascending targets) (All-head P target targets all) (ascending-kept targets (All-tail P target targets all))

  pub firsts-kept : (targets : List Target) → All P targets → All P (firsts targets)
  firsts-kept [] all = all
  firsts-kept (target ∷ targets) all =
      All-cons P target (filter (λ (other : Target). not (has_index target.index other)) (firsts targets)) (All-head P target targets all)
      (All-filter (λ (other : Target). not (has_index target.index other)) P (firsts targets) (firsts-kept targets (All-tail P target targets all)))

-- candidates are what listings show
module _ (Q : Target → Type 0) where
  -- what holds of each entry of a listing that is of the stamp, at its device
  abbrev pub OfEntries : (total stamp : ℕ) → ℕ × ListingModel → Type 0
  OfEntries total stamp one = (entry : Entry) → Contains one.1.entries entry → is_listed total stamp entry ≡ true → Q (record { index = entry.index; device = one.0 })

  of_listing : (total stamp : ℕ) (one : ℕ × ListingModel) → OfEntries total stamp one → All Q (listed_at total stamp one)
  of_listing total stamp one is =
      let kept = filter (is_listed total stamp) one.1.entries in
      All-map Q (entry_target one.0) kept
      (λ i d below. is (get_or kept i d) (All-filter (is_listed total stamp) (Contains one.1.entries) one.1.entries (All-contains_itself one.1.entries) i d below)
      (filter_passes (is_listed total stamp) one.1.entries i d below))

  of_listings : (total stamp : ℕ) (lists : List (ℕ × ListingModel)) → All (OfEntries total stamp) lists → All Q (flat_map (listed_at total stamp) lists)
  of_listings total stamp [] all = All-nil Q
  of_listings total stamp (one ∷ lists) all =
      All-append Q (listed_at total stamp one) (flat_map (listed_at total stamp) lists) (of_listing total stamp one (All-head (OfEntries total stamp) one lists all))
      (of_listings total stamp lists (All-tail (OfEntries total stamp) one lists all))

  pub choices-of : (total stamp : ℕ) (lists : List (ℕ × ListingModel)) → All (OfEntries total stamp) lists → All Q (choices_in total stamp lists)
  choices-of total stamp lists all = ascending-kept Q (flat_map (listed_at total stamp) lists) (of_listings total stamp lists all)

-- ---- targets in order

in_with : (target : Target) (others : List Target) (x : Target) → (target ≡ x) ⊎ Contains others x → Contains (with_target target others) x
in_with target [] x (inl same) = subst (λ (z : Target). Contains (z ∷ []) x) (sym same) (here x [])
in_with target [] x (inr is) = absurd (none_in x is)
in_with target (other ∷ others) x which = by_order (is_before target other) which (λ one. in_with target others x one)
  where
    by_order : (b : Bool) → (target ≡ x) ⊎ Contains (other ∷ others) x → ((target ≡ x) ⊎ Contains others x → Contains (with_target target others) x)
        → Contains (if b then target ∷ other ∷ others else other ∷ with_target target others) x
    by_order true (inl same) later = subst (λ (z : Target). Contains (z ∷ other ∷ others) x) (sym same) (here x (other ∷ others))
    by_order true (inr is) later = Contains-cons x target (other ∷ others) is
    by_order false (inl same) later = Contains-cons x other (with_target target others) (later (inl same))
    by_order false (inr is) later = elim (first_or_later other others x is) [
      | inl same ↦ subst (λ (z : Target). Contains (z ∷ with_target target others) x) (sym same) (here x (with_target target others))
      | inr one ↦ Contains-cons x other (with_target target others) (later (inr one))
    ]

pub in_ascending : (targets : List Target) (x : Target) → Contains targets x → Contains (ascending targets) x
in_ascending [] x is = is
in_ascending (target ∷ targets) x is = elim (first_or_later target targets x is) [
  | inl same ↦ in_with target (ascending targets) x (inl same)
  | inr later ↦ in_with target (ascending targets) x (inr (in_ascending targets x later))
]

-- ---- the first of each index

abbrev pub indices_of : List Target → List ℕ
indices_of targets = map (λ (target : Target). target.index) targets

abbrev others_than : ℕ → Target → Bool
others_than index other = not (has_index index other)

other_index : (index : ℕ) (other : Target) → others_than index other ≡ true → index ≢ other.index
other_index index other passes same = let has = eq-eqb other.index index (sym same) in absurd (cc)

pub firsts_apart : (targets : List Target) → AllPairs (λ (a b : Target). a.index ≢ b.index) (firsts targets)
firsts_apart [] = λ i j d less within. absurd (omega arith)
firsts_apart (target ∷ targets) =
    let left = filter (others_than target.index) (firsts targets) in
    AllPairs-cons (λ (a b : Target). a.index ≢ b.index) target left
    (λ i d below. other_index target.index (get_or left i d) (filter_passes (others_than target.index) (firsts targets) i d below))
    (AllPairs-filter (λ (a b : Target). a.index ≢ b.index) (others_than target.index) (firsts targets) (firsts_apart targets))

pub indices_apart : (targets : List Target) → AllPairs (λ (a b : Target). a.index ≢ b.index) targets → AllPairs (λ (one other : ℕ). one ≢ other) (indices_of targets)
indices_apart [] pairs = λ i j d less within. absurd (omega arith)
indices_apart (target ∷ targets) pairs =
    AllPairs-cons (λ (one other : ℕ). one ≢ other) target.index (indices_of targets)
    (All-map (λ (n : ℕ). target.index ≢ n) (λ (one : Target). one.index) targets (λ i d within. pairs zero (suc i) d (omega arith) (omega arith)))
    (indices_apart targets (λ i j d less within. pairs (suc i) (suc j) d (omega arith) (omega arith)))

-- an index that is not filtered out
still_in : (index n : ℕ) (targets : List Target) → n ≢ index → Contains (indices_of targets) n → Contains (indices_of (filter (others_than index) targets)) n
still_in index n [] other is = absurd (none_in n is)
still_in index n (target ∷ targets) other is = elim (first_or_later target.index (indices_of targets) n is) [
  | inl same ↦
      let passes : others_than index target ≡ true = ap not (ne_eqb target.index index (λ one. other (sym same ∙ one))) in
      subst (λ these. Contains (indices_of these) n) (sym (cond-true (others_than index target) (target ∷ filter (others_than index) targets) (filter (others_than index) targets) passes))
      (subst (λ m. Contains (m ∷ indices_of (filter (others_than index) targets)) n) (sym same) (here n (indices_of (filter (others_than index) targets))))
  | inr later ↦ by_test (others_than index target) (still_in index n targets other later)
]
  where
    by_test : (b : Bool) → Contains (indices_of (filter (others_than index) targets)) n
        → Contains (indices_of (if b then target ∷ filter (others_than index) targets else filter (others_than index) targets)) n
    by_test true is = Contains-cons n target.index (indices_of (filter (others_than index) targets)) is
    by_test false is = is

pub in_firsts : (targets : List Target) (x : Target) → Contains targets x → Contains (indices_of (firsts targets)) x.index
in_firsts [] x is = absurd (none_in x is)
in_firsts (target ∷ targets) x is =
    let left = indices_of (filter (others_than target.index) (firsts targets)) in
    elim (first_or_later target targets x is) [
      | inl same ↦ subst (λ (one : Target). Contains (target.index ∷ left) one.index) same (here target.index left)
      | inr later ↦ elim (cases_eq x.index target.index) [
        | inl same ↦ subst (λ n. Contains (target.index ∷ left) n) (sym same) (here target.index left)
        | inr other ↦ Contains-cons x.index target.index left (still_in target.index x.index (firsts targets) other (in_firsts targets x later))
      ]
    ]

-- an entry that is listed, of an index below the total, is a candidate
pub in_choices : (total stamp : ℕ) (lists : List (ℕ × ListingModel)) (device : ℕ) (listing : ListingModel) (entry : Entry) → Contains lists (device, listing) → Contains listing.entries entry → entry.stamp ≡ stamp → entry.index < total
    → Contains (choices_in total stamp lists) (record { index = entry.index; device = device })
in_choices total stamp lists device listing entry held among at below =
    let one : ℕ × ListingModel = (device, listing) in
    let listed : is_listed total stamp entry ≡ true = ap (λ b. b && nat_lt entry.index total) (eq-eqb entry.stamp stamp at) ∙ lt-ltb entry.index total below in
    let target = in_map (entry_target device) (filter (is_listed total stamp) listing.entries) entry (in_filter (is_listed total stamp) listing.entries entry among listed) in
    in_ascending (flat_map (listed_at total stamp) lists) (record { index = entry.index; device = device }) (in_flat (listed_at total stamp) lists one (record { index = entry.index; device = device }) held target)

-- ---- the same source

pub same_source : (a b : Target) → same_target a b ≡ true → a ≡ b
same_source a b is =
    let both = and_parts (b.index == a.index) (b.device == a.device) is in
    let indices = eqb-true b.index a.index both.0 in
    let devices = eqb-true b.device a.device both.1 in
    ap (λ n. record { index = n; device = a.device }) (sym indices) ∙ ap (λ n. record { index = b.index; device = n }) (sym devices)

pub self_same : (target : Target) → same_target target target ≡ true
self_same target = let a = eq-eqb target.index target.index refl in let b = eq-eqb target.device target.device refl in rw (a, b) refl
