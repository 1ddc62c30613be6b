-- A fault that is found names what breaks its rule.
use Rattle.std.proofs.Common.{◌≡◌, ℕ, zero, suc, ◌+◌, ◌^◌, ◌<◌, ◌==◌, ◌⊎◌, inl, inr, cond, Bool, true, false, nat_lt, List, [], ◌∷◌, length, Option, Some, None, option_map, refl, sym, ◌∙◌, ap, subst, arith}
use Rattle.std.specs.Prelude.{◌≢◌, IsSomeAnd, slice_get}
use Rattle.std.specs.List.{Any, Contains}
use Rattle.std.specs.Option.{option_or}
use Rattle.std.proofs.lemmas.Bool.Decides.{nat_tests}
use Rattle.std.proofs.lemmas.Option.{same_Some}
use Rattle.sw_ring.specs.declared.fault.RingFault.{RingFault}
use Rattle.sw_ring.specs.declared.fault.RingFault.TheVariants.{Policy, DuplicateDevice, RowLength, UnknownDevice, SameDeviceTwice}
use Rattle.sw_ring.specs.Members.{RingMembers}
use Rattle.sw_ring.specs.Ring.{Twice, duplicate_after, has_at, is_among, odd_row, option_is, ring_fault, rows_fault, twice_after, twice_in, unknown_device, unknown_in}
use Rattle.sw_ring.specs.Rules.{HoldsTwice, IsBroken, device_ids, greatest_devices, greatest_part_power}
use Rattle.sw_ring.proofs.Among.{Contains-cons, IsSomeAnd-weaker, Somewhere, not_among, same_number, somewhere}

-- ---- an item that an earlier one matches

-- an item of a list and one before the list are so, or two of its own
abbrev Again : {A : Type 0} → (A → Type 0) → List A → List A → Type 0
Again P earlier items = (Somewhere P earlier × Somewhere P items) ⊎ HoldsTwice P items

again_first : {A : Type 0} (P : A → Type 0) (x : A) (earlier items : List A) (i : ℕ) → IsSomeAnd (slice_get (x ∷ earlier) i) P → Somewhere P items → Again P earlier (x ∷ items)
again_first P x earlier items zero here there =
    inr (record { first = 0; second = suc there.0; before = omega arith; of_first = here; of_second = there.1 })
again_first P x earlier items (suc i) before there = inl ((i, before), (suc there.0, there.1))

-- the first item goes from those before to those of the list
again_more : {A : Type 0} (P : A → Type 0) (x : A) (earlier items : List A) → Again P (x ∷ earlier) items → Again P earlier (x ∷ items)
again_more P x earlier items (inl both) = again_first P x earlier items both.0.0 both.0.1 both.1
again_more P x earlier items (inr two) =
    inr (record { first = suc two.first; second = suc two.second; before = omega (arith, two.before); of_first = two.of_first; of_second = two.of_second })

-- where none stands before, it is two of its own
twice_from : {A : Type 0} (P : A → Type 0) (items : List A) → Again P [] items → HoldsTwice P items
twice_from P items (inl both) = absurd both.0.1
twice_from P items (inr two) = two

duplicate_by : (earlier ids : List ℕ) (other id : ℕ) (b : Bool) → is_among earlier other ≡ b → cond b (Some other) (duplicate_after (other ∷ earlier) ids) ≡ Some id
    → (duplicate_after (other ∷ earlier) ids ≡ Some id → Again (λ (x : ℕ). x ≡ id) (other ∷ earlier) ids) → Again (λ (x : ℕ). x ≡ id) earlier (other ∷ ids)
duplicate_by earlier ids other id true is h later =
    let same = same_Some other id h in
    let before = somewhere (λ x. x == other) earlier is in
    inl ((before.0, IsSomeAnd-weaker (λ x. (x == other) ≡ true) (λ x. x ≡ id) (λ x is_other. same_number x other is_other ∙ same) (slice_get earlier before.0) before.1), (0, same))
duplicate_by earlier ids other id false is h later = again_more (λ (x : ℕ). x ≡ id) other earlier ids (later h)

duplicate_again : (earlier ids : List ℕ) (id : ℕ) → duplicate_after earlier ids ≡ Some id → Again (λ (x : ℕ). x ≡ id) earlier ids
duplicate_again earlier [] id h = cc
duplicate_again earlier (other ∷ ids) id h = duplicate_by earlier ids other id (is_among earlier other) refl h (duplicate_again (other ∷ earlier) ids id)

-- ---- a device that two rows have at a partition

is_there : (found : Option ℕ) (id : ℕ) → option_is found id ≡ true → found ≡ Some id
is_there None id h = cc
is_there (Some other) id h = ap Some (same_number other id h)

-- the partition that is found is one from the first of the row's, and an earlier row has the device there
record IsTwice (start : ℕ) (earlier : List (List ℕ)) (row : List ℕ) (twice : Twice) : Type 0 where
  pub before : Somewhere (λ (other : List ℕ). slice_get other twice.part ≡ Some twice.id) earlier
  pub behind : ℕ
  pub part : twice.part ≡ start + behind
  pub here : slice_get row behind ≡ Some twice.id

twice_in_by : (start id : ℕ) (earlier : List (List ℕ)) (ids : List ℕ) (twice : Twice) (b : Bool) → has_at start id earlier ≡ b
    → cond b (Some (record { part = start; id = id })) (twice_in (start + 1) earlier ids) ≡ Some twice
    → (twice_in (start + 1) earlier ids ≡ Some twice → IsTwice (start + 1) earlier ids twice) → IsTwice start earlier (id ∷ ids) twice
twice_in_by start id earlier ids twice true is h later =
    let found = somewhere (λ row. option_is (slice_get row start) id) earlier is in
    let same : record { part = start; id = id } ≡ twice = same_Some _ twice h in
    subst (IsTwice start earlier (id ∷ ids)) same (record {
      before = (found.0, IsSomeAnd-weaker (λ row. option_is (slice_get row start) id ≡ true) (λ row. slice_get row start ≡ Some id) (λ row. is_there (slice_get row start) id) (slice_get earlier found.0) found.1);
      behind = 0;
      part = omega arith;
      here = refl;
    })
twice_in_by start id earlier ids twice false is h later =
    let there = later h in
    record { before = there.before; behind = suc there.behind; part = omega (arith, there.part); here = there.here }

is_twice : (start : ℕ) (earlier : List (List ℕ)) (row : List ℕ) (twice : Twice) → twice_in start earlier row ≡ Some twice → IsTwice start earlier row twice
is_twice start earlier [] twice h = cc
is_twice start earlier (id ∷ ids) twice h = twice_in_by start id earlier ids twice (has_at start id earlier) refl h (is_twice (start + 1) earlier ids twice)

twice_by : (earlier rows : List (List ℕ)) (row : List ℕ) (twice : Twice) (first : Option Twice) → twice_in 0 earlier row ≡ first → option_or first (twice_after (row ∷ earlier) rows) ≡ Some twice
    → (twice_after (row ∷ earlier) rows ≡ Some twice → Again (λ (other : List ℕ). slice_get other twice.part ≡ Some twice.id) (row ∷ earlier) rows)
    → Again (λ (other : List ℕ). slice_get other twice.part ≡ Some twice.id) earlier (row ∷ rows)
twice_by earlier rows row twice (Some found) is h later =
    let there = is_twice 0 earlier row twice (is ∙ h) in
    inl (there.before, (0, ap (slice_get row) (omega (arith, there.part)) ∙ there.here))
twice_by earlier rows row twice None is h later = again_more (λ (other : List ℕ). slice_get other twice.part ≡ Some twice.id) row earlier rows (later h)

twice_again : (earlier rows : List (List ℕ)) (twice : Twice) → twice_after earlier rows ≡ Some twice → Again (λ (other : List ℕ). slice_get other twice.part ≡ Some twice.id) earlier rows
twice_again earlier [] twice h = cc
twice_again earlier (row ∷ rows) twice h = twice_by earlier rows row twice (twice_in 0 earlier row) refl h (twice_again (row ∷ earlier) rows twice)

-- ---- a row of another length, and a device that is not there

odd_by : (start parts number : ℕ) (row : List ℕ) (rows : List (List ℕ)) (b : Bool) → (length row == parts) ≡ b → cond b (odd_row (start + 1) parts rows) (Some start) ≡ Some number
    → (odd_row (start + 1) parts rows ≡ Some number → (i : ℕ) × (number ≡ start + 1 + i) × IsSomeAnd (slice_get rows i) (λ row. length row ≢ parts))
    → (i : ℕ) × (number ≡ start + i) × IsSomeAnd (slice_get (row ∷ rows) i) (λ row. length row ≢ parts)
odd_by start parts number row rows true is h later = let there = later h in (suc there.0, omega (arith, there.1), there.2)
odd_by start parts number row rows false is h later = (0, omega (arith, same_Some start number h), λ same. differ same)
  where
    differ : length row ≡ parts → ⊥
    differ same = grind (arith, nat_tests)

is_odd : (start parts number : ℕ) (rows : List (List ℕ)) → odd_row start parts rows ≡ Some number → (i : ℕ) × (number ≡ start + i) × IsSomeAnd (slice_get rows i) (λ row. length row ≢ parts)
is_odd start parts number [] h = cc
is_odd start parts number (row ∷ rows) h = odd_by start parts number row rows (length row == parts) refl h (is_odd (start + 1) parts number rows)

unknown_by : (known ids : List ℕ) (other id : ℕ) (b : Bool) → is_among known other ≡ b → cond b (unknown_in known ids) (Some other) ≡ Some id
    → (unknown_in known ids ≡ Some id → Contains ids id × (¬ Contains known id)) → Contains (other ∷ ids) id × (¬ Contains known id)
unknown_by known ids other id true is h later = let there = later h in (Contains-cons id other ids there.0, there.1)
unknown_by known ids other id false is h later =
    let same = same_Some other id h in
    ((0, omega arith, same), not_among known id (ap (is_among known) (sym same) ∙ is))

unknown_there : (known row : List ℕ) (id : ℕ) → unknown_in known row ≡ Some id → Contains row id × (¬ Contains known id)
unknown_there known [] id h = cc
unknown_there known (other ∷ ids) id h = unknown_by known ids other id (is_among known other) refl h (unknown_there known ids id)

rows_unknown_by : (known row : List ℕ) (rows : List (List ℕ)) (id : ℕ) (first : Option ℕ) → unknown_in known row ≡ first → option_or first (unknown_device known rows) ≡ Some id
    → (unknown_device known rows ≡ Some id → Any (λ row. Contains row id) rows × (¬ Contains known id)) → Any (λ row. Contains row id) (row ∷ rows) × (¬ Contains known id)
rows_unknown_by known row rows id (Some found) is h later =
    let there = unknown_there known row id (is ∙ h) in
    ((0, row, omega arith, refl, there.0), there.1)
rows_unknown_by known row rows id None is h later =
    let there = later h in
    ((suc there.0.0, there.0.1, omega (arith, there.0.2), there.0.3, there.0.4), there.1)

rows_unknown : (known : List ℕ) (rows : List (List ℕ)) (id : ℕ) → unknown_device known rows ≡ Some id → Any (λ row. Contains row id) rows × (¬ Contains known id)
rows_unknown known [] id h = cc
rows_unknown known (row ∷ rows) id h = rows_unknown_by known row rows id (unknown_in known row) refl h (rows_unknown known rows id)

-- ---- the first rule that is broken

-- what holds of a fault that is found first, and of one that is found later
either : (P : RingFault → Type 0) (first later : Option RingFault) → ((fault : RingFault) → first ≡ Some fault → P fault) → ((fault : RingFault) → later ≡ Some fault → P fault)
    → (fault : RingFault) → option_or first later ≡ Some fault → P fault
either P None later here there fault h = there fault h
either P (Some found) later here there fault h = here fault h

found_by : {A : Type 0} (P : RingFault → Type 0) (fault_of : A → RingFault) (found : Option A) → ((x : A) → found ≡ Some x → P (fault_of x)) → (fault : RingFault) → option_map fault_of found ≡ Some fault → P fault
found_by P fault_of None here fault h = cc
found_by P fault_of (Some x) here fault h = subst P (same_Some (fault_of x) fault h) (here x refl)

where_met : (P : RingFault → Type 0) (test : Bool) (found : RingFault) → (test ≡ true → P found) → (fault : RingFault) → cond test (Some found) None ≡ Some fault → P fault
where_met P true found here fault h = subst P (same_Some found fault h) (here refl)
where_met P false found here fault h = cc

where_not_met : (P : RingFault → Type 0) (test : Bool) (found : RingFault) → (test ≡ false → P found) → (fault : RingFault) → cond test None (Some found) ≡ Some fault → P fault
where_not_met P true found here fault h = cc
where_not_met P false found here fault h = subst P (same_Some found fault h) (here refl)

above : (most n : ℕ) → nat_lt most n ≡ true → most < n
above most n h = grind (arith, nat_tests)

differs : (a b : ℕ) → (a == b) ≡ false → a ≢ b
differs a b h same = grind (arith, nat_tests)

pub witness : (members : RingMembers) (fault : RingFault) → ring_fault members ≡ Some fault → IsBroken members fault
unfolding ring_fault rows_fault
witness members =
    let ids : List ℕ = device_ids members.devices in
    let rows : List (List ℕ) = members.rows in
    let broken : RingFault → Type 0 = IsBroken members in
    either broken _ _ (where_met broken _ _ (λ met. (refl, above greatest_part_power members.part_power met)))
    (either broken _ _ (found_by broken Policy _ (λ fault is. is))
    (either broken _ _ (where_met broken _ _ (λ met. (refl, above greatest_devices (length members.devices) met)))
    (either broken _ _ (found_by broken DuplicateDevice _ (λ id is. twice_from _ ids (duplicate_again [] ids id is)))
    (either broken _ _ (where_not_met broken _ _ (λ unmet. (refl, differs (length rows) (members.policy.k + members.policy.m) unmet)))
    (either broken _ _ (found_by broken RowLength _ (λ number is. odd_at number is))
    (either broken _ _ (found_by broken UnknownDevice _ (λ id is. rows_unknown ids rows id is))
    (found_by broken (λ twice. SameDeviceTwice twice.part twice.id) _ (λ twice is. twice_from _ rows (twice_again [] rows twice is)))))))))
  where
    odd_at : (number : ℕ) → odd_row 0 (2 ^ members.part_power) members.rows ≡ Some number → IsSomeAnd (slice_get members.rows number) (λ row. length row ≢ 2 ^ members.part_power)
    odd_at number is =
        let there = is_odd 0 (2 ^ members.part_power) number members.rows is in
        let same : there.0 ≡ number = omega (arith, there.1) in
        subst (λ i. IsSomeAnd (slice_get members.rows i) (λ row. length row ≢ 2 ^ members.part_power)) same there.2
