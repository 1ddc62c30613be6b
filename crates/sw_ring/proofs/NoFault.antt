-- Members that keep the rules break none.
use Rattle.std.proofs.Common.{◌≡◌, ℕ, ◌^◌, ◌<◌, List, [], length, get_or, slice_index, Option, Some, None, refl, sym, ◌∙◌, ap, arith}
use Rattle.std.specs.Prelude.{◌≢◌, IsSomeAnd, slice_get}
use Rattle.std.specs.List.{All, AllPairs, Contains}
use Rattle.std.proofs.lemmas.List.{get_or-map, length-map}
use Rattle.std.proofs.lemmas.List.Elements.{All-contains}
use Rattle.std.proofs.lemmas.Option.{get_or_from_slice_get, slice_get_within}
use Rattle.sw_ring.specs.declared.fault.RingFault.{RingFault}
use Rattle.sw_ring.specs.declared.fault.RingFault.TheVariants.{NotJson, Field, PartPower, Policy, TooManyDevices, DuplicateDevice, RowCount, RowLength, UnknownDevice, SameDeviceTwice, NoMemory}
use Rattle.sw_ring.specs.Members.{RingMembers}
use Rattle.sw_ring.specs.Ring.{ring_fault}
use Rattle.sw_ring.specs.Rules.{HoldsTwice, IsBroken, KeepRules, column_at, device_ids}
use Rattle.sw_ring.proofs.Among.{IsSomeAnd-value}
use Rattle.sw_ring.proofs.Witness.{witness}

-- no id stands twice among ids that differ
once_only : (ids : List ℕ) (id : ℕ) → AllPairs (λ one other. one ≢ other) ids → HoldsTwice (λ (other : ℕ). other ≡ id) ids → ⊥
once_only ids id differ twice =
    let one = IsSomeAnd-value (λ (other : ℕ). other ≡ id) (slice_get ids twice.first) twice.of_first in
    let two = IsSomeAnd-value (λ (other : ℕ). other ≡ id) (slice_get ids twice.second) twice.of_second in
    differ twice.first twice.second 0 twice.before (slice_get_within ids twice.second two.0 two.1)
    (get_or_from_slice_get ids twice.first one.0 0 one.1 ∙ one.2 ∙ sym (get_or_from_slice_get ids twice.second two.0 0 two.1 ∙ two.2))

-- rows that each have a device at a partition have it in its column
column_has : (part id i : ℕ) (rows : List (List ℕ)) → IsSomeAnd (slice_get rows i) (λ row. slice_get row part ≡ Some id) → get_or (column_at part rows) i 0 ≡ id
column_has part id i rows has =
    let row = IsSomeAnd-value (λ row. slice_get row part ≡ Some id) (slice_get rows i) has in
    get_or-map (λ row. slice_index row part) rows i [] 0 (slice_get_within rows i row.0 row.1)
    ∙ ap (λ row. slice_index row part) (get_or_from_slice_get rows i row.0 [] row.1)
    ∙ get_or_from_slice_get row.0 part id 0 row.2

same_device : (members : RingMembers) (part id : ℕ) → KeepRules members → HoldsTwice (λ (row : List ℕ). slice_get row part ≡ Some id) members.rows → ⊥
same_device members part id kept twice =
    let row = IsSomeAnd-value (λ (row : List ℕ). slice_get row part ≡ Some id) (slice_get members.rows twice.second) twice.of_second in
    let within = slice_get_within members.rows twice.second row.0 row.1 in
    let long = kept.lengths twice.second [] within in
    let there : part < 2 ^ members.part_power = omega (arith, slice_get_within row.0 part id row.2, ap length (get_or_from_slice_get members.rows twice.second row.0 [] row.1), long) in
    kept.apart part there twice.first twice.second 0 twice.before (omega (arith, within, length-map members.rows (λ row. slice_index row part)))
    (column_has part id twice.first members.rows twice.of_first ∙ sym (column_has part id twice.second members.rows twice.of_second))

odd_length : (members : RingMembers) (number : ℕ) → KeepRules members → IsSomeAnd (slice_get members.rows number) (λ row. length row ≢ 2 ^ members.part_power) → ⊥
odd_length members number kept odd =
    let row = IsSomeAnd-value (λ row. length row ≢ 2 ^ members.part_power) (slice_get members.rows number) odd in
    row.2 (ap length (sym (get_or_from_slice_get members.rows number row.0 [] row.1)) ∙ kept.lengths number [] (slice_get_within members.rows number row.0 row.1))

-- what a fault names is broken by no members that keep the rules
not_both : (members : RingMembers) (fault : RingFault) → KeepRules members → IsBroken members fault → ⊥
not_both members (PartPower power) kept broken = omega (arith, kept.part_power, broken.0, broken.1)
not_both members (Policy fault) kept broken = cc (kept.policy, broken)
not_both members (TooManyDevices count) kept broken = omega (arith, kept.few, broken.0, broken.1)
not_both members (DuplicateDevice id) kept broken = once_only (device_ids members.devices) id kept.once broken
not_both members (RowCount count) kept broken = broken.1 (sym broken.0 ∙ kept.rows)
not_both members (RowLength number) kept broken = odd_length members number kept broken
not_both members (UnknownDevice id) kept broken =
    let known : All (Contains (device_ids members.devices)) broken.0.1 = rw broken.0.3 at (kept.known broken.0.0 broken.0.1 broken.0.2) in
    broken.1 (All-contains (Contains (device_ids members.devices)) broken.0.1 id known broken.0.4)
not_both members (SameDeviceTwice part id) kept broken = same_device members part id kept broken
not_both members NotJson kept broken = broken
not_both members (Field member) kept broken = broken
not_both members NoMemory kept broken = broken

unbroken : (members : RingMembers) (found : Option RingFault) → ring_fault members ≡ found → KeepRules members → found ≡ None
unbroken members None is kept = refl
unbroken members (Some fault) is kept = absurd (not_both members fault kept (witness members fault is))

pub no_fault : (members : RingMembers) → KeepRules members → ring_fault members ≡ None
no_fault members kept = unbroken members (ring_fault members) refl kept
