-- The rules of a ring, as plain facts of what its members say; and what it is to break one.
use Rattle.std.specs.Prelude.{◌≡◌, ◌≢◌, ℕ, ◌+◌, ◌^◌, ◌<◌, ◌≤◌, List, length, map, slice_get, slice_index, Some, None, IsSomeAnd}
use Rattle.std.specs.List.{All, AllPairs, Any, Contains}
use Rattle.sw_types.specs.Policy.{policy_fault}
use Rattle.sw_ring.specs.declared.device.Device.{Device}
use Rattle.sw_ring.specs.declared.fault.RingFault.{RingFault}
use Rattle.sw_ring.specs.declared.fault.RingFault.TheVariants.{NotJson, Field, PartPower, Policy, TooManyDevices, DuplicateDevice, RowCount, RowLength, UnknownDevice, SameDeviceTwice, NoMemory}
use Rattle.sw_ring.specs.Members.{RingMembers}

-- there are at most 2^16 partitions, and 64 devices
abbrev pub greatest_part_power : ℕ
greatest_part_power = 16

abbrev pub greatest_devices : ℕ
greatest_devices = 64

abbrev pub device_ids : List Device → List ℕ
device_ids devices = map (λ device. device.id) devices

-- the devices of a partition, row by row
abbrev pub column_at : ℕ → List (List ℕ) → List ℕ
column_at part rows = map (λ row. slice_index row part) rows

-- Members that keep each rule: the policy keeps its bounds, there are at most 64 devices, each once, and each partition has
-- one of them for each fragment, no two the same.
pub record KeepRules (members : RingMembers) : Type 0 where
  pub part_power : members.part_power ≤ greatest_part_power
  pub policy : policy_fault members.policy ≡ None
  pub few : length members.devices ≤ greatest_devices
  pub once : AllPairs (λ one other. one ≢ other) (device_ids members.devices)
  pub rows : length members.rows ≡ members.policy.k + members.policy.m
  pub lengths : All (λ row. length row ≡ 2 ^ members.part_power) members.rows
  pub known : All (All (Contains (device_ids members.devices))) members.rows
  pub apart : (part : ℕ) → part < 2 ^ members.part_power → AllPairs (λ one other. one ≢ other) (column_at part members.rows)

-- two items, at different positions of a list, are so
pub record HoldsTwice {A : Type 0} (P : A → Type 0) (items : List A) : Type 0 where
  pub first : ℕ
  pub second : ℕ
  pub before : first < second
  pub of_first : IsSomeAnd (slice_get items first) P
  pub of_second : IsSomeAnd (slice_get items second) P

-- the members break the rule of a fault, by what the fault names
abbrev pub IsBroken : RingMembers → RingFault → Type 0
IsBroken members (PartPower power) = (members.part_power ≡ power) × (greatest_part_power < power)
IsBroken members (Policy fault) = policy_fault members.policy ≡ Some fault
IsBroken members (TooManyDevices count) = (length members.devices ≡ count) × (greatest_devices < count)
IsBroken members (DuplicateDevice id) = HoldsTwice (λ (other : ℕ). other ≡ id) (device_ids members.devices)
IsBroken members (RowCount count) = (length members.rows ≡ count) × (count ≢ members.policy.k + members.policy.m)
IsBroken members (RowLength number) = IsSomeAnd (slice_get members.rows number) (λ row. length row ≢ 2 ^ members.part_power)
IsBroken members (UnknownDevice id) = Any (λ row. Contains row id) members.rows × (¬ Contains (device_ids members.devices) id)
IsBroken members (SameDeviceTwice part id) = HoldsTwice (λ (row : List ℕ). slice_get row part ≡ Some id) members.rows
IsBroken members NotJson = ⊥
IsBroken members (Field member) = ⊥
IsBroken members NoMemory = ⊥
