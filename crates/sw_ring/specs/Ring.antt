-- The first rule that is broken, of a ring's rules beyond those of each member.
use Rattle.std.specs.Prelude.{ℕ, ◌+◌, ◌^◌, ◌==◌, Bool, false, if◌then◌else◌, nat_lt, List, [], ◌∷◌, length, slice_get, Option, Some, None, option_map}
use Rattle.std.specs.List.{list_any}
use Rattle.std.specs.Option.{option_or}
use Rattle.sw_types.specs.Policy.{policy_fault}
use Rattle.sw_ring.specs.declared.fault.RingFault.{RingFault}
use Rattle.sw_ring.specs.declared.fault.RingFault.TheVariants.{PartPower, Policy, TooManyDevices, DuplicateDevice, RowCount, RowLength, UnknownDevice, SameDeviceTwice}
use Rattle.sw_ring.specs.Members.{RingMembers}
use Rattle.sw_ring.specs.Rules.{device_ids, greatest_devices, greatest_part_power}

abbrev pub is_among : List ℕ → ℕ → Bool
is_among ids id = list_any (λ other. other == id) ids

-- the first id that an earlier device has
abbrev pub duplicate_after : List ℕ → List ℕ → Option ℕ
duplicate_after earlier [] = None
duplicate_after earlier (id ∷ ids) = if is_among earlier id then Some id else duplicate_after (id ∷ earlier) ids

-- the first row, from this number on, that hasn't a device for each of so many partitions
abbrev pub odd_row : ℕ → ℕ → List (List ℕ) → Option ℕ
odd_row number parts [] = None
odd_row number parts (row ∷ rows) = if length row == parts then odd_row (number + 1) parts rows else Some number

-- the first id of a row that no device has
abbrev pub unknown_in : List ℕ → List ℕ → Option ℕ
unknown_in known [] = None
unknown_in known (id ∷ ids) = if is_among known id then unknown_in known ids else Some id

-- the first id, row after row, that no device has
abbrev pub unknown_device : List ℕ → List (List ℕ) → Option ℕ
unknown_device known [] = None
unknown_device known (row ∷ rows) = option_or (unknown_in known row) (unknown_device known rows)

-- a partition, and a device that two rows have there
pub record Twice : Type 0 where
  pub part : ℕ
  pub id : ℕ

abbrev pub option_is : Option ℕ → ℕ → Bool
option_is None id = false
option_is (Some other) id = other == id

-- whether one of these rows has this device at a partition
abbrev pub has_at : ℕ → ℕ → List (List ℕ) → Bool
has_at part id rows = list_any (λ row. option_is (slice_get row part) id) rows

-- the first partition of a row, from this one on, whose device an earlier row has there
abbrev pub twice_in : ℕ → List (List ℕ) → List ℕ → Option Twice
twice_in part earlier [] = None
twice_in part earlier (id ∷ ids) = if has_at part id earlier then Some (record { part = part; id = id }) else twice_in (part + 1) earlier ids

-- the first device, row after row, that an earlier row has in the same partition
abbrev pub twice_after : List (List ℕ) → List (List ℕ) → Option Twice
twice_after earlier [] = None
twice_after earlier (row ∷ rows) = option_or (twice_in 0 earlier row) (twice_after (row ∷ earlier) rows)

-- the first rule that the rows break, for devices of these ids
unfoldable pub rows_fault : List ℕ → ℕ → ℕ → List (List ℕ) → Option RingFault
rows_fault ids total parts rows =
    option_or (if length rows == total then None else Some (RowCount (length rows)))
    (option_or (option_map RowLength (odd_row 0 parts rows))
    (option_or (option_map UnknownDevice (unknown_device ids rows)) (option_map (λ twice. SameDeviceTwice twice.part twice.id) (twice_after [] rows))))

-- the first rule that the members break
unfoldable pub ring_fault : RingMembers → Option RingFault
ring_fault members =
    let ids = device_ids members.devices in
    option_or (if nat_lt greatest_part_power members.part_power then Some (PartPower members.part_power) else None)
    (option_or (option_map Policy (policy_fault members.policy))
    (option_or (if nat_lt greatest_devices (length members.devices) then Some (TooManyDevices (length members.devices)) else None)
    (option_or (option_map DuplicateDevice (duplicate_after [] ids)) (rows_fault ids (members.policy.k + members.policy.m) (2 ^ members.part_power) members.rows))))
