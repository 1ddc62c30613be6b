-- The faults of a ring's text, numbered.
use Rattle.std.specs.Prelude.{ℕ}
use Rattle.sw_ring.specs.declared.fault.RingFault.{RingFault}
use Rattle.sw_ring.specs.declared.fault.RingFault.TheVariants.{NotJson, Field, PartPower, Policy, TooManyDevices, DuplicateDevice, RowCount, RowLength, UnknownDevice, SameDeviceTwice, NoMemory}

abbrev pub ring_fault_number : RingFault → ℕ
ring_fault_number NoMemory = 0
ring_fault_number NotJson = 1
ring_fault_number (Field member) = 2
ring_fault_number (Policy fault) = 3
ring_fault_number (RowCount count) = 4
ring_fault_number (RowLength row) = 5
ring_fault_number (UnknownDevice id) = 6
ring_fault_number (SameDeviceTwice part id) = 7
ring_fault_number (PartPower power) = 8
ring_fault_number (TooManyDevices count) = 9
ring_fault_number (DuplicateDevice id) = 10
