use Rattle.std.proofs.Common.{take}
use Rattle.std.specs.List.{AllZip}
use Rattle.sw_disk.specs.Runs.{IfTold}
use Rattle.sw_memdisk.specs.Memory.{MemDiskModel, seen_of}
use Rattle.sw_ring.specs.declared.device.Device.{Device}
use Rattle.sw_law_replayed.specs.Keeping.{IsEmptyFor}
use Rattle.sw_serve.proofs.over_cells.new_disks.Given as goal

abbrev pub invariant-each : goal.invariant-each
invariant-each l = record { so_far : AllZip (λ (device : Device) (disk : MemDiskModel). IfTold (seen_of disk).told (IsEmptyFor l.cluster device.id)) (take l.device-index l.device-items) l.disks.items }
