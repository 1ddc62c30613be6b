use Rattle.std.proofs.Common.{get_or, take}
use Rattle.std.proofs.lemmas.List.{take_more}
use Rattle.std.proofs.lemmas.Slice.Zip.{all_zipped_more}
use Rattle.sw_disk.specs.Runs.{IfTold}
use Rattle.sw_memdisk.specs.Memory.{MemDiskModel, seen_of}
use Rattle.sw_ring.specs.declared.device.Device.{Device}
use Rattle.sw_law_replayed.specs.Keeping.{IsEmptyFor}
use Rattle.sw_serve.proofs.over_cells.new_disks.Goals as goal

pub each-preserved : goal.each-preserved
each-preserved c =
    let items = c.devices-device-items.result.now in
    let slot = c.each.device-index in
    let nowhere : Device = record { id = 0; capacity = 0 } in
    let IsFor = λ (device : Device) (disk : MemDiskModel). IfTold (seen_of disk).told (IsEmptyFor c.args.cluster.now device.id) in
    record {
      so_far = rw (c.in_ok-push.ensures.items) (rw (take_more items slot nowhere c.each-test.true)
          (all_zipped_more IsFor (take slot items) c.each.disks.items (get_or items slot nowhere) c.empty_disk.result c.each.invariant.so_far (record { empty = c.empty_disk.ensures.empty; capacity = c.empty_disk.ensures.capacity })));
    }
