use Rattle.std.proofs.Common.{◌≡◌, ◌<◌, List, [], arith, drop, get_or, length, sym, ◌∙◌}
use Rattle.std.proofs.lemmas.List.{drop_more, length-drop, nil_from_length}
use Rattle.sw_ring.specs.declared.device.Device.{Device}
use Rattle.sw_server.specs.Shelving.{with_devices}
use Rattle.sw_server.proofs.HandingBack.{all_have_devices, all_left, none_left, none_of, one_goes_back, without_disks}
use Rattle.sw_server.proofs.shelving.put_back.Goals as goal

abbrev nowhere : Device
nowhere = record { id = 0; capacity = 0 }

pub each-init : goal.each-init
each-init g c = let same = c.from-left.ensures.0 in rw same (record {
  few = c.requires.few;
  are = all_left g.F.Disk.Disk.seen (with_devices c.args.devices.now c.args.disks.items) _ _ _ (c.requires.out ∙ sym (all_have_devices c.args.devices.now c.args.disks.items c.requires.few));
})

-- ---- where a disk is left

pub each-preserved : goal.each-preserved
each-preserved g c =
    let devices = c.args.devices.now in
    let slot = c.each.device-index in
    let within : slot < length devices = c.each-test.true in
    let device = get_or devices slot nowhere in
    let moved = rw (drop_more devices slot nowhere within, c.in-Some.ensures.items) at c.each.invariant in
    record {
      few = omega (arith, moved.few);
      are = rw (c.back.ensures.out, c.back.ensures.returned, c.back.ensures.faults) (one_goes_back g.F.Disk.Disk.seen (with_devices devices c.args.disks.items) device.id c.in-Some.disk _ _ _ _ _ _ moved.are);
    }

-- ---- where none is

pub returns-in_default : goal.returns-in_default
returns-in_default g c =
    let devices = drop c.each.device-index c.args.devices.now in
    let none : c.each.left.items ≡ [] = none_of c.each.left.items (◌∙◌ {A = List g.row.F-Disk.Denot} c.in_default.ensures.items c.in_default.ensures.rest) in
    let ended = none_left g.F.Disk.Disk.seen (with_devices c.args.devices.now c.args.disks.items) (with_devices devices c.each.left.items) _ _ _ _ _ (without_disks devices c.each.left.items none) c.each.invariant.are in
    record { out = ended.0; back = ended.1; faults = ended.2 }

-- ---- where no device is left

pub returns : goal.returns
returns g c =
    let devices = drop c.each.device-index c.args.devices.now in
    let none : c.each.left.items ≡ [] = nil_from_length c.each.left.items (omega (arith, c.each.invariant.few, length-drop c.each.device-index c.args.devices.now, c.each-test.false)) in
    let ended = none_left g.F.Disk.Disk.seen (with_devices c.args.devices.now c.args.disks.items) (with_devices devices c.each.left.items) _ _ _ _ _ (without_disks devices c.each.left.items none) c.each.invariant.are in
    record { out = ended.0; back = ended.1; faults = ended.2 }
