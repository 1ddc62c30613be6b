use Rattle.std.proofs.Common.{◌≡◌, ◌++◌, ◌+◌, ◌∷◌, List, ap, arith, drop, get_or, length, map, subst, take, ◌∙◌}
use Rattle.std.specs.List.{AllZip}
use Rattle.std.proofs.lemmas.List.{length-take-le, nil_from_length, take_all, take_more}
use Rattle.std.proofs.lemmas.Slice.Zip.{AllZip-long}
use Rattle.sw_disk.specs.Runs.{IfTold}
use Rattle.sw_ring.specs.declared.device.Device.{Device}
use Rattle.sw_objsrv.specs.Node.{NodeModel}
use Rattle.sw_law_replayed.specs.Keeping.{IsEmptyFor}
use Rattle.sw_cell.specs.Mounting.{HasBegun}
use Rattle.sw_cell.proofs.Takings.{AreTaken, around, disk_left, fails_at, has_begun, have_begun, have_mounted, is_member, of_next, one_further, so_many}
use Rattle.sw_cell.proofs.mounting.mount_all.Goals as goal

abbrev nowhere : Device
nowhere = record { id = 0; capacity = 0 }

pub mount-requires : goal.mount-requires
mount-requires g c = is_member c.args.cluster.now c.devices-device-items.result.now c.each.device-index nowhere c.devices-device-items.ensures.listed c.each-test.true

pub unwrap-requires : goal.unwrap-requires
unwrap-requires g c =
    let many = so_many g.D.Disk.seen g.D.Disk.left_since c.args.cluster.now _ _ c.each.nodes.items c.each.left.items c.each.invariant.taken in
    let long = length-take-le c.each.device-index c.devices-device-items.result.now (omega arith) in
    c.push.ensures.succeeds (omega (arith, many.0, long, c.each.invariant.room, c.each.nodes.ok, c.each-test.true))

pub unmount_all-requires : goal.unmount_all-requires
unmount_all-requires g c =
    let many = so_many g.D.Disk.seen g.D.Disk.left_since c.args.cluster.now _ _ c.each.nodes.items c.each.left.items c.each.invariant.taken in
    let pushed = rw c.unwrap-in-Err-default-Failed.ensures at c.push_front.ensures.len in
    record { room = omega (arith, many.1, pushed, c.push_front.new.self.ok, c.in-Some.ensures.cases, c.each.left.ok, c.each.invariant.room_left, c.pop_front.ensures.capacity, c.push_front.ensures.capacity) }

pub returns-in_default-pop_front-clause-nodes : goal.returns-in_default-pop_front-clause-nodes
returns-in_default-pop_front-clause-nodes g c =
    let each = AllZip-long _ c.args.cluster.now.devices c.args.disks.items c.requires.empty in
    let listed = ap length c.devices-device-items.ensures.listed in
    absurd (disk_left g.D.Disk.seen g.D.Disk.left_since c.args.cluster.now c.devices-device-items.result.now c.each.device-index c.args.disks.items c.each.nodes.items c.each.left.items c.each.invariant.taken c.each-test.true
    (omega (arith, each, listed)) (omega (arith, c.each.left.ok, c.in_default-pop_front.ensures.cases)))

pub returns-in_default-pop_front-clause-mounted : goal.returns-in_default-pop_front-clause-mounted
returns-in_default-pop_front-clause-mounted g c =
    let each = AllZip-long _ c.args.cluster.now.devices c.args.disks.items c.requires.empty in
    let listed = ap length c.devices-device-items.ensures.listed in
    absurd (disk_left g.D.Disk.seen g.D.Disk.left_since c.args.cluster.now c.devices-device-items.result.now c.each.device-index c.args.disks.items c.each.nodes.items c.each.left.items c.each.invariant.taken c.each-test.true
    (omega (arith, each, listed)) (omega (arith, c.each.left.ok, c.in_default-pop_front.ensures.cases)))

pub returns-in-Err-default-Failed-clause-refused : goal.returns-in-Err-default-Failed-clause-refused
returns-in-Err-default-Failed-clause-refused g c =
    let items = c.devices-device-items.result.now in
    let slot = c.each.device-index in
    let device = get_or items slot nowhere in
    let taken : AreTaken g.D.Disk.seen g.D.Disk.left_since c.args.cluster.now (take slot items) c.args.disks.items c.each.nodes.items (c.in-Some.disk ∷ c.pop_front.new.self.items) = rw (← c.in-Some.ensures.items) c.each.invariant.taken in
    let back : c.into.result.items ≡ map (λ (node : NodeModel g.row.D.Denot). node.disk) c.each.nodes.items ++ c.in-Err-default-Failed.disk ∷ c.pop_front.new.self.items =
    c.into.ensures.0 ∙ c.unmount_all.ensures
    ∙ ap (λ (left : List g.row.D.Denot). map (λ (node : NodeModel g.row.D.Denot). node.disk) c.each.nodes.items ++ left) (rw c.unwrap-in-Err-default-Failed.ensures at c.push_front.ensures.items) in
    rw back (rw (around c.args.cluster.now.devices items slot nowhere c.devices-device-items.ensures.listed c.each-test.true)
    (fails_at g.D.Disk.seen g.D.Disk.left_since c.args.cluster.now (take slot items) c.args.disks.items c.each.nodes.items c.in-Some.disk c.in-Err-default-Failed.disk c.pop_front.new.self.items device (drop (slot + 1) items) taken
    (rw (← c.in-Err-default-Failed.field-0-1-is) c.in-Err-default-Failed.ensures.refused)))

pub each-preserved : goal.each-preserved
each-preserved g c =
    let items = c.devices-device-items.result.now in
    let slot = c.each.device-index in
    let device = get_or items slot nowhere in
    let node = c.in-Ok-mount.node in
    let disk = c.in-Some.disk in
    let left = c.pop_front.new.self.items in
    let split = around c.args.cluster.now.devices items slot nowhere c.devices-device-items.ensures.listed c.each-test.true in
    let taken : AreTaken g.D.Disk.seen g.D.Disk.left_since c.args.cluster.now (take slot items) c.args.disks.items c.each.nodes.items (disk ∷ left) = rw (← c.in-Some.ensures.items) c.each.invariant.taken in
    let IsFor = λ (device : Device) (disk : g.row.D.Denot). IfTold (g.D.Disk.seen disk).told (IsEmptyFor c.args.cluster.now device.id) in
    let empty = of_next g.D.Disk.seen g.D.Disk.left_since c.args.cluster.now IsFor (take slot items) c.args.disks.items c.each.nodes.items disk left device (drop (slot + 1) items) taken
    (subst (λ (devices : List Device). AllZip IsFor devices c.args.disks.items) split c.requires.empty) in
    let begun = has_begun g.D.Disk.seen g.D.Disk.left_since c.args.cluster.now device disk node empty c.in-Ok-mount.ensures.node c.in-Ok-mount.ensures.device.0 c.in-Ok-mount.ensures.device.1 c.in-Ok-mount.ensures.mounted in
    record {
      taken = rw (rw c.unwrap.ensures at c.push.ensures.items) (rw (take_more items slot nowhere c.each-test.true)
          (one_further g.D.Disk.seen g.D.Disk.left_since c.args.cluster.now (take slot items) c.args.disks.items c.each.nodes.items disk left device node taken begun c.in-Ok-mount.ensures.mounted));
      room = omega (arith, c.push.ensures.capacity, c.each.invariant.room);
      room_left = omega (arith, c.pop_front.ensures.capacity, c.each.invariant.room_left);
    }

pub returns-clause-nodes : goal.returns-clause-nodes
returns-clause-nodes g c =
    subst (λ (devices : List Device). AllZip (HasBegun g.D.Disk.seen c.args.cluster.now) devices c.each.nodes.items)
    (take_all c.each.device-index c.devices-device-items.result.now (omega (arith, c.each-test.false)) ∙ c.devices-device-items.ensures.listed)
    (have_begun g.D.Disk.seen g.D.Disk.left_since c.args.cluster.now _ _ _ _ c.each.invariant.taken)

pub returns-clause-mounted : goal.returns-clause-mounted
returns-clause-mounted g c =
    let taken : AreTaken g.D.Disk.seen g.D.Disk.left_since c.args.cluster.now c.args.cluster.now.devices c.args.disks.items c.each.nodes.items c.each.left.items =
    subst (λ (devices : List Device). AreTaken g.D.Disk.seen g.D.Disk.left_since c.args.cluster.now devices c.args.disks.items c.each.nodes.items c.each.left.items)
    (take_all c.each.device-index c.devices-device-items.result.now (omega (arith, c.each-test.false)) ∙ c.devices-device-items.ensures.listed) c.each.invariant.taken in
    let many = so_many g.D.Disk.seen g.D.Disk.left_since c.args.cluster.now _ _ c.each.nodes.items c.each.left.items taken in
    let each = AllZip-long _ c.args.cluster.now.devices c.args.disks.items c.requires.empty in
    have_mounted g.D.Disk.seen g.D.Disk.left_since c.args.cluster.now _ _ _ c.each.left.items (nil_from_length c.each.left.items (omega (arith, many.0, many.1, each))) taken
