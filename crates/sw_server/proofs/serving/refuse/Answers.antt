use Rattle.std.proofs.Common.{◌≡◌, ℕ, List, Vec, Global, inr, length, sym, ap, subst, arith, ◌∙◌}
use Rattle.sw_ring.specs.declared.device.Device.{Device}
use Rattle.sw_shelf.specs.Shelf.{with_all}
use Rattle.sw_cell.specs.Mounting.{FailsAt, IsRefusal}
use Rattle.sw_cell.specs.declared.mounting.CellsFault.{CellsFault}
use Rattle.sw_cell.specs.declared.mounting.CellsFault.TheVariants.{Mount}
use Rattle.sw_server.specs.Shelving.{AreHanded, with_devices, with_faults}
use Rattle.sw_server.proofs.HandingOut.{as_many}
use Rattle.sw_server.proofs.Refusing.{fails_long, fails_once, of_all}
use Rattle.sw_server.proofs.serving.refuse.Given.{Over}
use Rattle.sw_server.proofs.serving.refuse.Goals as goal

-- what was handed out, and that the disk of one device could not be mounted
abbrev Fails : (g : Over) → (device : ℕ) → (back : List g.row.F-Disk.Denot) → Type 0
Fails g device back = (given : List g.row.F-Disk.Denot) × AreHanded g.F.Disk.Disk.seen g.F.Shelf.hands g.C.OfCluster.cluster.devices given × FailsAt g.F.Disk.Disk.seen g.F.Disk.Disk.left_since g.C.OfCluster.cluster device g.C.OfCluster.cluster.devices given back

as_long : (g : Over) (device : ℕ) (back : List g.row.F-Disk.Denot) → Fails g device back → length back ≡ length g.C.OfCluster.cluster.devices
as_long g device back fails = fails_long g.F.Disk.Disk.seen g.F.Disk.Disk.left_since g.F.Shelf.hands g.C.OfCluster.cluster device g.C.OfCluster.cluster.devices fails.0 back fails.2 ∙ as_many g.F.Disk.Disk.seen g.F.Shelf.hands g.C.OfCluster.cluster.devices fails.0 fails.1

-- so it is where the fault is that one
fails_so : (g : Over) (fault : CellsFault g.row.F-Disk.Denot) (device : ℕ) (disks : Vec g.row.F-Disk.Denot Global) → fault ≡ Mount device disks
    → ((given : List g.row.F-Disk.Denot) × AreHanded g.F.Disk.Disk.seen g.F.Shelf.hands g.C.OfCluster.cluster.devices given × IsRefusal g.F.Disk.Disk.seen g.F.Disk.Disk.left_since g.C.OfCluster.cluster given fault) → Fails g device disks.items
fails_so g fault device disks is (given, handed, refused) = (given, handed, subst (IsRefusal g.F.Disk.Disk.seen g.F.Disk.Disk.left_since g.C.OfCluster.cluster given) is refused)

pub put_back-requires-clause-few : goal.put_back-requires-clause-few
put_back-requires-clause-few g c κs within =
    let long = as_long g c.in-Mount.device c.in-Mount.disks.items (fails_so g c.args.fault c.in-Mount.device c.in-Mount.disks c.in-Mount.is c.requires.refused) in
    let same = ap (length {A = Device}) c.requires.devices in
    omega (arith, long, same)

pub put_back-requires-clause-out : goal.put_back-requires-clause-out
put_back-requires-clause-out g c κs within = c.requires.out ∙ sym (as_long g c.in-Mount.device c.in-Mount.disks.items (fails_so g c.args.fault c.in-Mount.device c.in-Mount.disks c.in-Mount.is c.requires.refused))

pub returns-in-Mount-clause-came_back : goal.returns-in-Mount-clause-came_back
returns-in-Mount-clause-came_back g c = λ other.
    let fails = fails_so g c.args.fault c.in-Mount.device c.in-Mount.disks c.in-Mount.is c.requires.refused in
    record {
      given = fails.0;
      handed = of_all g.F.Disk.Disk.seen g.F.Shelf.hands g.C.OfCluster.cluster.devices fails.0 fails.1;
      back = c.in-Mount.disks.items;
      how = inr (c.in-Mount.device, fails.2);
      returned = c.put_back.ensures.back ∙ ap (λ (devices : List Device). with_all (g.F.Shelf.returned c.args.shelf.now) (with_devices devices c.in-Mount.disks.items)) c.requires.devices;
      none_out = c.put_back.ensures.out;
    }

pub returns-in-Mount-clause-faults : goal.returns-in-Mount-clause-faults
returns-in-Mount-clause-faults g c =
    let fails = fails_so g c.args.fault c.in-Mount.device c.in-Mount.disks c.in-Mount.is c.requires.refused in
    c.put_back.ensures.faults ∙ ap (λ (devices : List Device). with_faults g.F.Disk.Disk.seen (g.F.Shelf.faults c.args.shelf.now) (with_devices devices c.in-Mount.disks.items)) c.requires.devices
    ∙ fails_once g.F.Disk.Disk.seen g.F.Disk.Disk.left_since g.F.Shelf.hands g.C.OfCluster.cluster c.in-Mount.device (g.F.Shelf.faults c.args.shelf.now) g.C.OfCluster.cluster.devices fails.0 c.in-Mount.disks.items fails.1 fails.2
