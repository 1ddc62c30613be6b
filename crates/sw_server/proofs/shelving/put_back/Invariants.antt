use Rattle.std.proofs.Common.{◌≤◌, drop, length}
use Rattle.sw_server.specs.Shelving.{with_devices}
use Rattle.sw_server.proofs.HandingBack.{AreLeft}
use Rattle.sw_server.proofs.shelving.put_back.Given as goal

abbrev pub invariant-each : goal.invariant-each
invariant-each g l = record {
  few : length l.left.items ≤ length (drop l.device-index l.devices);
  are : AreLeft g.F.Disk.Disk.seen (with_devices l.fn.devices l.fn.disks.items) (with_devices (drop l.device-index l.devices) l.left.items) (g.F.Shelf.out l.shelf) (g.F.Shelf.returned l.shelf) (g.F.Shelf.faults l.shelf) (g.F.Shelf.returned l.fn.shelf) (g.F.Shelf.faults l.fn.shelf);
}
