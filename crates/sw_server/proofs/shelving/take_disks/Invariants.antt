use Rattle.std.proofs.Common.{◌≡◌, ◌≤◌, length, take, vec_capacity}
use Rattle.sw_server.specs.Shelving.{AreHanded}
use Rattle.sw_server.proofs.shelving.take_disks.Given as goal

abbrev pub invariant-each : goal.invariant-each
invariant-each g l = record {
  handed : AreHanded g.F.Disk.Disk.seen g.F.Shelf.hands (take l.device-index l.device-items) l.disks.items;
  out : g.F.Shelf.out l.shelf ≡ l.device-index;
  returned : g.F.Shelf.returned l.shelf ≡ g.F.Shelf.returned l.fn.shelf;
  faults : g.F.Shelf.faults l.shelf ≡ g.F.Shelf.faults l.fn.shelf;
  room : length l.device-items ≤ vec_capacity l.disks;
}
