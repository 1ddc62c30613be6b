use Rattle.std.specs.Vec.Iter.{into_iter_items}
use Rattle.sw_server.proofs.HandingBack.{AreLeft}
use Rattle.sw_server.proofs.shelving.put_back_each.Given as goal

abbrev pub invariant-each : goal.invariant-each
invariant-each g l = record {
  can : (goal.iterator-each g).can_next l.device-iterator;
  finite : (goal.iterator-each g).is_finite l.device-iterator;
  are : AreLeft g.F.Disk.Disk.seen l.fn.disks.items (into_iter_items l.device-iterator) (g.F.Shelf.out l.shelf) (g.F.Shelf.returned l.shelf) (g.F.Shelf.faults l.shelf) (g.F.Shelf.returned l.fn.shelf) (g.F.Shelf.faults l.fn.shelf);
}
