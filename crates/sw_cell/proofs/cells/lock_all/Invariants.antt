use Rattle.std.proofs.Common.{◌≡◌, ◌≤◌, drop, length, vec_capacity}
use Rattle.std.specs.List.{AllZip}
use Rattle.sw_cell.specs.Mounting.{HasBegun}
use Rattle.sw_cell.proofs.cells.lock_all.Given as goal

abbrev pub invariant-loop-node : goal.invariant-loop-node
invariant-loop-node g l = record {
  begun : AllZip (HasBegun g.D.Disk.seen g.C.OfCluster.cluster) (drop l.slot g.C.OfCluster.cluster.devices) l.node-iterator.rest.items;
  locked : length l.locks.items ≡ l.slot;
  inside : l.slot ≤ length g.C.OfCluster.cluster.devices;
  room : length g.C.OfCluster.cluster.devices ≤ vec_capacity l.locks;
  pass : l.pass ≡ l.fn.pass;
}
