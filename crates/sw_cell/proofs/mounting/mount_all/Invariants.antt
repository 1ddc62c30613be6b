use Rattle.std.proofs.Common.{◌≤◌, length, take, vec_capacity}
use Rattle.std.specs.VecDeque.{deque_capacity}
use Rattle.sw_cell.proofs.Takings.{AreTaken}
use Rattle.sw_cell.proofs.mounting.mount_all.Given as goal

abbrev pub invariant-each : goal.invariant-each
invariant-each g l = record {
  taken : AreTaken g.D.Disk.seen g.D.Disk.left_since l.cluster (take l.device-index l.device-items) l.fn.disks.items l.nodes.items l.left.items;
  room : length l.device-items ≤ vec_capacity l.nodes;
  room_left : length l.fn.disks.items ≤ deque_capacity l.left;
}
