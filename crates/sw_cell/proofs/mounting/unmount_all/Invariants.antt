use Rattle.std.proofs.Common.{◌≡◌, ◌≤◌, ◌+◌, ◌++◌, length, map}
use Rattle.std.specs.VecDeque.{deque_capacity}
use Rattle.sw_objsrv.specs.Node.{NodeModel}
use Rattle.sw_cell.proofs.mounting.unmount_all.Given as goal

abbrev pub invariant-loop-node : goal.invariant-loop-node
invariant-loop-node g l = record {
  all : map (λ (node : NodeModel g.row.D.Denot). node.disk) l.node-iterator.iter.rest.items ++ l.left.items ≡ map (λ (node : NodeModel g.row.D.Denot). node.disk) l.fn.nodes.items ++ l.fn.left.items;
  room : length l.node-iterator.iter.rest.items + length l.left.items ≤ deque_capacity l.left;
}
