use Rattle.std.proofs.Common.{◌∙◌, ap, arith, length, length-drop, refl, subst, sym}
use Rattle.std.specs.List.{AllZip}
use Rattle.std.proofs.lemmas.Slice.Zip.{AllZip-long}
use Rattle.sw_cell.specs.Mounting.{HasBegun}
use Rattle.sw_cell.proofs.Seating.{is_next}
use Rattle.sw_cell.proofs.cells.lock_all.Goals as goal

pub loop-node-init : goal.loop-node-init
loop-node-init g c =
    let long = AllZip-long _ g.C.OfCluster.cluster.devices c.args.nodes.items c.requires.begun in
    record {
      begun = subst (AllZip (HasBegun g.D.Disk.seen g.C.OfCluster.cluster) g.C.OfCluster.cluster.devices) (sym c.into_iter-node-iterator.ensures.into_iter_gives.0) c.requires.begun;
      locked = ap length c.in_ok-locks.ensures.items;
      inside = omega arith;
      room = omega (arith, long, c.len.ensures, c.args.nodes.ok, c.in_ok-locks.ensures.capacity);
      pass = refl;
    }

pub lock-requires-clause-begun : goal.lock-requires-clause-begun
lock-requires-clause-begun g c = let next = is_next g.D.Disk.seen g.C.OfCluster.cluster c.loop-node.slot _ c.in-Some.node _ c.in-Some.ensures.steps.0 c.loop-node.invariant.begun in (next.device, next.begun)

pub lock-requires-clause-slot : goal.lock-requires-clause-slot
lock-requires-clause-slot g c = (is_next g.D.Disk.seen g.C.OfCluster.cluster c.loop-node.slot _ c.in-Some.node _ c.in-Some.ensures.steps.0 c.loop-node.invariant.begun).at

pub unwrap-requires : goal.unwrap-requires
unwrap-requires g c =
    let next = is_next g.D.Disk.seen g.C.OfCluster.cluster c.loop-node.slot _ c.in-Some.node _ c.in-Some.ensures.steps.0 c.loop-node.invariant.begun in
    c.push.ensures.succeeds (omega (arith, next.inside, c.loop-node.invariant.locked, c.loop-node.invariant.room, c.loop-node.locks.ok))

pub loop-node-preserved : goal.loop-node-preserved
loop-node-preserved g c =
    let next = is_next g.D.Disk.seen g.C.OfCluster.cluster c.loop-node.slot _ c.in-Some.node _ c.in-Some.ensures.steps.0 c.loop-node.invariant.begun in
    let pushed = rw c.unwrap.ensures at c.push.ensures.len in
    record {
      begun = next.behind;
      locked = omega (arith, pushed, c.loop-node.invariant.locked, c.loop-node.locks.ok, c.push.new.self.ok);
      inside = omega (arith, next.inside);
      room = omega (arith, c.push.ensures.capacity, c.loop-node.invariant.room);
      pass = c.lock.ensures.pass ∙ c.loop-node.invariant.pass;
    }

pub returns-clause-locks : goal.returns-clause-locks
returns-clause-locks g c =
    let long = AllZip-long _ _ c.loop-node.node-iterator.rest.items c.loop-node.invariant.begun in
    let none = c.in-None.ensures.steps in
    omega (arith, long, length-drop c.loop-node.slot g.C.OfCluster.cluster.devices, none, c.loop-node.node-iterator.rest.ok, c.loop-node.invariant.locked, c.loop-node.invariant.inside)
