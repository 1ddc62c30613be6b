-- A pass that has handed out nothing stands for the empty transcript.
use Rattle.std.proofs.Common.{[]}
use Rattle.sw_daemon.specs.Pass.{Begun}
use Rattle.sw_daemon.proofs.Passes.{stands_begun}
use Rattle.sw_daemon.proofs.pass_op.PassOp.begin.Goals as goal

pub invariant_of-result : goal.invariant_of-result
invariant_of-result c =
    let begun : Begun = record { cluster = c.args.cluster.now; device = c.args.device } in
    (begun, [], stands_begun begun c.new.result (record { rules = c.part_power.ensures.rules; member = c.requires }) c.new.ensures.course (c.new.ensures.sound c.args.cluster.now))

pub returns : goal.returns
returns c =
    stands_begun (record { cluster = c.args.cluster.now; device = c.args.device }) c.new.result (record { rules = c.part_power.ensures.rules; member = c.requires }) c.new.ensures.course
    (c.new.ensures.sound c.args.cluster.now)
