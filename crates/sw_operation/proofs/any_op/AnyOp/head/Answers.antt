use Rattle.sw_operation.specs.Operating.{Head}
use Rattle.sw_operation.specs.declared.any_op.AnyOp.TheVariants as any
use Rattle.sw_operation.proofs.Fresh.{fresh}
use Rattle.sw_operation.proofs.any_op.AnyOp.head.Goals as goal

pub returns-clause-running : goal.returns-clause-running
returns-clause-running c = fresh (any.Head c.in_ok-op.op) (Head (record { cluster = c.args.cluster.now; name = c.args.name.now })) c.in_ok-op.ensures
