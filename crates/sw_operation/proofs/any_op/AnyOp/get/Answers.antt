use Rattle.sw_operation.specs.Operating.{Get}
use Rattle.sw_operation.specs.declared.any_op.AnyOp.TheVariants as any
use Rattle.sw_operation.proofs.Fresh.{fresh}
use Rattle.sw_operation.proofs.any_op.AnyOp.get.Goals as goal

pub returns-clause-running : goal.returns-clause-running
returns-clause-running c = fresh (any.Get c.in_ok-op.op) (Get (record { cluster = c.args.cluster.now; name = c.args.name.now })) c.in_ok-op.ensures
