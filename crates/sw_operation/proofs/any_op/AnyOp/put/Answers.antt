use Rattle.sw_operation.specs.Operating.{Put}
use Rattle.sw_operation.specs.declared.any_op.AnyOp.TheVariants as any
use Rattle.sw_operation.proofs.Fresh.{fresh}
use Rattle.sw_operation.proofs.any_op.AnyOp.put.Goals as goal

pub returns-clause-running : goal.returns-clause-running
returns-clause-running c = fresh (any.Put c.in_ok-op.op) (Put (record { cluster = c.args.cluster.now; stamp = c.args.stamp; name = c.args.name.now; object = c.args.object.now })) c.in_ok-op.ensures
