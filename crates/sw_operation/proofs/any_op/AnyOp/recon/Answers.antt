use Rattle.sw_operation.specs.Operating.{Sync}
use Rattle.sw_operation.specs.declared.any_op.AnyOp.TheVariants as any
use Rattle.sw_operation.proofs.Fresh.{fresh}
use Rattle.sw_operation.proofs.any_op.AnyOp.recon.Goals as goal

pub returns-in_ok-job-clause-running : goal.returns-in_ok-job-clause-running
returns-in_ok-job-clause-running c = fresh (any.Sync c.in_ok-job.job) (Sync (record { cluster = c.args.cluster.now; device = c.args.device; place = c.in_ok-place.place })) c.in_ok-job.ensures
