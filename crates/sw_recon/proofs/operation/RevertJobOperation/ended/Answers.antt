-- A revert that has ended is over.
use Rattle.std.proofs.Common.{ap}
use Rattle.sw_recon.specs.Inside.{revert_seen}
use Rattle.sw_recon.specs.Standing.{ends}
use Rattle.sw_recon.proofs.Changes.{by_fields, is_over}
use Rattle.sw_recon.proofs.operation.RevertJobOperation.ended.Goals as goal

pub returns-in-Ends-clause-over : goal.returns-in-Ends-clause-over
returns-in-Ends-clause-over c = λ begun past stands over.
    is_over (revert_seen c.self.inside) begun past (by_fields c.self.inside c.args.self.now begun past c.self.view_is stands) (ap ends c.in-Ends.is)
