-- A revert that has ended has read every answer.
use Rattle.sw_recon.specs.Inside.{revert_seen}
use Rattle.sw_recon.proofs.Changes.{by_fields, is_end}
use Rattle.sw_recon.proofs.revert.RevertJob.into_end.Goals as goal

pub returns-in-Ends-clause-end : goal.returns-in-Ends-clause-end
returns-in-Ends-clause-end c = λ begun past stands.
    is_end (revert_seen c.self.inside) begun past (by_fields c.self.inside _ begun past c.self.view_is stands) c.in-Ends.end c.in-Ends.is
