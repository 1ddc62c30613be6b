-- A sync that is over has read every answer.
use Rattle.std.proofs.Common.{ap, sym, subst, ◌∙◌}
use Rattle.sw_sync.specs.Inside.{sync_seen}
use Rattle.sw_sync.specs.Standing.{Stands, SyncModel, has_ended}
use Rattle.sw_sync.proofs.Changes.{ended_so, some_ends}
use Rattle.sw_sync.proofs.Results.{of_some}
use Rattle.sw_sync.proofs.sync.SyncJob.into_end.Goals as goal

pub returns-clause-end : goal.returns-clause-end
returns-clause-end c = λ begun past stands.
    of_some c.into_end.result _ (λ end. ended_so (sync_seen c.self.inside) begun past (subst (λ (job : SyncModel). Stands job begun past) (sym c.self.view_is) stands) end) c.into_end.ensures

pub returns-clause-ended : goal.returns-clause-ended
returns-clause-ended c = some_ends (λ end. end) c.self.inside.state.stage c.into_end.result c.into_end.ensures ∙ ap has_ended c.self.view_is
