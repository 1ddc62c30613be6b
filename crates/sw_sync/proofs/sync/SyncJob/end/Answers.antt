-- A sync that is over has read every answer.
use Rattle.std.proofs.Common.{Bor, ap, sym, subst, ◌∙◌}
use Rattle.sw_sync.specs.Inside.{sync_seen}
use Rattle.sw_sync.specs.Standing.{Stands, SyncModel, has_ended}
use Rattle.sw_sync.specs.declared.sync_end.SyncEnd.{SyncEnd}
use Rattle.sw_sync.proofs.Changes.{ended_so, some_ends}
use Rattle.sw_sync.proofs.Results.{of_some}
use Rattle.sw_sync.proofs.sync.SyncJob.end.Goals as goal

pub returns-clause-end : goal.returns-clause-end
returns-clause-end c = λ begun past stands.
    of_some c.end.result _ (λ end. ended_so (sync_seen c.self.inside) begun past (subst (λ (job : SyncModel). Stands job begun past) (sym c.self.view_is) stands) end.now) c.end.ensures

pub returns-clause-ended : goal.returns-clause-ended
returns-clause-ended c = some_ends (λ (end : Bor SyncEnd). end.now) c.self.inside.state.stage c.end.result c.end.ensures ∙ ap has_ended c.self.view_is
