-- A sync that has ended is over.
use Rattle.std.proofs.Common.{Bor, ap, sym, subst, ◌∙◌}
use Rattle.sw_sync.specs.Inside.{sync_seen}
use Rattle.sw_sync.specs.Standing.{Stands, SyncModel, has_ended}
use Rattle.sw_sync.specs.declared.sync_end.SyncEnd.{SyncEnd}
use Rattle.sw_sync.proofs.Changes.{is_over, some_ends}
use Rattle.sw_sync.proofs.operation.SyncJobOperation.ended.Goals as goal

pub returns-clause-ended : goal.returns-clause-ended
returns-clause-ended c =
    c.is_some.ensures ∙ some_ends (λ (end : Bor SyncEnd). end.now) c.self.inside.state.stage c.end.result c.end.ensures ∙ ap has_ended c.self.view_is

pub returns-clause-over : goal.returns-clause-over
returns-clause-over c = λ begun past stands over.
    is_over (sync_seen c.self.inside) begun past (subst (λ (job : SyncModel). Stands job begun past) (sym c.self.view_is) stands)
    (sym (some_ends (λ (end : Bor SyncEnd). end.now) c.self.inside.state.stage c.end.result c.end.ensures) ∙ sym c.is_some.ensures ∙ over)
