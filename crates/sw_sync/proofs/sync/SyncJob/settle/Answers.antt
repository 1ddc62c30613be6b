-- What follows is worked out.
use Rattle.std.proofs.Common.{◌≡◌, inl, inr, List, [], sym, ap, subst, ◌∙◌}
use Rattle.std.specs.Prelude.{OnOk}
use Rattle.sw_message.specs.Transcript.{Step}
use Rattle.sw_sync.specs.Inside.{sync_seen}
use Rattle.sw_sync.specs.Standing.{Stands, SyncModel, ends, has_ended}
use Rattle.sw_sync.specs.State.{State}
use Rattle.sw_sync.specs.Sync.{Begun, IsState}
use Rattle.sw_sync.proofs.Changes.{follows_so, settled_is, stands_settled}
use Rattle.sw_sync.proofs.Results.{either, on_ok}
use Rattle.sw_sync.proofs.Settled.{settled_over_still}
use Rattle.sw_sync.proofs.sync.SyncJob.settle.Goals as goal

abbrev job : goal.After-settle_state → SyncModel
job c = sync_seen c.self.inside

by_fields : (c : goal.After-settle_state) (begun : Begun) (past : List Step) → Stands c.args.self.now begun past → Stands (job c) begun past
by_fields c begun past stands = subst (λ (job : SyncModel). Stands job begun past) (sym c.self.view_is) stands

unread : (c : goal.After-settle_state) → (job c).mailbox.unread ≡ []
unread c = ap (λ (job : SyncModel). job.mailbox.unread) c.self.view_is ∙ c.requires

stood : (c : goal.After-settle_state) (begun : Begun) (past : List Step) → Stands (job c) begun past → Stands (record (job c) { state = c.settle_state.new.state }) begun past
stood c begun past stands = elim (either c.settle_state.result c.settle_state.ensures.ok c.settle_state.ensures.refused) [
  | inl follows ↦ stands_settled (job c) begun past stands (unread c) c.settle_state.new.state (follows_so (job c) begun past stands c.settle_state.new.state c.is_waiting-waiting.result c.is_waiting-waiting.ensures follows)
  | inr same ↦ subst (λ (state : State). Stands (record (job c) { state = state }) begun past) (sym same) stands
]

pub invariant_of-self : goal.invariant_of-self
invariant_of-self c = let known = c.self.invariant in (known.0, known.1, stood c known.0 known.1 known.2)

pub returns-clause-stands : goal.returns-clause-stands
returns-clause-stands c = λ begun past stands. stood c begun past (by_fields c begun past stands)

ready : (c : goal.After-settle_state) (begun : Begun) (past : List Step) → Stands (job c) begun past → OnOk c.settle_state.result (IsState begun past c.settle_state.new.state)
ready c begun past stands =
    on_ok c.settle_state.result
    (λ done follows. settled_is (job c) begun past stands (unread c) c.settle_state.new.state (follows_so (job c) begun past stands c.settle_state.new.state c.is_waiting-waiting.result c.is_waiting-waiting.ensures follows))
    c.settle_state.ensures.ok

pub returns-clause-settled : goal.returns-clause-settled
returns-clause-settled c = λ begun past stands. ready c begun past (by_fields c begun past stands)

pub returns-clause-ended : goal.returns-clause-ended
returns-clause-ended c =
    let job = job c in
    let begun : Begun = record { cluster = job.cluster; device = job.device; place = job.place } in
    on_ok c.settle_state.result
    (λ done follows over. ap (λ (state : State). ends state.stage) follows ∙ settled_over_still begun c.is_waiting-waiting.result job.state (ap has_ended c.self.view_is ∙ over))
    c.settle_state.ensures.ok

pub returns-clause-ready : goal.returns-clause-ready
returns-clause-ready c =
    let known = c.self.invariant in
    on_ok c.settle_state.result (λ done is. (known.0, known.1, stood c known.0 known.1 known.2, is)) (ready c known.0 known.1 known.2)
