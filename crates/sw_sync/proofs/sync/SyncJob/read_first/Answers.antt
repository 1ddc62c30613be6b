-- The first answer is read.
use Rattle.std.proofs.Common.{List, sym, subst}
use Rattle.sw_message.specs.Transcript.{Step}
use Rattle.sw_sync.specs.Inside.{sync_seen}
use Rattle.sw_sync.specs.Standing.{Stands, SyncModel}
use Rattle.sw_sync.specs.Sync.{Begun}
use Rattle.sw_sync.proofs.Changes.{stands_read}
use Rattle.sw_sync.proofs.sync.SyncJob.read_first.Goals as goal

pub hear_first-requires : goal.hear_first-requires
hear_first-requires c = (c.in-Some.field-0.now.1, c.in-Some.ensures.0, c.in-Some.ensures.1)

stood : (c : goal.In_ok-hear_first) (begun : Begun) (past : List Step) → Stands (sync_seen c.self.inside) begun past
    → Stands (record (sync_seen c.self.inside) { state = c.hear_first.new.self; mailbox = c.hear_first.new.mailbox }) begun past
stood c begun past stands = stands_read (sync_seen c.self.inside) begun past stands c.in-Some.field-0.now.0 c.hear_first.new.mailbox c.hear_first.new.self c.in_ok-hear_first.ensures.ok

pub invariant_of-self-2 : goal.invariant_of-self-2
invariant_of-self-2 c = let known = c.self.invariant in (known.0, known.1, stood c known.0 known.1 known.2)

pub returns-clause-stands : goal.returns-clause-stands
returns-clause-stands c = λ begun past stands. stood c begun past (subst (λ (job : SyncModel). Stands job begun past) (sym c.self.view_is) stands)
