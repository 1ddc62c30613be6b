-- What it stood for it still stands for, and nothing was handed out, and it is over where it was.
use Rattle.std.proofs.Common.{◌≡◌, List, length}
use Rattle.sw_message.specs.Transcript.{Step}
use Rattle.sw_sync.specs.Standing.{Stands, has_ended}
use Rattle.sw_sync.specs.Sync.{Begun}
use Rattle.sw_sync.proofs.sync.SyncJob.read_all.Given as goal

abbrev pub invariant-loop : goal.invariant-loop
invariant-loop l =
    ((begun : Begun) (past : List Step) → Stands l.fn.self begun past → Stands l.self begun past) × (length l.self.mailbox.tickets ≡ length l.fn.self.mailbox.tickets) × (has_ended l.self ≡ has_ended l.fn.self)

abbrev pub decreases-loop : goal.decreases-loop
decreases-loop l = length l.self.mailbox.unread
