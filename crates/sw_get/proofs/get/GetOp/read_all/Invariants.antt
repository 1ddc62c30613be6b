-- What it stood for it still stands for, and nothing was handed out, and it has not ended.
use Rattle.std.proofs.Common.{◌≡◌, List, length}
use Rattle.sw_message.specs.Transcript.{Step}
use Rattle.sw_get.specs.Get.{Begun}
use Rattle.sw_get.specs.Standing.{Stands}
use Rattle.sw_get.proofs.get.GetOp.read_all.Given as goal

abbrev pub invariant-loop : goal.invariant-loop
invariant-loop l =
    ((begun : Begun) (past : List Step) → Stands l.fn.self begun past → Stands l.self begun past) × (length l.self.mailbox.tickets ≡ length l.fn.self.mailbox.tickets) × (l.self.end ≡ l.fn.self.end)

abbrev pub decreases-loop : goal.decreases-loop
decreases-loop l = length l.self.mailbox.unread
