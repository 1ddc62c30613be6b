-- The transcripts that an operation of any kind stands for.
use Rattle.std.specs.Prelude.{ℕ, ◌-◌, ◌^◌, Bool, List, is_some, length}
use Rattle.sw_message.specs.Transcript.{Step}
use Rattle.sw_delete.specs.Standing as deletes
use Rattle.sw_get.specs.Standing as gets
use Rattle.sw_put.specs.Standing as puts
use Rattle.sw_recon.specs.Standing as reverts
use Rattle.sw_sync.specs.Standing as syncs
use Rattle.sw_operation.specs.Operating.{Begun, Delete, Get, Head, Put, Revert, Sync}
use Rattle.sw_operation.specs.declared.any_op.AnyOp.{AnyOp}
use Rattle.sw_operation.specs.declared.any_op.AnyOp.TheVariants as any

abbrev pub Stands : AnyOp → Begun → List Step → Type 0
Stands (any.Put op) (Put begun) past = puts.Stands op begun past
Stands (any.Get op) (Get begun) past = gets.Stands op begun past
Stands (any.Head op) (Head begun) past = gets.Stands op begun past
Stands (any.Delete op) (Delete begun) past = deletes.Stands op begun past
Stands (any.Sync job) (Sync begun) past = syncs.Stands job begun past
Stands (any.Revert job) (Revert begun) past = reverts.Stands job begun past
Stands op begun past = ⊥

abbrev pub has_ended : AnyOp → Bool
has_ended (any.Put op) = is_some op.end
has_ended (any.Get op) = is_some op.end
has_ended (any.Head op) = is_some op.end
has_ended (any.Delete op) = is_some op.end
has_ended (any.Sync job) = syncs.has_ended job
has_ended (any.Revert job) = reverts.has_ended job

-- it hands out at most so many messages more
abbrev pub left : AnyOp → ℕ
left (any.Put op) = puts.most_messages op - length op.tickets
left (any.Get op) = 2 ^ 64 - length op.mailbox.tickets
left (any.Head op) = 2 ^ 64 - length op.mailbox.tickets
left (any.Delete op) = deletes.most_messages op - length op.tickets
left (any.Sync job) = 2 ^ 64 - length job.mailbox.tickets
left (any.Revert job) = 2 ^ 64 - length job.tickets
