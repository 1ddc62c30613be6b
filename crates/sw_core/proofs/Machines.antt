-- The machine of each operation: its messages may be sent, and are numbered from 0 in the order in which they are handed out.
use Rattle.std.proofs.Common.{◌≡◌, ℕ, List, length, ap}
use Rattle.sw_message.specs.Learnt.{HasOwn, Learnt}
use Rattle.sw_message.specs.Transcript.{Hand, Step, given}
use Rattle.sw_message.specs.declared.sent.Sent.{Sent}
use Rattle.sw_quorum.specs.Transcripts.{Numbers}
use Rattle.sw_delete.proofs.Transcripts as delete_transcripts
use Rattle.sw_get.proofs.Runs as get_runs
use Rattle.sw_put.proofs.Transcripts as put_transcripts
use Rattle.sw_recon.specs.Revert as reverts
use Rattle.sw_recon.specs.declared.status.Status.{Status}
use Rattle.sw_recon.specs.declared.status.Status.TheVariants.{Ends, Starts, Treats}
use Rattle.sw_recon.proofs.Machine as revert_machine
use Rattle.sw_sync.proofs.Messages as sync_messages
use Rattle.sw_operation.specs.Operating.{Begun, Delete, Get, Head, IsBegun, IsNext, Put, Revert, Sync, cluster_of, own_of}
use Rattle.sw_core.proofs.Jobs.{revert-hands, sync-hands}
use Rattle.sw_core.proofs.Operations.{delete-hands, get-hands, put-hands}
use Rattle.sw_core.proofs.Warranting.{HandsWarranted}

pub hands : (begun : Begun) (learnt : Learnt) → IsBegun begun → HasOwn (own_of begun) learnt → HandsWarranted (cluster_of begun) (IsNext begun) learnt
hands (Put begun) learnt valid has = put-hands begun learnt valid has
hands (Get begun) learnt valid has = get-hands begun learnt
hands (Head begun) learnt valid has = get-hands begun learnt
hands (Delete begun) learnt valid has = delete-hands begun learnt valid has
hands (Sync begun) learnt valid has = sync-hands begun learnt valid
hands (Revert begun) learnt valid has = revert-hands begun learnt valid

-- ---- tickets

module _ (begun : reverts.Begun) (past : List Step) (sent : Sent) where
  revert-by : (ticket : ℕ) (status : Status) → Hand sent ≡ reverts.next_at begun ticket status → sent.ticket ≡ ticket
  revert-by ticket Starts is = let one : sent ≡ reverts.own_message begun ticket = cc in ap (λ (s : Sent). s.ticket) one
  revert-by ticket (Treats course) is = let one : sent ≡ reverts.treat_message begun ticket course = cc in ap (λ (s : Sent). s.ticket) one
  revert-by ticket (Ends end) is = absurd (cc)

  revert-number : reverts.IsNext begun past (Hand sent) → sent.ticket ≡ length (given past)
  revert-number next = let is = revert_machine.handed begun past sent next in revert-by (length (given past)) is.status is.next

pub numbers : (begun : Begun) → Numbers (IsNext begun)
numbers (Put begun) past sent next = (put_transcripts.handed begun past sent next).0
numbers (Get begun) past sent next = get_runs.numbers begun past sent next
numbers (Head begun) past sent next = get_runs.numbers begun past sent next
numbers (Delete begun) past sent next = (delete_transcripts.handed begun past sent next).0
numbers (Sync begun) past sent next = sync_messages.numbers begun past sent next
numbers (Revert begun) past sent next = revert-number begun past sent next
