-- An operation has one end after a transcript.
use Rattle.std.proofs.Common.{◌≡◌, List, sym, ap, ◌∙◌}
use Rattle.std.proofs.lemmas.Option.{same_Some}
use Rattle.sw_message.specs.Transcript.{Step}
use Rattle.sw_get.proofs.Machine as gets
use Rattle.sw_recon.proofs.Machine as reverts
use Rattle.sw_sync.proofs.Sameness as syncs
use Rattle.sw_operation.specs.Operating.{Begun, Delete, Get, Head, IsBegun, Put, Revert, Sync}
use Rattle.sw_operation.specs.declared.end.OpEnd.{OpEnd}
use Rattle.sw_operation.specs.declared.end.OpEnd.TheVariants as end
use Rattle.sw_operation.specs.Ends.{IsEndOf}

pub one_end : (begun : Begun) (past : List Step) (one other : OpEnd) → IsBegun begun → IsEndOf begun past one → IsEndOf begun past other → one ≡ other
one_end (Put begun) past (end.Put one) (end.Put other) valid x y = ap end.Put (same_Some one other (sym x ∙ y))
one_end (Put begun) past (end.Put one) other valid x y = absurd y
one_end (Put begun) past one other valid x y = absurd x
one_end (Get begun) past (end.Get one) (end.Get other) valid x y = ap end.Get (gets.one_end begun valid past one other x y)
one_end (Get begun) past (end.Get one) other valid x y = absurd y
one_end (Get begun) past one other valid x y = absurd x
one_end (Head begun) past (end.Head one) (end.Head other) valid x y = ap end.Head (gets.one_end begun valid past one other x y)
one_end (Head begun) past (end.Head one) other valid x y = absurd y
one_end (Head begun) past one other valid x y = absurd x
one_end (Delete begun) past (end.Delete one) (end.Delete other) valid x y = ap end.Delete (same_Some one other (sym x ∙ y))
one_end (Delete begun) past (end.Delete one) other valid x y = absurd y
one_end (Delete begun) past one other valid x y = absurd x
one_end (Sync begun) past (end.Sync one) (end.Sync other) valid x y = ap end.Sync (syncs.one_end begun past one other x y)
one_end (Sync begun) past (end.Sync one) other valid x y = absurd y
one_end (Sync begun) past one other valid x y = absurd x
one_end (Revert begun) past (end.Revert one) (end.Revert other) valid x y = ap end.Revert (reverts.one_end begun past one other x y)
one_end (Revert begun) past (end.Revert one) other valid x y = absurd y
one_end (Revert begun) past one other valid x y = absurd x
