-- How operations of each kind end.
use Rattle.std.specs.Prelude.{◌≡◌, List, Some}
use Rattle.sw_message.specs.Transcript.{Step}
use Rattle.sw_delete.specs.Delete as deletes
use Rattle.sw_get.specs.Get as gets
use Rattle.sw_put.specs.Put as puts
use Rattle.sw_recon.specs.Revert as reverts
use Rattle.sw_sync.specs.Sync as syncs
use Rattle.sw_operation.specs.Operating.{Begun, Delete, Get, Head, Put, Revert, Sync}
use Rattle.sw_operation.specs.declared.end.OpEnd.{OpEnd}
use Rattle.sw_operation.specs.declared.end.OpEnd.TheVariants as end

-- an operation that was begun so has ended in this way after a transcript; a get's end is told with the object, and a head's is that of a get
abbrev pub IsEndOf : Begun → List Step → OpEnd → Type 0
IsEndOf (Put begun) past (end.Put how) = puts.put_end begun past ≡ Some how
IsEndOf (Get begun) past (end.Get how) = gets.IsEnd begun past how
IsEndOf (Head begun) past (end.Head how) = gets.IsEnd begun past how
IsEndOf (Delete begun) past (end.Delete how) = deletes.delete_end begun past ≡ Some how
IsEndOf (Sync begun) past (end.Sync how) = syncs.IsEnd begun past how
IsEndOf (Revert begun) past (end.Revert how) = reverts.IsEnd begun past how
IsEndOf begun past how = ⊥
