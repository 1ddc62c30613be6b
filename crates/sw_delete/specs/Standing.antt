-- What contracts see of a delete, and the transcripts that it stands for.
use Rattle.std.specs.Prelude.{◌≡◌, ℕ, ◌+◌, Bool, List, length, Option, Some}
use Rattle.sw_hashpath.specs.Place.{PlaceModel}
use Rattle.sw_message.specs.Tickets.{AreTickets}
use Rattle.sw_message.specs.Transcript.{IsRun, Step}
use Rattle.sw_quorum.specs.Tally.{Counts, counts_of}
use Rattle.sw_delete.specs.Delete.{Begun, IsBegun, IsNext, delete_end, deletes, existed_in, handoffs, place_of, primaries}
use Rattle.sw_delete.specs.declared.end.DeleteEnd.{DeleteEnd}

pub record DeleteModel : Type 0 where
  -- so many devices are to have its tombstone
  pub enough : ℕ
  pub place : PlaceModel
  pub stamp : ℕ
  pub primaries : List ℕ
  pub handoffs : List ℕ
  pub counts : Counts ℕ
  pub existed : Bool
  pub tickets : List Bool
  pub end : Option DeleteEnd

-- a delete stands for each transcript of its machine that leads to its state
pub record Stands (delete : DeleteModel) (begun : Begun) (past : List Step) : Type 0 where
  pub valid : IsBegun begun
  pub run : IsRun (IsNext begun) past
  pub enough_is : delete.enough ≡ begun.cluster.policy.c
  pub place_is : delete.place ≡ place_of begun
  pub stamp_is : delete.stamp ≡ begun.stamp
  pub primaries_are : delete.primaries ≡ primaries begun
  pub handoffs_are : delete.handoffs ≡ handoffs begun
  pub counts_are : delete.counts ≡ counts_of (deletes past)
  pub existed_is : delete.existed ≡ existed_in past
  pub tickets_are : AreTickets delete.tickets past
  pub end_is : (end : DeleteEnd) → delete.end ≡ Some end → delete_end begun past ≡ Some end

-- so many messages at most are handed out in all
abbrev pub most_messages : DeleteModel → ℕ
most_messages delete = length delete.primaries + length delete.handoffs
