-- What contracts see of a put, and the transcripts that it stands for.
use Rattle.std.specs.Prelude.{◌≡◌, ℕ, ◌+◌, ◌*◌, Bool, List, length, Option, Some}
use Rattle.sw_types.specs.Name.{NameModel}
use Rattle.sw_types.specs.Object.{ObjectModel}
use Rattle.sw_types.specs.Policy.{PolicyModel}
use Rattle.sw_hashpath.specs.Place.{PlaceModel}
use Rattle.sw_message.specs.Tickets.{AreTickets}
use Rattle.sw_message.specs.Transcript.{IsRun, Step}
use Rattle.sw_message.specs.declared.target.Target.{Target}
use Rattle.sw_quorum.specs.Tally.{Counts, counts_of}
use Rattle.sw_put.specs.Put.{Begun, IsBegun, IsNext, commits, commits_due, handoffs, place_of, primaries, put_end, stores}
use Rattle.sw_put.specs.declared.end.PutEnd.{PutEnd}

pub record PutModel : Type 0 where
  -- so many devices are to have stored an archive, and so many to have made one durable
  pub enough_stored : ℕ
  pub enough_committed : ℕ
  pub place : PlaceModel
  pub policy : PolicyModel
  pub stamp : ℕ
  pub name : NameModel
  pub object : ObjectModel
  pub primaries : List ℕ
  pub handoffs : List ℕ
  pub stores : Counts Target
  pub commits : Counts Target
  pub commits_due : List Target
  pub tickets : List Bool
  pub end : Option PutEnd

-- a put stands for each transcript of its machine that leads to its state
pub record Stands (put : PutModel) (begun : Begun) (past : List Step) : Type 0 where
  pub valid : IsBegun begun
  pub run : IsRun (IsNext begun) past
  pub enough_stored_is : put.enough_stored ≡ begun.cluster.policy.q
  pub enough_committed_is : put.enough_committed ≡ begun.cluster.policy.c
  pub place_is : put.place ≡ place_of begun
  pub policy_is : put.policy ≡ begun.cluster.policy
  pub stamp_is : put.stamp ≡ begun.stamp
  pub name_is : put.name ≡ begun.name
  pub object_is : put.object ≡ begun.object
  pub primaries_are : put.primaries ≡ primaries begun
  pub handoffs_are : put.handoffs ≡ handoffs begun
  pub stores_are : put.stores ≡ counts_of (stores past)
  pub commits_are : put.commits ≡ counts_of (commits past)
  pub commits_due_are : put.commits_due ≡ commits_due begun past
  pub tickets_are : AreTickets put.tickets past
  pub end_is : (end : PutEnd) → put.end ≡ Some end → put_end begun past ≡ Some end

-- so many messages at most are handed out in all
abbrev pub most_messages : PutModel → ℕ
most_messages put = 2 * (length put.primaries + length put.handoffs)
