-- What is seen of the stages of a sync.
use Rattle.std.specs.Prelude.{ℕ, List}
use Rattle.sw_hashdir.specs.Listing.{ListingModel}
use Rattle.sw_archive.specs.Archive.{ArchiveModel}
use Rattle.sw_message.specs.declared.miss.Miss.{Miss}
use Rattle.sw_message.specs.declared.target.Target.{Target}
use Rattle.sw_sync.specs.declared.sync_end.Failure.{Failure}

-- what devices list, and each miss of one that was asked, in the order in which they came
pub record Heard : Type 0 where
  pub lists : List (ℕ × ListingModel)
  pub misses : List (ℕ × Miss)

-- a tombstone goes to primaries: how many marked it, and what they did not do
pub record Burial : Type 0 where
  pub stamp : ℕ
  pub tombstones : ℕ
  pub failed : List Failure

-- the entries of a stamp are made durable at primaries, and rebuilt at those that lack theirs
pub record Repair : Type 0 where
  pub stamp : ℕ
  -- each index that its primary lacks, with the primary
  pub lacking : List Target
  -- where archives may be fetched from, ascending, and of how many indices, or k of more
  pub choices : List Target
  pub listed : ℕ
  -- from where they are fetched, and which of these sources missed or lack theirs
  pub tried : List Target
  pub lost : List Target
  pub archives : List ArchiveModel
  -- each miss of a device that was asked, and then of a source
  pub misses : List (ℕ × Miss)
  -- how many entries were made durable that were listed, how many that were rebuilt, and what primaries did not do
  pub commits : ℕ
  pub rebuilt : ℕ
  pub failed : List Failure
