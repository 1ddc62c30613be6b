-- What a sync may hand out, by what was answered before.
use Rattle.std.specs.Prelude.{◌≡◌, ◌⊎◌, ℕ, ◌≤◌, true, List, Contains, length, Some}
use Rattle.sw_hashdir.specs.Directory.{IsAbove}
use Rattle.sw_hashdir.specs.Listing.{ListingModel}
use Rattle.sw_hashdir.specs.declared.floor.Floor.{Floor}
use Rattle.sw_archive.specs.Archive.{ArchiveModel}
use Rattle.sw_archive.specs.Assemble.{IsFurther}
use Rattle.sw_message.specs.Floors.{durable_at, floors_in, tombstone_floor}
use Rattle.sw_message.specs.Message.{IsMember, is_primary}
use Rattle.sw_message.specs.Transcript.{Step}
use Rattle.sw_message.specs.declared.message.Msg.{Msg}
use Rattle.sw_message.specs.declared.message.Msg.TheVariants as message
use Rattle.sw_message.specs.declared.reply.Reply.TheVariants as reply
use Rattle.sw_message.specs.declared.target.Target.{Target}
use Rattle.sw_sync.specs.Sync.{Begun}
use Rattle.sw_sync.specs.Answers.{AllAnswered, AreBrought, AreIndices, HandoffsAnswered, IsOwnFloor, IsSource, ListsNone, ListsPlain, WasListed, WasTold}

-- Each device of the cluster is asked, the primaries of the place once each handoff has answered or was given up.
pub record MayAsk (begun : Begun) (past : List Step) (device : ℕ) : Type 0 where
  pub member : IsMember begun.cluster device
  pub handoffs_first : is_primary begun.cluster device begun.place ≡ true → HandoffsAnswered begun past

-- The tombstone that is the own floor goes to a primary that listed a smaller floor, or none.
pub record MayDelete (begun : Begun) (past : List Step) (device stamp : ℕ) : Type 0 where
  pub answered : AllAnswered begun past
  pub own : IsOwnFloor begun past (tombstone_floor stamp)
  pub primary : is_primary begun.cluster device begun.place ≡ true
  pub listing : ListingModel
  pub listed : WasListed begun past device listing
  pub below : (floor : Floor) → Contains (floors_in listing) floor → IsAbove (tombstone_floor stamp) floor

-- An archive of the stamp that is the own floor, durable, is fetched from a device that listed it, where some primary lacks its own and k
-- indices or more were listed.
pub record MayFetch (begun : Begun) (past : List Step) (source : Target) (stamp : ℕ) : Type 0 where
  pub answered : AllAnswered begun past
  pub own : IsOwnFloor begun past (durable_at stamp)
  pub listed : IsSource begun past stamp source
  pub target : Target
  pub lacks : ListsNone begun past stamp target
  pub indices : List ℕ
  pub indices_are : AreIndices begun past stamp indices
  pub enough : begun.cluster.policy.k ≤ length indices

-- bytes are the archive of an index, rebuilt from k archives of different indices, each brought by a source
pub record WasRebuilt (begun : Begun) (past : List Step) (stamp index : ℕ) (bytes : List ℕ) : Type 0 where
  pub archives : List ArchiveModel
  pub brought : AreBrought begun past stamp archives
  pub enough : length archives ≡ begun.cluster.policy.k
  pub further : IsFurther archives index bytes

-- A rebuilt archive goes to the primary of its index, which listed none of the stamp, which is the own floor, durable.
pub record MayStore (begun : Begun) (past : List Step) (target : Target) (stamp : ℕ) (bytes : List ℕ) : Type 0 where
  pub answered : AllAnswered begun past
  pub own : IsOwnFloor begun past (durable_at stamp)
  pub lacks : ListsNone begun past stamp target
  pub rebuilt : WasRebuilt begun past stamp target.index bytes

-- the primary of an index listed no entry of the stamp, and stored the archive that it was sent
pub record WasStored (begun : Begun) (past : List Step) (stamp : ℕ) (target : Target) : Type 0 where
  pub lacked : ListsNone begun past stamp target
  pub bytes : List ℕ
  pub told : WasTold past target.device (message.PutFrag begun.place stamp target.index bytes) (Some reply.Synced)

-- An entry of the stamp that is the own floor, durable, is made durable at the primary of its index, which listed it plain or stored it.
pub record MayCommit (begun : Begun) (past : List Step) (target : Target) (stamp : ℕ) : Type 0 where
  pub answered : AllAnswered begun past
  pub own : IsOwnFloor begun past (durable_at stamp)
  pub there : ListsPlain begun past stamp target ⊎ WasStored begun past stamp target

-- a message about the place of the sync
abbrev pub MaySend : Begun → List Step → (device : ℕ) → Msg → Type 0
MaySend begun past device (message.Ask place) = (place ≡ begun.place) × MayAsk begun past device
MaySend begun past device (message.Delete place stamp) = (place ≡ begun.place) × MayDelete begun past device stamp
MaySend begun past device (message.Fetch place stamp index) = (place ≡ begun.place) × MayFetch begun past (record { index = index; device = device }) stamp
MaySend begun past device (message.PutFrag place stamp index bytes) = (place ≡ begun.place) × MayStore begun past (record { index = index; device = device }) stamp bytes
MaySend begun past device (message.Commit place stamp index) = (place ≡ begun.place) × MayCommit begun past (record { index = index; device = device }) stamp
MaySend begun past device other = ⊥
