-- Why a sync ended as it did, by what was answered.
use Rattle.std.specs.Prelude.{◌≡◌, ◌≢◌, ◌⊎◌, ℕ, ◌+◌, ◌-◌, ◌^◌, ◌<◌, ◌≤◌, Bool, true, false, not, min, if◌then◌else◌, List, [], ◌∷◌, ◌++◌, Contains, length, Option, Some, None}
use Rattle.std.specs.List.{All, AllPairs}
use Rattle.sw_hashdir.specs.Directory.{IsAbove}
use Rattle.sw_hashdir.specs.Listing.{ListingModel}
use Rattle.sw_hashdir.specs.declared.floor.Floor.{Floor}
use Rattle.sw_archive.specs.Archive.{ArchiveModel}
use Rattle.sw_message.specs.Floors.{durable_at, floors_in, refuses, stands_above, tombstone_floor}
use Rattle.sw_message.specs.Message.{is_primary}
use Rattle.sw_message.specs.Miss.{miss_of}
use Rattle.sw_message.specs.Transcript.{Closed, Gave, Step}
use Rattle.sw_message.specs.declared.message.Msg.{Msg}
use Rattle.sw_message.specs.declared.message.Msg.TheVariants as message
use Rattle.sw_message.specs.declared.miss.Miss.{Miss}
use Rattle.sw_message.specs.declared.miss.Miss.TheVariants as miss
use Rattle.sw_message.specs.declared.reply.Reply.{Reply}
use Rattle.sw_message.specs.declared.reply.Reply.TheVariants as reply
use Rattle.sw_message.specs.declared.target.Target.{Target}
use Rattle.sw_sync.specs.Answers.{AreBrought, AreIndices, HasFloor, IsOwnFloor, IsSource, ListsNone, ListsPlain, MissedAsk, MissedFetch, WasListed, WasTold}
use Rattle.sw_sync.specs.Sync.{Begun}
use Rattle.sw_sync.specs.declared.sync_end.Failure.{Failure}
use Rattle.sw_sync.specs.declared.sync_end.Failure.TheVariants.{Missed, Superseded}

-- ---- failures

-- an answer to what a primary was told is a miss, or a refusal by a floor
abbrev pub IsMissedWrite : Msg → Option Reply → Miss → Type 0
IsMissedWrite (message.Delete place stamp) (Some (reply.Deleted existed)) how = ⊥
IsMissedWrite (message.Delete place stamp) (Some (reply.Superseded floor)) how = (refuses floor stamp ≡ false) × (how ≡ miss.Odd)
IsMissedWrite (message.PutFrag place stamp index bytes) (Some reply.Synced) how = ⊥
IsMissedWrite (message.PutFrag place stamp index bytes) (Some (reply.Superseded floor)) how = (stands_above floor stamp ≡ false) × (how ≡ miss.Odd)
IsMissedWrite (message.Commit place stamp index) (Some reply.Committed) how = ⊥
IsMissedWrite (message.Commit place stamp index) (Some (reply.Superseded floor)) how = (stands_above floor stamp ≡ false) × (how ≡ miss.Odd)
IsMissedWrite (message.Commit place stamp index) (Some reply.Missing) how = how ≡ miss.Missing
IsMissedWrite (message.Ask place) answer how = ⊥
IsMissedWrite (message.Fetch place stamp index) answer how = ⊥
IsMissedWrite msg None how = how ≡ miss.NoReply
IsMissedWrite msg (Some other) how = how ≡ miss_of other

abbrev pub IsForbidden : Msg → Floor → Type 0
IsForbidden (message.Delete place stamp) floor = refuses floor stamp ≡ true
IsForbidden (message.PutFrag place stamp index bytes) floor = stands_above floor stamp ≡ true
IsForbidden (message.Commit place stamp index) floor = stands_above floor stamp ≡ true
IsForbidden other floor = ⊥

abbrev pub failed_device : Failure → ℕ
failed_device (Missed device how) = device
failed_device (Superseded device floor) = device

-- what a device did not do: it missed as it was asked, or as it was told something, or a floor forbade that
abbrev pub HasFailed : Begun → List Step → Failure → Type 0
HasFailed begun past (Missed device how) = MissedAsk begun past device how ⊎ ((msg : Msg) × (answer : Option Reply) × WasTold past device msg answer × IsMissedWrite msg answer how)
HasFailed begun past (Superseded device floor) = (msg : Msg) × WasTold past device msg (Some (reply.Superseded floor)) × IsForbidden msg floor

-- These are the primaries that missed as they were asked, and those that did not do what they were told, each once.
pub record AreFailures (begun : Begun) (past : List Step) (failed : List Failure) : Type 0 where
  pub primaries : All (λ one. is_primary begun.cluster (failed_device one) begun.place ≡ true) failed
  pub each : All (HasFailed begun past) failed
  pub once : AllPairs (λ one other. failed_device one ≢ failed_device other) failed
  pub asks : (device : ℕ) (how : Miss) → is_primary begun.cluster device begun.place ≡ true → MissedAsk begun past device how → Contains failed (Missed device how)
  pub misses : (device : ℕ) (msg : Msg) (answer : Option Reply) (how : Miss) → WasTold past device msg answer → IsMissedWrite msg answer how → Contains failed (Missed device how)
  pub forbidden : (device : ℕ) (msg : Msg) (floor : Floor) → WasTold past device msg (Some (reply.Superseded floor)) → IsForbidden msg floor → Contains failed (Superseded device floor)

-- ---- counts

-- how many answers pass a test
abbrev pub count_told : (Msg → Option Reply → Bool) → List Step → ℕ
count_told test [] = 0
count_told test (Gave sent ∷ past) = count_told test past
count_told test (Closed sent answer ∷ past) = count_told test past + (if test sent.msg answer then 1 else 0)

abbrev pub is_marked : Msg → Option Reply → Bool
is_marked (message.Delete place stamp) (Some (reply.Deleted existed)) = true
is_marked msg answer = false

-- an entry of one of these indices was made durable
abbrev pub is_committed : (ℕ → Bool) → Msg → Option Reply → Bool
is_committed of (message.Commit place stamp index) (Some reply.Committed) = of index
is_committed of msg answer = false

-- a count stands still at its type's last value
abbrev pub capped : ℕ → ℕ
capped count = min count (2 ^ 32 - 1)

-- ---- it ended early

-- The own device missed as it was asked.
pub record IsUnanswered (begun : Begun) (past : List Step) (device : ℕ) : Type 0 where
  pub own : device ≡ begun.device
  pub how : Miss
  pub missed : MissedAsk begun past begun.device how

-- The greatest floor that was listed is above that of the own device.
pub record IsNewer (begun : Begun) (past : List Step) (floor : Floor) : Type 0 where
  pub own_listing : ListingModel
  pub own : WasListed begun past begun.device own_listing
  pub own_floor : Floor
  pub own_is : HasFloor own_listing own_floor
  pub above : IsAbove floor own_floor
  pub device : ℕ
  pub listing : ListingModel
  pub listed : WasListed begun past device listing
  pub shown : Contains (floors_in listing) floor
  pub greatest : (other : ℕ) (shows : ListingModel) (higher : Floor) → WasListed begun past other shows → Contains (floors_in shows) higher → IsAbove higher floor → ⊥

-- ---- what was done about entries

-- each entry of the stamp that its primary listed plain was to be made durable
abbrev pub PlainAreTold : Begun → List Step → ℕ → Type 0
PlainAreTold begun past stamp = (target : Target) → ListsPlain begun past stamp target → (answer : Option Reply) × WasTold past target.device (message.Commit begun.place stamp target.index) answer

-- each that its primary lacked was rebuilt, and once it was stored was to be made durable
abbrev pub LackingAreTold : Begun → List Step → ℕ → Type 0
LackingAreTold begun past stamp = (target : Target) → ListsNone begun past stamp target → (bytes : List ℕ) × (answer : Option Reply) × WasTold past target.device (message.PutFrag begun.place stamp target.index bytes) answer
    × (answer ≡ Some reply.Synced → (committed : Option Reply) × WasTold past target.device (message.Commit begun.place stamp target.index) committed)

-- ---- too few archives

-- Fewer than k indices were listed, so many, and nothing was fetched.
pub record FewListed (begun : Begun) (past : List Step) (stamp have : ℕ) : Type 0 where
  pub indices : List ℕ
  pub are : AreIndices begun past stamp indices
  pub count : length indices ≡ have
  pub none_fetched : (source : Target) (answer : Option Reply) → WasTold past source.device (message.Fetch begun.place stamp source.index) answer → ⊥

-- a source is among those that missed, or an archive of its index among those that were brought
abbrev pub IsUsed : List (Target × Miss) → List ArchiveModel → Target → Type 0
IsUsed lost archives source = ((how : Miss) × Contains lost (source, how)) ⊎ ((archive : ArchiveModel) × Contains archives archive × (archive.index ≡ source.index))

-- k indices or more were listed, so many archives were brought, and each other source missed or has an index that was brought.
pub record FewBrought (begun : Begun) (past : List Step) (stamp have : ℕ) (lost : List (Target × Miss)) : Type 0 where
  pub indices : List ℕ
  pub are : AreIndices begun past stamp indices
  pub listed : begun.cluster.policy.k ≤ length indices
  pub archives : List ArchiveModel
  pub brought : AreBrought begun past stamp archives
  pub count : length archives ≡ have
  pub used_up : (source : Target) → IsSource begun past stamp source → IsUsed lost archives source
  pub fetched : (source : Target) (answer : Option Reply) → WasTold past source.device (message.Fetch begun.place stamp source.index) answer → IsUsed lost archives source

-- each miss of a source, with the device
abbrev pub lost_misses : List (Target × Miss) → List (ℕ × Miss)
lost_misses [] = []
lost_misses (one ∷ lost) = (one.0.device, one.1) ∷ lost_misses lost

-- The misses of the devices that were asked, and then those of sources.
pub record AreMisses (begun : Begun) (past : List Step) (stamp : ℕ) (lost : List (Target × Miss)) (misses : List (ℕ × Miss)) : Type 0 where
  pub asked : List (ℕ × Miss)
  pub misses_are : misses ≡ asked ++ lost_misses lost
  pub asked_are : All (λ one. MissedAsk begun past one.0 one.1) asked
  pub all_asked : (device : ℕ) (how : Miss) → MissedAsk begun past device how → Contains asked (device, how)
  pub lost_are : All (λ one. MissedFetch begun past stamp one.0 one.1) lost

-- A primary lacks its archive of the stamp that is the own floor, durable, and fewer than k archives were to be had. What was listed plain
-- was to be made durable all the same.
pub record IsTooFew (begun : Begun) (past : List Step) (stamp have : ℕ) (misses : List (ℕ × Miss)) : Type 0 where
  pub own : IsOwnFloor begun past (durable_at stamp)
  pub target : Target
  pub lacking : ListsNone begun past stamp target
  pub few : have < begun.cluster.policy.k
  pub lost : List (Target × Miss)
  pub had : FewListed begun past stamp have ⊎ FewBrought begun past stamp have lost
  pub plain : PlainAreTold begun past stamp
  pub misses_are : AreMisses begun past stamp lost misses

-- ---- it is done

-- Nothing had to be done: the own device listed no floor.
pub record HadNothing (begun : Begun) (past : List Step) (commits rebuilt tombstones : ℕ) (failed : List Failure) : Type 0 where
  pub listing : ListingModel
  pub own : WasListed begun past begun.device listing
  pub no_floor : floors_in listing ≡ []
  pub counts : (commits ≡ 0) × (rebuilt ≡ 0) × (tombstones ≡ 0) × (failed ≡ [])

-- The tombstone that is the own floor went to each primary that listed a smaller floor, or none.
pub record WasBuried (begun : Begun) (past : List Step) (commits rebuilt tombstones : ℕ) (failed : List Failure) : Type 0 where
  pub stamp : ℕ
  pub own : IsOwnFloor begun past (tombstone_floor stamp)
  pub each : (device : ℕ) (listing : ListingModel) → is_primary begun.cluster device begun.place ≡ true → WasListed begun past device listing
      → HasFloor listing (tombstone_floor stamp) ⊎ ((answer : Option Reply) × WasTold past device (message.Delete begun.place stamp) answer)
  pub no_entries : (commits ≡ 0) × (rebuilt ≡ 0)
  pub marked : tombstones ≡ capped (count_told is_marked past)
  pub failures : AreFailures begun past failed

-- The entries of the stamp that is the own floor, durable, were to be made durable at the primaries that listed them plain, and rebuilt at
-- those that listed none.
pub record WasRepaired (begun : Begun) (past : List Step) (commits rebuilt tombstones : ℕ) (failed : List Failure) : Type 0 where
  pub stamp : ℕ
  pub own : IsOwnFloor begun past (durable_at stamp)
  pub plain : PlainAreTold begun past stamp
  pub lacking : LackingAreTold begun past stamp
  pub no_tombstones : tombstones ≡ 0
  -- the indices that their primaries lacked
  pub lacked : ℕ → Bool
  pub lacked_are : (index : ℕ) → lacked index ≡ true → (device : ℕ) × ListsNone begun past stamp (record { index = index; device = device })
  pub others_are : (index device : ℕ) → lacked index ≡ false → ListsNone begun past stamp (record { index = index; device = device }) → ⊥
  pub committed : commits ≡ capped (count_told (is_committed (λ index. not (lacked index))) past)
  pub rebuilt_are : rebuilt ≡ capped (count_told (is_committed lacked) past)
  pub failures : AreFailures begun past failed

abbrev pub IsDone : Begun → List Step → (commits rebuilt tombstones : ℕ) → List Failure → Type 0
IsDone begun past commits rebuilt tombstones failed =
    HadNothing begun past commits rebuilt tombstones failed ⊎ WasBuried begun past commits rebuilt tombstones failed ⊎ WasRepaired begun past commits rebuilt tombstones failed
