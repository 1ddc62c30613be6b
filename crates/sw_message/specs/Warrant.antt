-- Which messages are warranted by what is known, and which stamps are decided.
use Rattle.std.specs.Prelude.{◌≡◌, ◌≢◌, ◌⊎◌, ℕ, ◌+◌, ◌<◌, ◌≤◌, true, false, List, length, Contains, Some, slice_get, ⊤}
use Rattle.std.specs.List.{All, AllPairs}
use Rattle.sw_hashpath.specs.Place.{PlaceModel}
use Rattle.sw_hashdir.specs.Directory.{StandsAbove}
use Rattle.sw_hashdir.specs.Listing.{ListingModel}
use Rattle.sw_hashdir.specs.declared.floor.Floor.{Floor}
use Rattle.sw_hashdir.specs.declared.floor.FloorKind.TheVariants as kind
use Rattle.sw_archive.specs.Put.{put_archive}
use Rattle.sw_ring.specs.Cluster.{ClusterModel, column_of, place_of_name}
use Rattle.sw_message.specs.Learnt.{Booked, Heard, Learnt, Marked}
use Rattle.sw_message.specs.Message.{IsMember, is_primary, place_in}
use Rattle.sw_message.specs.declared.message.Msg.{Msg}
use Rattle.sw_message.specs.declared.message.Msg.TheVariants as message
use Rattle.sw_message.specs.declared.reply.Reply.{Reply}
use Rattle.sw_message.specs.declared.reply.Reply.TheVariants as reply
use Rattle.sw_message.specs.declared.target.Target.{Target}

-- ---- devices of a place

abbrev pub IsPrimaryOf : ClusterModel → PlaceModel → (index device : ℕ) → Type 0
IsPrimaryOf cluster place index device = slice_get (column_of cluster place.part) index ≡ Some device

-- the device is the primary of the index, or a handoff of the place: a device of the cluster that is no primary of it
abbrev pub IsHome : ClusterModel → PlaceModel → Target → Type 0
IsHome cluster place target = IsPrimaryOf cluster place target.index target.device ⊎ (IsMember cluster target.device × (is_primary cluster target.device place ≡ false) × (target.index < cluster.policy.k + cluster.policy.m))

-- ---- what a reply shows

-- the reply has this listing
abbrev pub HasListing : Reply → ListingModel → Type 0
HasListing (reply.Held listing) shown = listing ≡ shown
HasListing (reply.Gone listing) shown = listing ≡ shown
HasListing other shown = ⊥

-- a durable entry or a tombstone that is listed
abbrev pub ListsFloor : ListingModel → (stamp : ℕ) → Floor → Type 0
ListsFloor listing stamp floor =
    StandsAbove floor stamp × (((floor.kind ≡ kind.Durable) × (index : ℕ) × Contains listing.entries (record { stamp = floor.stamp; index = index; durable = true }))
    ⊎ ((floor.kind ≡ kind.Tombstone) × Contains listing.tombstones floor.stamp))

-- an entry is durable, by a listing or by the answer to its commit
abbrev pub ShowsDurable : (stamp index : ℕ) → Msg → Reply → Type 0
ShowsDurable stamp index (message.Commit place other at) reply.Committed = (other ≡ stamp) × (at ≡ index)
ShowsDurable stamp index msg reply = (listing : ListingModel) × HasListing reply listing × Contains listing.entries (record { stamp = stamp; index = index; durable = true })

-- a floor stands above a stamp, by a listing or a refusal
abbrev pub ShowsAbove : ℕ → Reply → Type 0
ShowsAbove stamp (reply.Superseded floor) = StandsAbove floor stamp
ShowsAbove stamp reply = (listing : ListingModel) × HasListing reply listing × (floor : Floor) × ListsFloor listing stamp floor

-- a known reply of the place
pub record HeardAt (learnt : Learnt) (place : PlaceModel) (P : Heard → Type 0) : Type 0 where
  pub heard : Heard
  pub known : Contains learnt.heard heard
  pub same_place : place_in heard.msg ≡ Some place
  pub shows : P heard

-- ---- decided stamps

-- a device stored the archive of an index
abbrev pub IsSynced : List Heard → PlaceModel → ℕ → Target → Type 0
IsSynced heard place stamp target = (bytes : List ℕ) × Contains heard (record { device = target.device; msg = message.PutFrag place stamp target.index bytes; reply = reply.Synced })

-- Replies decide a stamp: q devices stored archives of different indices, each the primary of its index or a handoff.
pub record IsDecided (cluster : ClusterModel) (heard : List Heard) (place : PlaceModel) (stamp : ℕ) : Type 0 where
  pub targets : List Target
  pub enough : cluster.policy.q ≤ length targets
  pub indices : AllPairs (λ one other. one.index ≢ other.index) targets
  pub devices : AllPairs (λ one other. one.device ≢ other.device) targets
  pub homes : All (IsHome cluster place) targets
  pub synced : All (IsSynced heard place stamp) targets

-- ---- warrants

-- the bytes are the archive of an index of a put that was started
pub record IsOfPut (cluster : ClusterModel) (book : List Booked) (place : PlaceModel) (stamp index : ℕ) (bytes : List ℕ) : Type 0 where
  pub booked : Booked
  pub known : Contains book booked
  pub stamp_is : booked.stamp ≡ stamp
  pub place_is : place_of_name cluster booked.name ≡ place
  pub index_below : index < cluster.policy.k + cluster.policy.m
  pub archive : bytes ≡ put_archive cluster.policy stamp booked.name booked.object index

-- a delete of that stamp was started
abbrev pub IsOfDelete : ClusterModel → List Marked → PlaceModel → ℕ → Type 0
IsOfDelete cluster marks place stamp = (marked : Marked) × Contains marks marked × (marked.stamp ≡ stamp) × (place_of_name cluster marked.name ≡ place)

-- a message is warranted by what is known
abbrev pub IsWarranted : ClusterModel → Learnt → Msg → Type 0
IsWarranted cluster learnt (message.PutFrag place stamp index bytes) = IsOfPut cluster learnt.book place stamp index bytes
IsWarranted cluster learnt (message.Commit place stamp index) =
    IsDecided cluster learnt.heard place stamp ⊎ HeardAt learnt place (λ heard. (listing : ListingModel) × HasListing heard.reply listing
    × (other : ℕ) × Contains listing.entries (record { stamp = stamp; index = other; durable = true }))
IsWarranted cluster learnt (message.Delete place stamp) =
    IsOfDelete cluster learnt.marks place stamp ⊎ HeardAt learnt place (λ heard. (listing : ListingModel) × HasListing heard.reply listing × Contains listing.tombstones stamp)
IsWarranted cluster learnt (message.Remove place stamp index) =
    HeardAt learnt place (λ heard. IsPrimaryOf cluster place index heard.device × (ShowsDurable stamp index heard.msg heard.reply ⊎ ShowsAbove stamp heard.reply))
IsWarranted cluster learnt (message.Ask place) = ⊤
IsWarranted cluster learnt (message.Fetch place stamp index) = ⊤
IsWarranted cluster learnt message.Parts = ⊤
IsWarranted cluster learnt (message.Suffixes part) = ⊤
IsWarranted cluster learnt (message.Places part) = ⊤
