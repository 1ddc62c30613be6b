-- What was answered to a sync, and what devices and archives this shows.
use Rattle.std.specs.Prelude.{◌≡◌, ◌≢◌, ℕ, ◌+◌, ◌<◌, Bool, true, false, List, ◌++◌, ◌∷◌, Contains, Option, Some, None}
use Rattle.std.specs.List.{All, AllPairs}
use Rattle.sw_hashdir.specs.Directory.{IsAbove}
use Rattle.sw_hashdir.specs.Listing.{ListingModel}
use Rattle.sw_hashdir.specs.declared.floor.Floor.{Floor}
use Rattle.sw_archive.specs.Archive.{ArchiveModel, IsArchive}
use Rattle.sw_message.specs.Floors.{floors_in}
use Rattle.sw_message.specs.Message.{IsMember, is_primary}
use Rattle.sw_message.specs.Miss.{miss_of}
use Rattle.sw_message.specs.Spoil.{IsAsked, IsOfPlace, IsSpoil}
use Rattle.sw_message.specs.Transcript.{Closed, Step}
use Rattle.sw_message.specs.Warrant.{IsPrimaryOf}
use Rattle.sw_message.specs.declared.message.Msg.{Msg}
use Rattle.sw_message.specs.declared.message.Msg.TheVariants as message
use Rattle.sw_message.specs.declared.miss.Miss.{Miss}
use Rattle.sw_message.specs.declared.miss.Miss.TheVariants as miss
use Rattle.sw_message.specs.declared.reply.Reply.{Reply}
use Rattle.sw_message.specs.declared.reply.Reply.TheVariants as reply
use Rattle.sw_message.specs.declared.spoil.Foreign.TheVariants as foreign
use Rattle.sw_message.specs.declared.spoil.Spoil.TheVariants as spoil
use Rattle.sw_message.specs.declared.target.Target.{Target}
use Rattle.sw_gather.specs.Gathered.{Strays}
use Rattle.sw_sync.specs.Sync.{Begun}

-- ---- questions

-- a device answered a message, or it was given up
abbrev pub WasTold : List Step → (device : ℕ) → Msg → Option Reply → Type 0
WasTold past device msg answer = (ticket : ℕ) × Contains past (Closed (record { ticket = ticket; device = device; msg = msg }) answer)

-- a device listed this
abbrev pub WasListed : Begun → List Step → (device : ℕ) → ListingModel → Type 0
WasListed begun past device listing = WasTold past device (message.Ask begun.place) (Some (reply.Held listing))

-- an answer to a question is a miss
abbrev pub IsMissedAsk : Option Reply → Miss → Type 0
IsMissedAsk None how = how ≡ miss.NoReply
IsMissedAsk (Some (reply.Held listing)) how = ⊥
IsMissedAsk (Some other) how = how ≡ miss_of other

pub record MissedAsk (begun : Begun) (past : List Step) (device : ℕ) (how : Miss) : Type 0 where
  pub answer : Option Reply
  pub told : WasTold past device (message.Ask begun.place) answer
  pub missed : IsMissedAsk answer how

-- a device was asked, and answered or was given up
abbrev pub WasAsked : Begun → List Step → (device : ℕ) → Type 0
WasAsked begun past device = (answer : Option Reply) × WasTold past device (message.Ask begun.place) answer

-- so did each device of the cluster; or each handoff of the place
abbrev pub AllAnswered : Begun → List Step → Type 0
AllAnswered begun past = (device : ℕ) → IsMember begun.cluster device → WasAsked begun past device

abbrev pub HandoffsAnswered : Begun → List Step → Type 0
HandoffsAnswered begun past = (device : ℕ) → IsMember begun.cluster device → is_primary begun.cluster device begun.place ≡ false → WasAsked begun past device

-- ---- floors

-- a listing shows this floor and none above it
pub record HasFloor (listing : ListingModel) (floor : Floor) : Type 0 where
  pub shown : Contains (floors_in listing) floor
  pub none_above : (other : Floor) → Contains (floors_in listing) other → IsAbove other floor → ⊥

-- the own device listed this floor, and no device one above it
pub record IsOwnFloor (begun : Begun) (past : List Step) (floor : Floor) : Type 0 where
  pub listing : ListingModel
  pub own : WasListed begun past begun.device listing
  pub floor_is : HasFloor listing floor
  pub greatest : (device : ℕ) (other : ListingModel) (above : Floor) → WasListed begun past device other → Contains (floors_in other) above → IsAbove above floor → ⊥

-- ---- entries

-- the primary of an index listed its entry of a stamp, but not durable; or it listed none
pub record ListsPlain (begun : Begun) (past : List Step) (stamp : ℕ) (target : Target) : Type 0 where
  pub primary : IsPrimaryOf begun.cluster begun.place target.index target.device
  pub listing : ListingModel
  pub listed : WasListed begun past target.device listing
  pub plain : Contains listing.entries (record { stamp = stamp; index = target.index; durable = false })
  pub not_durable : Contains listing.entries (record { stamp = stamp; index = target.index; durable = true }) → ⊥

pub record ListsNone (begun : Begun) (past : List Step) (stamp : ℕ) (target : Target) : Type 0 where
  pub primary : IsPrimaryOf begun.cluster begun.place target.index target.device
  pub listing : ListingModel
  pub listed : WasListed begun past target.device listing
  pub none : (durable : Bool) → Contains listing.entries (record { stamp = stamp; index = target.index; durable = durable }) → ⊥

-- a device listed an entry of a stamp, of an index that the policy has
pub record IsSource (begun : Begun) (past : List Step) (stamp : ℕ) (source : Target) : Type 0 where
  pub listing : ListingModel
  pub listed : WasListed begun past source.device listing
  pub durable : Bool
  pub entry : Contains listing.entries (record { stamp = stamp; index = source.index; durable = durable })
  pub below : source.index < begun.cluster.policy.k + begun.cluster.policy.m

abbrev pub IsListed : Begun → List Step → (stamp index : ℕ) → Type 0
IsListed begun past stamp index = (device : ℕ) × IsSource begun past stamp (record { index = index; device = device })

-- these are all the indices that were listed, each once
pub record AreIndices (begun : Begun) (past : List Step) (stamp : ℕ) (indices : List ℕ) : Type 0 where
  pub each : All (IsListed begun past stamp) indices
  pub all : (index : ℕ) → IsListed begun past stamp index → Contains indices index
  pub distinct : AllPairs (λ a b. a ≢ b) indices

-- ---- archives

-- bytes are the archive of an index at the place and a stamp, with the policy's code
pub record IsArchiveAt (begun : Begun) (stamp index : ℕ) (bytes : List ℕ) (archive : ArchiveModel) : Type 0 where
  pub is : IsArchive bytes archive
  pub asked : IsAsked (IsOfPlace begun.cluster begun.place) begun.cluster.policy stamp index archive

-- a source sent the archive of its index
pub record WasBrought (begun : Begun) (past : List Step) (stamp : ℕ) (archive : ArchiveModel) : Type 0 where
  pub device : ℕ
  pub bytes : List ℕ
  pub told : WasTold past device (message.Fetch begun.place stamp archive.index) (Some (reply.Fragment bytes))
  pub is : IsArchiveAt begun stamp archive.index bytes archive

-- archives of different indices that were brought
pub record AreBrought (begun : Begun) (past : List Step) (stamp : ℕ) (archives : List ArchiveModel) : Type 0 where
  pub each : All (WasBrought begun past stamp) archives
  pub distinct : AllPairs (λ a b. a.index ≢ b.index) archives

-- why bytes that were fetched are spoiled: they are not what was asked for, or not of the object of others that were brought before
abbrev pub IsSpoilt : Begun → (before : List Step) → (stamp index : ℕ) → List ℕ → Miss → Type 0
IsSpoilt begun before stamp index bytes (miss.Spoiled (spoil.Foreign foreign.Object)) =
    (archive : ArchiveModel) × IsArchiveAt begun stamp index bytes archive
    × (others : List ArchiveModel) × AreBrought begun before stamp others × All (λ other. other.index ≢ index) others × Strays begun.cluster.policy others archive
IsSpoilt begun before stamp index bytes (miss.Spoiled other) = IsSpoil begun.cluster begun.place stamp index bytes other
IsSpoilt begun before stamp index bytes how = ⊥

-- an answer to a fetch is a miss
abbrev pub IsMissedFetch : Begun → (before : List Step) → (stamp index : ℕ) → Option Reply → Miss → Type 0
IsMissedFetch begun before stamp index None how = how ≡ miss.NoReply
IsMissedFetch begun before stamp index (Some (reply.Fragment bytes)) how = IsSpoilt begun before stamp index bytes how
IsMissedFetch begun before stamp index (Some (reply.Gone listing)) how = how ≡ miss.Gone
IsMissedFetch begun before stamp index (Some other) how = how ≡ miss_of other

pub record MissedFetch (begun : Begun) (past : List Step) (stamp : ℕ) (source : Target) (how : Miss) : Type 0 where
  pub later : List Step
  pub before : List Step
  pub ticket : ℕ
  pub answer : Option Reply
  pub told : past ≡ later ++ Closed (record { ticket = ticket; device = source.device; msg = message.Fetch begun.place stamp source.index }) answer ∷ before
  pub missed : IsMissedFetch begun before stamp source.index answer how
