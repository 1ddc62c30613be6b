-- What a pass hands out and why, and what it has done at its end, by what was answered.
use Rattle.std.specs.Prelude.{◌≡◌, ◌≢◌, ℕ, ◌^◌, ◌<◌, true, false, List, take, Contains, Option, Some, None, ⊤}
use Rattle.std.specs.List.{AllPairs}
use Rattle.sw_hashpath.specs.Place.{PlaceModel, part_of}
use Rattle.sw_suffix.specs.Suffix.{suffix_number}
use Rattle.sw_suffix.specs.Table.{Hashed, hash_at}
use Rattle.sw_ring.specs.Cluster.{column_of}
use Rattle.sw_ring.specs.Ring.{is_among}
use Rattle.sw_message.specs.Message.{is_primary, place_in}
use Rattle.sw_message.specs.Transcript.{Step}
use Rattle.sw_message.specs.declared.message.Msg.{Msg}
use Rattle.sw_message.specs.declared.message.Msg.TheVariants as message
use Rattle.sw_message.specs.declared.reply.Reply.{Reply}
use Rattle.sw_message.specs.declared.reply.Reply.TheVariants as reply
use Rattle.sw_sync.specs.Answers.{WasTold}
use Rattle.sw_daemon.specs.Pass.{Begun}

-- ---- what was answered

-- a device answered a message, or it was given up
abbrev pub WasAsked : List Step → (device : ℕ) → Msg → Type 0
WasAsked past device msg = (answer : Option Reply) × WasTold past device msg answer

-- so many of the partitions that are listed are treated, and so many of the places of each
abbrev pub treated_parts : ℕ
treated_parts = 65536

abbrev pub treated_places : ℕ
treated_places = 16777216

-- its own device listed a partition among those that are treated, and the ring has it
pub record IsPart (begun : Begun) (past : List Step) (part : ℕ) : Type 0 where
  pub parts : List ℕ
  pub told : WasTold past begun.device message.Parts (Some (reply.PartList parts))
  pub listed : Contains (take treated_parts parts) part
  pub below : part < 2 ^ begun.cluster.part_power

-- it listed a place of such a partition among those that are treated, and it is that of its hash
pub record IsHeld (begun : Begun) (past : List Step) (place : PlaceModel) : Type 0 where
  pub part : IsPart begun past place.part
  pub places : List PlaceModel
  pub told : WasTold past begun.device (message.Places place.part) (Some (reply.PlaceList places))
  pub listed : Contains (take treated_places places) place
  pub right : place.part ≡ part_of place.hash begun.cluster.part_power

abbrev pub IsPrimaryIn : Begun → (part device : ℕ) → Type 0
IsPrimaryIn begun part device = is_among (column_of begun.cluster part) device ≡ true

-- an answer of another primary differs from the own one at a suffix: it missed, or has another hash there, or one of them has none
abbrev pub DiffersAt : List Hashed → ℕ → Option Reply → Type 0
DiffersAt own suffix (Some (reply.SuffixList hashes)) = hash_at suffix own ≢ hash_at suffix hashes
DiffersAt own suffix other = ⊤

-- some other primary of the partition differs at a suffix from what its own device listed
pub record IsDifferent (begun : Begun) (past : List Step) (part suffix : ℕ) : Type 0 where
  pub own : List Hashed
  pub own_told : WasTold past begun.device (message.Suffixes part) (Some (reply.SuffixList own))
  pub device : ℕ
  pub other : device ≢ begun.device
  pub primary : IsPrimaryIn begun part device
  pub answer : Option Reply
  pub told : WasTold past device (message.Suffixes part) answer
  pub differs : DiffersAt own suffix answer

-- ---- messages

-- A job is run on a place that its own device holds: where that is a primary of the place, only if another primary differs.
pub record MayTreat (begun : Begun) (past : List Step) (place : PlaceModel) : Type 0 where
  pub held : IsHeld begun past place
  pub differs : is_primary begun.cluster begun.device place ≡ true → IsDifferent begun past place.part (suffix_number place.hash)

-- its own device is asked for its partitions, and for the places of each; the primaries of a partition, its own device being one, for
-- their suffixes; all else is a message of a job
abbrev pub MaySendOf : Begun → List Step → (device : ℕ) → Msg → Option PlaceModel → Type 0
MaySendOf begun past device msg (Some place) = MayTreat begun past place
MaySendOf begun past device message.Parts None = device ≡ begun.device
MaySendOf begun past device (message.Places part) None = (device ≡ begun.device) × IsPart begun past part
MaySendOf begun past device (message.Suffixes part) None = IsPart begun past part × IsPrimaryIn begun part begun.device × IsPrimaryIn begun part device
MaySendOf begun past device other None = ⊥

abbrev pub MaySend : Begun → List Step → (device : ℕ) → Msg → Type 0
MaySend begun past device msg = MaySendOf begun past device msg (place_in msg)

-- ---- at its end

-- the own device listed places of a partition, or suffixes
abbrev pub ListsPlaces : Begun → List Step → ℕ → Type 0
ListsPlaces begun past part = (places : List PlaceModel) × WasTold past begun.device (message.Places part) (Some (reply.PlaceList places))

abbrev pub ListsSuffixes : Begun → List Step → ℕ → Type 0
ListsSuffixes begun past part = (own : List Hashed) × WasTold past begun.device (message.Suffixes part) (Some (reply.SuffixList own))

-- a job was run on a place: each begins with a question to its own device
abbrev pub WasTreated : Begun → List Step → PlaceModel → Type 0
WasTreated begun past place = WasAsked past begun.device (message.Ask place)

-- no partition was listed twice
abbrev pub AreOnce : Begun → List Step → Type 0
AreOnce begun past = (parts : List ℕ) → WasTold past begun.device message.Parts (Some (reply.PartList parts)) → AllPairs (λ one other. one ≢ other) (take treated_parts parts)

-- Each partition was treated, and each place of it that was to be.
pub record IsWhole (begun : Begun) (past : List Step) : Type 0 where
  pub parts : WasAsked past begun.device message.Parts
  pub places : (part : ℕ) → IsPart begun past part → WasAsked past begun.device (message.Places part)
  pub own : (part : ℕ) → IsPart begun past part → IsPrimaryIn begun part begun.device → ListsPlaces begun past part → WasAsked past begun.device (message.Suffixes part)
  pub others : (part device : ℕ) → IsPart begun past part → IsPrimaryIn begun part begun.device → ListsPlaces begun past part → ListsSuffixes begun past part → IsPrimaryIn begun part device
      → WasAsked past device (message.Suffixes part)
  pub reverted : (place : PlaceModel) → IsHeld begun past place → is_primary begun.cluster begun.device place ≡ false → WasTreated begun past place
  pub synced : (place : PlaceModel) → IsHeld begun past place → is_primary begun.cluster begun.device place ≡ true → IsDifferent begun past place.part (suffix_number place.hash) → WasTreated begun past place
