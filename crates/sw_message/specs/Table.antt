-- The table of a node: how it handles each message about a place, one constructor for each row.
use Rattle.std.specs.Prelude.{◌≡◌, ◌⊎◌, ◌↔◌, ℕ, ◌<◌, ◌≤◌, Bool, true, false, List, [], ◌∷◌, ◌++◌, Contains, length, map, Some}
use Rattle.std.specs.List.{AllPairs}
use Rattle.std.specs.Cmp.Lexicographic.{slice_cmp}
use Rattle.std.specs.Ordering.{nat_cmp}
use Rattle.std.specs.declared.cmp.Ordering.TheVariants.{Less}
use Rattle.sw_disk.specs.Calls.{Call, ListNames, ReadFile}
use Rattle.sw_disk.specs.Folder.{Change, Remove, Rename}
use Rattle.sw_hashpath.specs.FileName.{file_name_text}
use Rattle.sw_hashpath.specs.Place.{PlaceModel, folder_of}
use Rattle.sw_hashpath.specs.declared.file_name.FileName.{FileName}
use Rattle.sw_hashpath.specs.declared.file_name.FileName.TheVariants.{Data, Tombstone}
use Rattle.sw_hashdir.specs.Directory.{HasEntryAt, IsFloor, StandsAbove}
use Rattle.sw_hashdir.specs.Listing.{IsListingOf, ListingModel}
use Rattle.sw_hashdir.specs.Obsolete.{IsAfter}
use Rattle.sw_hashdir.specs.declared.floor.Floor.{Floor}
use Rattle.sw_hashdir.specs.declared.floor.FloorKind.TheVariants as kind
use Rattle.sw_diskfile.specs.Calls.{commit_calls, drop_calls, purge_calls, store_calls}
use Rattle.sw_diskfile.specs.Changes.{new_file}
use Rattle.sw_diskfile.specs.Normal.{IsObsoleteText}
use Rattle.sw_ring.specs.Cluster.{ClusterModel}
use Rattle.sw_message.specs.Message.{is_primary}
use Rattle.sw_message.specs.Spoil.{IsArchiveOf, IsSpoil}
use Rattle.sw_message.specs.declared.message.Msg.{Msg}
use Rattle.sw_message.specs.declared.message.Msg.TheVariants as message
use Rattle.sw_message.specs.declared.reply.Reply.{Reply}
use Rattle.sw_message.specs.declared.reply.Reply.TheVariants.{Synced, Committed, Deleted, Superseded, Missing, Held, Fragment, Gone, Spoiled, Kept, Removed, NoSpace}
use Rattle.sw_message.specs.declared.spoil.Spoil.{Spoil}

-- what a node finds: the names of files in a folder, the bytes of each, and how many are free on the disk
pub record Found : Type 0 where
  pub names : List FileName
  pub bytes : FileName → List ℕ
  pub room : ℕ

-- how it handles a message: what it answers, its device calls in their order, and the changes of names that they make
pub record Handling : Type 0 where
  pub reply : Reply
  pub calls : List Call
  pub changes : List Change

-- it looks at the folder and answers
abbrev pub answers : List ℕ → Reply → Handling
answers folder reply = record { reply = reply; calls = ListNames folder ∷ []; changes = [] }

-- it looks at the folder, goes on with calls that make changes, and answers
abbrev pub answers_after : List ℕ → List Call → List Change → Reply → Handling
answers_after folder calls changes reply = record { reply = reply; calls = ListNames folder ∷ calls; changes = changes }

-- the file of a name is read
abbrev pub read_calls : List ℕ → FileName → List Call
read_calls folder name = ReadFile folder (file_name_text name) ∷ []

-- ---- what decides

abbrev pub plain_text : (stamp index : ℕ) → List ℕ
plain_text stamp index = file_name_text (Data stamp index false)

abbrev pub durable_text : (stamp index : ℕ) → List ℕ
durable_text stamp index = file_name_text (Data stamp index true)

abbrev pub tombstone_text : ℕ → List ℕ
tombstone_text stamp = file_name_text (Tombstone stamp)

-- an entry is not there
abbrev pub LacksEntry : List FileName → (stamp index : ℕ) → Type 0
LacksEntry names stamp index = (durable : Bool) → Contains names (Data stamp index durable) → ⊥

-- the floor stands above a stamp
abbrev pub IsCovered : List FileName → ℕ → Floor → Type 0
IsCovered names stamp floor = IsFloor names (Some floor) × StandsAbove floor stamp

abbrev pub IsUncovered : List FileName → ℕ → Type 0
IsUncovered names stamp = (floor : Floor) → IsCovered names stamp floor → ⊥

-- the floor refuses a tombstone: its stamp is greater, or equal and durable
abbrev pub Refuses : List FileName → ℕ → Floor → Type 0
Refuses names stamp floor = IsFloor names (Some floor) × ((stamp < floor.stamp) ⊎ ((floor.stamp ≡ stamp) × (floor.kind ≡ kind.Durable)))

abbrev pub Allows : List FileName → ℕ → Type 0
Allows names stamp = (floor : Floor) → Refuses names stamp floor → ⊥

-- the floor is durable
abbrev pub HasDurableFloor : List FileName → Type 0
HasDurableFloor names = (floor : Floor) × IsFloor names (Some floor) × (floor.kind ≡ kind.Durable)

-- these are the texts of all names that are obsolete once this name was made, ascending
pub record ArePurged (is_primary : Bool) (made : FileName) (names : List FileName) (obsolete : List (List ℕ)) : Type 0 where
  pub later : List FileName
  pub after : IsAfter made names later
  pub all : (text : List ℕ) → Contains obsolete text ↔ IsObsoleteText is_primary later text
  pub ascend : AllPairs (λ a b. slice_cmp nat_cmp a b ≡ Less) obsolete

-- ---- the rows

-- an archive is stored unless it is spoiled, the floor stands above it, it is there, or the disk is full
pub data HandlesPutFrag (cluster : ClusterModel) (place : PlaceModel) (stamp index : ℕ) (bytes : List ℕ) (found : Found) (handling : Handling) : Type 0 where
  PutFragSpoiled : (spoil : Spoil) → IsSpoil cluster place stamp index bytes spoil
      → handling ≡ answers (folder_of place) (Spoiled spoil) → HandlesPutFrag cluster place stamp index bytes found handling
  PutFragSuperseded : IsArchiveOf cluster place stamp index bytes → (floor : Floor) → IsCovered found.names stamp floor
      → handling ≡ answers (folder_of place) (Superseded floor) → HandlesPutFrag cluster place stamp index bytes found handling
  PutFragThere : IsArchiveOf cluster place stamp index bytes → IsUncovered found.names stamp → (durable : Bool) → HasEntryAt found.names stamp index durable
      → handling ≡ answers (folder_of place) Synced → HandlesPutFrag cluster place stamp index bytes found handling
  PutFragFull : IsArchiveOf cluster place stamp index bytes → IsUncovered found.names stamp → LacksEntry found.names stamp index → found.room < length bytes
      → handling ≡ answers_after (folder_of place) (store_calls (folder_of place) (plain_text stamp index) bytes) [] (NoSpace (length bytes) found.room)
      → HandlesPutFrag cluster place stamp index bytes found handling
  PutFragStored : IsArchiveOf cluster place stamp index bytes → IsUncovered found.names stamp → LacksEntry found.names stamp index → length bytes ≤ found.room
      → handling ≡ answers_after (folder_of place) (store_calls (folder_of place) (plain_text stamp index) bytes) (new_file (plain_text stamp index) bytes ∷ []) Synced
      → HandlesPutFrag cluster place stamp index bytes found handling

-- an entry that is there becomes durable, and what that makes obsolete goes
pub data HandlesCommit (primary : Bool) (place : PlaceModel) (stamp index : ℕ) (found : Found) (handling : Handling) : Type 0 where
  CommitThere : HasEntryAt found.names stamp index true
      → handling ≡ answers (folder_of place) Committed → HandlesCommit primary place stamp index found handling
  CommitRenamed : HasEntryAt found.names stamp index false → (obsolete : List (List ℕ)) → ArePurged primary (Data stamp index true) found.names obsolete
      → handling ≡ answers_after (folder_of place)
      (commit_calls (folder_of place) (plain_text stamp index) (durable_text stamp index) ++ purge_calls (folder_of place) obsolete)
      (Rename (plain_text stamp index) (durable_text stamp index) ∷ map Remove obsolete) Committed
      → HandlesCommit primary place stamp index found handling
  CommitSuperseded : LacksEntry found.names stamp index → (floor : Floor) → IsCovered found.names stamp floor
      → handling ≡ answers (folder_of place) (Superseded floor) → HandlesCommit primary place stamp index found handling
  CommitMissing : LacksEntry found.names stamp index → IsUncovered found.names stamp
      → handling ≡ answers (folder_of place) Missing → HandlesCommit primary place stamp index found handling

-- a tombstone is written unless the floor refuses it or it is there, and what that makes obsolete goes
pub data HandlesDelete (primary : Bool) (place : PlaceModel) (stamp : ℕ) (found : Found) (handling : Handling) : Type 0 where
  DeleteSuperseded : (floor : Floor) → Refuses found.names stamp floor
      → handling ≡ answers (folder_of place) (Superseded floor) → HandlesDelete primary place stamp found handling
  DeleteThere : Allows found.names stamp → (existed : Bool) → (existed ≡ true) ↔ HasDurableFloor found.names → Contains found.names (Tombstone stamp)
      → handling ≡ answers (folder_of place) (Deleted existed) → HandlesDelete primary place stamp found handling
  DeleteWritten : Allows found.names stamp → (existed : Bool) → (existed ≡ true) ↔ HasDurableFloor found.names → (Contains found.names (Tombstone stamp) → ⊥)
      → (obsolete : List (List ℕ)) → ArePurged primary (Tombstone stamp) found.names obsolete
      → handling ≡ answers_after (folder_of place) (store_calls (folder_of place) (tombstone_text stamp) [] ++ purge_calls (folder_of place) obsolete)
      (new_file (tombstone_text stamp) [] ∷ map Remove obsolete) (Deleted existed)
      → HandlesDelete primary place stamp found handling

-- the folder is listed
pub data HandlesAsk (place : PlaceModel) (found : Found) (handling : Handling) : Type 0 where
  AskListed : (listing : ListingModel) → IsListingOf found.names listing
      → handling ≡ answers (folder_of place) (Held listing) → HandlesAsk place found handling

-- an entry that is there is read
pub data HandlesFetch (cluster : ClusterModel) (place : PlaceModel) (stamp index : ℕ) (found : Found) (handling : Handling) : Type 0 where
  FetchGone : LacksEntry found.names stamp index → (listing : ListingModel) → IsListingOf found.names listing
      → handling ≡ answers (folder_of place) (Gone listing) → HandlesFetch cluster place stamp index found handling
  FetchRead : (durable : Bool) → HasEntryAt found.names stamp index durable → IsArchiveOf cluster place stamp index (found.bytes (Data stamp index durable))
      → handling ≡ answers_after (folder_of place) (read_calls (folder_of place) (Data stamp index durable)) [] (Fragment (found.bytes (Data stamp index durable)))
      → HandlesFetch cluster place stamp index found handling
  FetchSpoiled : (durable : Bool) → HasEntryAt found.names stamp index durable → (spoil : Spoil)
      → IsSpoil cluster place stamp index (found.bytes (Data stamp index durable)) spoil
      → handling ≡ answers_after (folder_of place) (read_calls (folder_of place) (Data stamp index durable)) [] (Spoiled spoil)
      → HandlesFetch cluster place stamp index found handling

-- an entry that is there goes, where the device is a handoff
pub data HandlesRemove (primary : Bool) (place : PlaceModel) (stamp index : ℕ) (found : Found) (handling : Handling) : Type 0 where
  RemoveKept : primary ≡ true
      → handling ≡ answers (folder_of place) Kept → HandlesRemove primary place stamp index found handling
  RemoveMissing : primary ≡ false → LacksEntry found.names stamp index
      → handling ≡ answers (folder_of place) Missing → HandlesRemove primary place stamp index found handling
  RemoveDropped : primary ≡ false → (durable : Bool) → HasEntryAt found.names stamp index durable
      → handling ≡ answers_after (folder_of place) (drop_calls (folder_of place) (file_name_text (Data stamp index durable))) (Remove (file_name_text (Data stamp index durable)) ∷ []) Removed
      → HandlesRemove primary place stamp index found handling

-- the table, for a device of the cluster
abbrev pub IsHandled : ClusterModel → ℕ → Found → Msg → Handling → Type 0
IsHandled cluster device found (message.PutFrag place stamp index bytes) handling = HandlesPutFrag cluster place stamp index bytes found handling
IsHandled cluster device found (message.Commit place stamp index) handling = HandlesCommit (is_primary cluster device place) place stamp index found handling
IsHandled cluster device found (message.Delete place stamp) handling = HandlesDelete (is_primary cluster device place) place stamp found handling
IsHandled cluster device found (message.Ask place) handling = HandlesAsk place found handling
IsHandled cluster device found (message.Fetch place stamp index) handling = HandlesFetch cluster place stamp index found handling
IsHandled cluster device found (message.Remove place stamp index) handling = HandlesRemove (is_primary cluster device place) place stamp index found handling
IsHandled cluster device found message.Parts handling = ⊥
IsHandled cluster device found (message.Suffixes part) handling = ⊥
IsHandled cluster device found (message.Places part) handling = ⊥
