-- What every scene of a run keeps of stamps: what devices hold, what messages ask to store, to make durable or to bury, and what replies
-- show are of puts and deletes that were started before; what is durable was decided before; and stamps rise in the order of their starts.
use Rattle.std.specs.Prelude.{◌≡◌, ◌≢◌, ◌≤◌, ◌<◌, ℕ, Bool, true, false, List, ◌++◌, Contains, length, map, Some, ⊤}
use Rattle.std.specs.List.{All, AllPairs}
use Rattle.sw_types.specs.Name.{NameModel}
use Rattle.sw_disk.specs.Answers.{names_of}
use Rattle.sw_hashdir.specs.Listing.{ListingModel}
use Rattle.sw_hashdir.specs.declared.entry.Entry.{Entry}
use Rattle.sw_hashdir.specs.declared.floor.FloorKind.{FloorKind}
use Rattle.sw_hashdir.specs.declared.floor.FloorKind.TheVariants as kind
use Rattle.sw_hashpath.specs.FileName.{IsFileName, file_name_text}
use Rattle.sw_hashpath.specs.Place.{IsPlace, PlaceModel, folder_of}
use Rattle.sw_hashpath.specs.declared.file_name.FileName.{FileName}
use Rattle.sw_hashpath.specs.declared.file_name.FileName.TheVariants.{Data, Tombstone}
use Rattle.sw_ring.specs.Cluster.{ClusterModel, place_of_name}
use Rattle.sw_message.specs.Message.{place_in}
use Rattle.sw_message.specs.Step.{Folders}
use Rattle.sw_message.specs.Warrant.{IsHome}
use Rattle.sw_message.specs.declared.message.Msg.{Msg}
use Rattle.sw_message.specs.declared.message.Msg.TheVariants as message
use Rattle.sw_message.specs.declared.reply.Reply.{Reply}
use Rattle.sw_message.specs.declared.reply.Reply.TheVariants as reply
use Rattle.sw_message.specs.declared.sent.Sent.{Sent}
use Rattle.sw_message.specs.declared.target.Target.{Target}
use Rattle.sw_law_scene.specs.Scene.{Request, Scene, StartedDelete, StartedPut}
use Rattle.sw_law_owed.specs.Promise.{Made, OnDisk, WasMade}

-- ---- what was started

-- a put of the stamp, at the place of its name, was started by a step
abbrev pub WasPut : Scene → PlaceModel → (stamp by : ℕ) → Type 0
WasPut scene place stamp by =
    (put : StartedPut) × Contains scene.book put × (put.booked.stamp ≡ stamp) × (place_of_name scene.cluster put.booked.name ≡ place) × (put.start ≤ by)

-- a delete was
abbrev pub WasDeleted : Scene → PlaceModel → (stamp by : ℕ) → Type 0
WasDeleted scene place stamp by =
    (delete : StartedDelete) × Contains scene.marks delete × (delete.marked.stamp ≡ stamp) × (place_of_name scene.cluster delete.marked.name ≡ place) × (delete.start ≤ by)

-- ---- what was decided

-- fragments of different indices at different devices, each the primary of its index or a handoff
pub record AreApart (cluster : ClusterModel) (place : PlaceModel) (targets : List Target) : Type 0 where
  pub indices : AllPairs (λ one other. one.index ≢ other.index) targets
  pub devices : AllPairs (λ one other. one.device ≢ other.device) targets
  pub homes : All (IsHome cluster place) targets

-- before a step a device answered that it has stored the archive of an index
abbrev pub WasStored : Scene → PlaceModel → (stamp by : ℕ) → Target → Type 0
WasStored scene place stamp by target =
    (made : Made) × WasMade scene made × (made.at < by) × (made.device ≡ target.device) × (bytes : List ℕ) × (made.msg ≡ message.PutFrag place stamp target.index bytes) × (made.reply ≡ reply.Synced)

-- before a step so many devices had stored archives as a quorum asks for
pub record WasDecided (scene : Scene) (place : PlaceModel) (stamp by : ℕ) : Type 0 where
  pub targets : List Target
  pub enough : scene.cluster.policy.q ≤ length targets
  pub apart : AreApart scene.cluster place targets
  pub stored : All (WasStored scene place stamp by) targets

-- ---- what is held and said

-- an entry is of a put, and a durable one of a decided stamp
pub record IsEntryBy (scene : Scene) (place : PlaceModel) (stamp : ℕ) (durable : Bool) (by : ℕ) : Type 0 where
  pub put : WasPut scene place stamp by
  pub decided : durable ≡ true → WasDecided scene place stamp by

-- a file is so by its name, and a tombstone is of a delete
abbrev pub IsNameBy : Scene → PlaceModel → (by : ℕ) → FileName → Type 0
IsNameBy scene place by (Data stamp index durable) = IsEntryBy scene place stamp durable by
IsNameBy scene place by (Tombstone stamp) = WasDeleted scene place stamp by

-- so is each file of each place in these folders
abbrev pub AreNamesBy : Scene → (by : ℕ) → Folders → Type 0
AreNamesBy scene by folders =
    (place : PlaceModel) (name : FileName) → IsPlace scene.cluster.part_power place → IsFileName name → Contains (names_of (folders (folder_of place))) (file_name_text name) → IsNameBy scene place by name

-- and all that a listing shows
pub record IsListingBy (scene : Scene) (place : PlaceModel) (by : ℕ) (listing : ListingModel) : Type 0 where
  pub entries : (entry : Entry) → Contains listing.entries entry → IsEntryBy scene place entry.stamp entry.durable by
  pub tombstones : (stamp : ℕ) → Contains listing.tombstones stamp → WasDeleted scene place stamp by

-- and a floor
abbrev pub IsFloorBy : Scene → PlaceModel → (by stamp : ℕ) → FloorKind → Type 0
IsFloorBy scene place by stamp kind.Durable = IsEntryBy scene place stamp true by
IsFloorBy scene place by stamp kind.Tombstone = WasDeleted scene place stamp by

-- and a reply
abbrev pub IsReplyBy : Scene → PlaceModel → (by : ℕ) → Reply → Type 0
IsReplyBy scene place by (reply.Held listing) = IsListingBy scene place by listing
IsReplyBy scene place by (reply.Gone listing) = IsListingBy scene place by listing
IsReplyBy scene place by (reply.Superseded floor) = IsFloorBy scene place by floor.stamp floor.kind
IsReplyBy scene place by other = ⊤

-- a message stores, makes durable or buries nothing but what was put, decided or deleted
abbrev pub IsMessageBy : Scene → (by : ℕ) → Msg → Type 0
IsMessageBy scene by (message.PutFrag place stamp index bytes) = WasPut scene place stamp by
IsMessageBy scene by (message.Commit place stamp index) = IsEntryBy scene place stamp true by
IsMessageBy scene by (message.Delete place stamp) = WasDeleted scene place stamp by
IsMessageBy scene by other = ⊤

-- ---- stamps

-- a stamp that was drawn, at a step, for a put or a delete of a name
pub record Draw : Type 0 where
  pub stamp : ℕ
  pub start : ℕ
  pub name : NameModel
  pub is_delete : Bool

abbrev pub draws_of : Scene → List Draw
draws_of scene = map (λ (put : StartedPut). record { stamp = put.booked.stamp; start = put.start; name = put.booked.name; is_delete = false }) scene.book
    ++ map (λ (delete : StartedDelete). record { stamp = delete.marked.stamp; start = delete.start; name = delete.marked.name; is_delete = true }) scene.marks

-- Of two draws the one with the smaller stamp came earlier, draws of one stamp are one, and each was before now.
pub record Rise (scene : Scene) : Type 0 where
  pub rise : (one other : Draw) → Contains (draws_of scene) one → Contains (draws_of scene) other → one.stamp < other.stamp → one.start < other.start
  pub same : (one other : Draw) → Contains (draws_of scene) one → Contains (draws_of scene) other → one.stamp ≡ other.stamp → one ≡ other
  pub before : (one : Draw) → Contains (draws_of scene) one → one.start < scene.now

-- ---- what is kept

pub record KeepsStamps (scene : Scene) : Type 0 where
  pub rise : Rise scene
  pub disks : (device : ℕ) → OnDisk scene device (AreNamesBy scene scene.now)
  pub replies : (made : Made) (place : PlaceModel) → WasMade scene made → place_in made.msg ≡ Some place → IsReplyBy scene place made.at made.reply
  pub requests : (at operation : ℕ) (sent : Sent) → Contains scene.messages (Request at operation sent) → IsMessageBy scene at sent.msg
