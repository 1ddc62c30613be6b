-- The duties of devices: what was stored, made durable, shown or buried is held, went to the primary of its index, or was lost since the
-- put or delete began.
use Rattle.std.specs.Prelude.{◌≡◌, ◌⊎◌, ◌≤◌, ℕ, Bool, List, Contains, Some}
use Rattle.sw_disk.specs.Answers.{names_of}
use Rattle.sw_disk.specs.Folder.{File}
use Rattle.sw_hashpath.specs.FileName.{IsFileName, file_name_text}
use Rattle.sw_hashpath.specs.Place.{PlaceModel, folder_of}
use Rattle.sw_hashpath.specs.declared.file_name.FileName.{FileName}
use Rattle.sw_hashdir.specs.Directory.{IsDirectory, IsFloor, StandsAbove}
use Rattle.sw_hashdir.specs.declared.floor.Floor.{Floor}
use Rattle.sw_diskfile.specs.Normal.{IsNormalForm}
use Rattle.sw_ring.specs.Cluster.{ClusterModel, place_of_name}
use Rattle.sw_message.specs.Message.{is_primary, place_in}
use Rattle.sw_message.specs.Step.{Folders}
use Rattle.sw_message.specs.Warrant.{IsHome, IsPrimaryOf, ShowsAbove, ShowsDurable}
use Rattle.sw_message.specs.declared.message.Msg.TheVariants as message
use Rattle.sw_message.specs.declared.reply.Reply.TheVariants as reply
use Rattle.sw_message.specs.declared.target.Target.{Target}
use Rattle.sw_law_claim.specs.Claim.{ADurableEntry, AnEntry, IsWhat, What}
use Rattle.sw_law_scene.specs.Scene.{IsLostSince, Scene, StartedDelete, StartedPut}
use Rattle.sw_law_owed.specs.Promise.{Made, OnDisk, WasMade}

-- ---- folders

-- the normal form of a device's folder of a place
abbrev pub IsNormalAt : ClusterModel → (device : ℕ) → PlaceModel → Folders → List File → Type 0
IsNormalAt cluster device place folders normal = IsNormalForm (is_primary cluster device place) (folders (folder_of place)) normal

-- a device holds an entry of a stamp: the normal form of its folder has it
abbrev pub Holds : ClusterModel → (device : ℕ) → PlaceModel → (stamp : ℕ) → What → Folders → Type 0
Holds cluster device place stamp what folders =
    (normal : List File) × IsNormalAt cluster device place folders normal × (name : FileName) × IsFileName name × Contains (names_of normal) (file_name_text name) × IsWhat stamp what name

-- its folder has a floor of which this is true
abbrev pub HasFloorOf : PlaceModel → (Floor → Type 0) → Folders → Type 0
HasFloorOf place P folders = (names : List FileName) × IsDirectory (names_of (folders (folder_of place))) names × (floor : Floor) × IsFloor names (Some floor) × P floor

-- a primary holds the entry of an index durable, or its floor stands above the stamp
abbrev pub HoldsOrStands : ClusterModel → (device : ℕ) → PlaceModel → (stamp index : ℕ) → Folders → Type 0
HoldsOrStands cluster device place stamp index folders = Holds cluster device place stamp (ADurableEntry index) folders ⊎ HasFloorOf place (λ floor. StandsAbove floor stamp) folders

-- ---- duties

-- The duty for an entry that a device answered for, since a step. What is said of a disk is said of whatever it may hold.
pub data IsDutyKept (scene : Scene) (place : PlaceModel) (stamp start : ℕ) (target : Target) (what : What) : Type 0 where
  LostHere : IsLostSince scene target.device start → IsDutyKept scene place stamp start target what
  LostThere : (primary : ℕ) → IsPrimaryOf scene.cluster place target.index primary → IsLostSince scene primary start → IsDutyKept scene place stamp start target what
  -- the device holds it
  Here : OnDisk scene target.device (Holds scene.cluster target.device place stamp what) → IsDutyKept scene place stamp start target what
  -- the device is the primary of its index, and holds it or has a floor above
  Own : IsPrimaryOf scene.cluster place target.index target.device
      → OnDisk scene target.device (λ folders. Holds scene.cluster target.device place stamp what folders ⊎ HoldsOrStands scene.cluster target.device place stamp target.index folders)
      → IsDutyKept scene place stamp start target what
  -- the primary of its index has it durable or a floor above
  There : (primary : ℕ) → IsPrimaryOf scene.cluster place target.index primary → OnDisk scene primary (HoldsOrStands scene.cluster primary place stamp target.index) → IsDutyKept scene place stamp start target what

-- the place of the name that was put, or deleted
abbrev pub place_of_put : Scene → StartedPut → PlaceModel
place_of_put scene put = place_of_name scene.cluster put.booked.name

abbrev pub place_of_delete : Scene → StartedDelete → PlaceModel
place_of_delete scene delete = place_of_name scene.cluster delete.marked.name

pub record KeepsDuties (scene : Scene) : Type 0 where
  -- of each fragment that the primary of its index or a handoff has stored
  pub stored : (put : StartedPut) (target : Target) (made : Made) (bytes : List ℕ) → Contains scene.book put → IsHome scene.cluster (place_of_put scene put) target → WasMade scene made → made.device ≡ target.device
      → made.msg ≡ message.PutFrag (place_of_put scene put) put.booked.stamp target.index bytes → made.reply ≡ reply.Synced → IsDutyKept scene (place_of_put scene put) put.booked.stamp put.start target (AnEntry target.index)
  -- of each that it has made durable
  pub committed : (put : StartedPut) (target : Target) (made : Made) → Contains scene.book put → IsHome scene.cluster (place_of_put scene put) target → WasMade scene made → made.device ≡ target.device
      → made.msg ≡ message.Commit (place_of_put scene put) put.booked.stamp target.index → made.reply ≡ reply.Committed → IsDutyKept scene (place_of_put scene put) put.booked.stamp put.start target (ADurableEntry target.index)
  -- of what the primary of an index has shown
  pub shown : (put : StartedPut) (index : ℕ) (made : Made) → Contains scene.book put → IsPrimaryOf scene.cluster (place_of_put scene put) index made.device → WasMade scene made
      → place_in made.msg ≡ Some (place_of_put scene put) → ShowsDurable put.booked.stamp index made.msg made.reply ⊎ ShowsAbove put.booked.stamp made.reply
      → IsLostSince scene made.device put.start ⊎ OnDisk scene made.device (HoldsOrStands scene.cluster made.device (place_of_put scene put) put.booked.stamp index)
  -- and of each tombstone
  pub buried : (delete : StartedDelete) (made : Made) (existed : Bool) → Contains scene.marks delete → WasMade scene made → made.msg ≡ message.Delete (place_of_delete scene delete) delete.marked.stamp → made.reply ≡ reply.Deleted existed
      → IsLostSince scene made.device delete.start ⊎ OnDisk scene made.device (HasFloorOf (place_of_delete scene delete) (λ floor. delete.marked.stamp ≤ floor.stamp))
