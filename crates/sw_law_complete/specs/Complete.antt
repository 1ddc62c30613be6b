-- Operations beside which nothing else steps, on devices that are all up: how they end.
use Rattle.std.specs.Prelude.{◌≡◌, ◌≢◌, ◌≤◌, ◌<◌, ℕ, ◌+◌, Bool, true, List, Contains, length, Some, ⊤}
use Rattle.std.specs.List.{All, AllPairs}
use Rattle.sw_disk.specs.Answers.{names_of}
use Rattle.sw_types.specs.Name.{NameModel}
use Rattle.sw_types.specs.Object.{ObjectModel}
use Rattle.sw_hashpath.specs.Place.{PlaceModel, folder_of}
use Rattle.sw_hashpath.specs.declared.file_name.FileName.{FileName}
use Rattle.sw_hashpath.specs.declared.file_name.FileName.TheVariants.{Data}
use Rattle.sw_hashdir.specs.Directory.{HasFloor, IsAbove, IsDirectory}
use Rattle.sw_hashdir.specs.declared.floor.Floor.{Floor}
use Rattle.sw_archive.specs.Put.{put_archive}
use Rattle.sw_ring.specs.Cluster.{ClusterModel, place_of_name}
use Rattle.sw_message.specs.Message.{IsMember}
use Rattle.sw_message.specs.Step.{Folders}
use Rattle.sw_law_scene.specs.Devices.{IsFree, capacity_of}
use Rattle.sw_law_scene.specs.Disks.{Sure}
use Rattle.sw_law_scene.specs.Scene.{Scene, StartedPut, disk_of, is_up}
use Rattle.sw_core.specs.Event.{Deliver, Event, Happens, IsRun, Job, Start}
use Rattle.sw_core.specs.World.{Operating, World, numbered}
use Rattle.sw_law_alone.specs.Alone.{LeadsAlone}

-- ---- what happens

-- a message is delivered
abbrev pub IsDelivery : Event → Type 0
IsDelivery (Deliver message) = ⊤
IsDelivery other = ⊥

-- In a run an operation starts, and its own messages are delivered, none given up, until it is over; nothing steps beside it.
pub record RunsAlone (cluster : ClusterModel) (old : World) (job : Job) (new : World) (operation : Operating) : Type 0 where
  pub earlier : List Event
  pub run : IsRun cluster earlier old
  pub started : World
  pub starts : Happens (Start job) old started
  pub own : List Event
  pub leads : LeadsAlone (length old.operations + 1) started own new
  pub delivers : All IsDelivery own
  pub there : numbered new.operations (length old.operations + 1) ≡ Some operation
  pub over : operation.is_over ≡ true

-- each device is up, and sure of what is on its disk
pub record AreReady (scene : Scene) : Type 0 where
  pub up : (device : ℕ) → IsMember scene.cluster device → is_up scene device ≡ true
  pub sure : (device : ℕ) → IsMember scene.cluster device → (folders : Folders) × (disk_of scene device ≡ Sure folders)

-- each disk has room for each archive of a put
abbrev pub HaveRoom : Scene → (stamp : ℕ) → NameModel → ObjectModel → Type 0
HaveRoom scene stamp name object = (device : ℕ) (folders : Folders) (room index : ℕ) → IsMember scene.cluster device → disk_of scene device ≡ Sure folders → IsFree (capacity_of scene.cluster device) folders room
    → index < scene.cluster.policy.k + scene.cluster.policy.m → length (put_archive scene.cluster.policy stamp name object index) ≤ room

-- no other name that was put has the place of this one
abbrev pub HasOwnPlace : Scene → NameModel → Type 0
HasOwnPlace scene name = (put : StartedPut) → Contains scene.book put → place_of_name scene.cluster put.booked.name ≡ place_of_name scene.cluster name → put.booked.name ≡ name

-- ---- what devices have

-- the directory of a place at a device
pub record HasDirectory (scene : Scene) (place : PlaceModel) (device : ℕ) (names : List FileName) : Type 0 where
  pub member : IsMember scene.cluster device
  pub folders : Folders
  pub sure : disk_of scene device ≡ Sure folders
  pub directory : IsDirectory (names_of (folders (folder_of place))) names

-- some device has a floor at a place
abbrev pub IsFloorThere : Scene → PlaceModel → Floor → Type 0
IsFloorThere scene place floor = (device : ℕ) × (names : List FileName) × HasDirectory scene place device names × HasFloor names floor

-- it is the greatest that any device has
pub record IsGreatestThere (scene : Scene) (place : PlaceModel) (floor : Floor) : Type 0 where
  pub there : IsFloorThere scene place floor
  pub greatest : (other : Floor) → IsFloorThere scene place other → IsAbove other floor → ⊥

-- some device holds an entry of an index at a stamp
abbrev pub IsHeldThere : Scene → PlaceModel → (stamp index : ℕ) → Type 0
IsHeldThere scene place stamp index = (device : ℕ) × (names : List FileName) × (durable : Bool) × HasDirectory scene place device names × Contains names (Data stamp index durable)

-- so many indices, all different, are held
pub record AreHeldThere (scene : Scene) (place : PlaceModel) (stamp count : ℕ) : Type 0 where
  pub indices : List ℕ
  pub many : count ≤ length indices
  pub apart : AllPairs (λ one other. one ≢ other) indices
  pub held : All (IsHeldThere scene place stamp) indices
