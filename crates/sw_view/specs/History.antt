-- The history of one device, what its disk may hold after it, and which losses of the disk are guarded.
use Rattle.std.specs.Prelude.{◌≡◌, ◌≤◌, ℕ, List, [], ◌∷◌, ◌++◌, Contains, ⊤}
use Rattle.sw_disk.specs.Answers.{names_of}
use Rattle.sw_hashpath.specs.FileName.{IsFileName, file_name_text}
use Rattle.sw_hashpath.specs.Place.{IsPlace, PlaceModel, folder_of}
use Rattle.sw_hashpath.specs.declared.file_name.FileName.{FileName}
use Rattle.sw_hashpath.specs.declared.file_name.FileName.TheVariants.{Data, Tombstone}
use Rattle.sw_ring.specs.Cluster.{ClusterModel}
use Rattle.sw_message.specs.Step.{Folders}
use Rattle.sw_law_scene.specs.Devices.{IsDeviceStep, no_folders}
use Rattle.sw_law_scene.specs.Disks.{Disk, IsFailedBy, IsFoundOn, IsSide, Sure}
use Rattle.sw_view.specs.declared.event.Event.{Event}
use Rattle.sw_view.specs.declared.event.Event.TheVariants.{Faulted, Handled, Mounted, Replaced}

-- A history is what happened at one device, the latest event first. One goes on from another that is its end.
abbrev pub Continues : (later earlier : List Event) → Type 0
Continues later earlier = (more : List Event) × (later ≡ more ++ earlier)

-- ---- replay

-- What a device's disk may hold after a history, which began with an empty disk: each reply is that of the step of a node on what the disk
-- held, a failure leaves it undecided, a mount finds one of its sides, and a disk that took the place of another is empty.
abbrev pub Replays : ClusterModel → (device : ℕ) → List Event → Disk → Type 0
Replays cluster device [] disk = disk ≡ Sure no_folders
Replays cluster device (Handled msg reply ∷ past) disk =
    (found folders : Folders) × Replays cluster device past (Sure found) × IsDeviceStep cluster device msg reply found folders × (disk ≡ Sure folders)
Replays cluster device (Faulted msg ∷ past) disk = (before : Disk) × Replays cluster device past before × IsFailedBy cluster device msg before disk
Replays cluster device (Mounted ∷ past) disk = (before : Disk) × (found : Folders) × Replays cluster device past before × IsFoundOn cluster device before found × (disk ≡ Sure found)
Replays cluster device (Replaced loss ∷ past) disk = (before : Disk) × Replays cluster device past before × (disk ≡ Sure no_folders)

-- ---- losses

-- the stamp in the name of a file
abbrev pub stamp_of : FileName → ℕ
stamp_of (Data stamp index durable) = stamp
stamp_of (Tombstone stamp) = stamp

-- some file of a place, by its name, has this stamp or a greater one
abbrev pub HasStampFrom : ClusterModel → (stamp : ℕ) → Folders → Type 0
HasStampFrom cluster stamp folders =
    (place : PlaceModel) × (name : FileName) × IsPlace cluster.part_power place × IsFileName name × Contains (names_of (folders (folder_of place))) (file_name_text name) × (stamp ≤ stamp_of name)

-- A stamp is guarded by a mark, a count of losses: each disk that was replaced though it had something of the stamp or newer was replaced as
-- a loss whose number is at least the mark.
abbrev pub IsGuarded : ClusterModel → (device stamp mark : ℕ) → List Event → Type 0
IsGuarded cluster device stamp mark [] = ⊤
IsGuarded cluster device stamp mark (Replaced loss ∷ past) =
    ((disk : Disk) (side : Folders) → Replays cluster device past disk → IsSide disk side → HasStampFrom cluster stamp side → mark ≤ loss) × IsGuarded cluster device stamp mark past
IsGuarded cluster device stamp mark (Handled msg reply ∷ past) = IsGuarded cluster device stamp mark past
IsGuarded cluster device stamp mark (Faulted msg ∷ past) = IsGuarded cluster device stamp mark past
IsGuarded cluster device stamp mark (Mounted ∷ past) = IsGuarded cluster device stamp mark past
