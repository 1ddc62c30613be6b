-- What a disk holds, and what a mount, a failure and a crash make of it.
use Rattle.std.specs.Prelude.{◌≡◌, ◌⊎◌, ℕ, List, [], Contains}
use Rattle.sw_disk.specs.Folder.{File}
use Rattle.sw_hashpath.specs.Place.{IsPlace, PlaceModel, folder_of}
use Rattle.sw_diskfile.specs.Normal.{HaveOneNormalForm, IsNormalForm}
use Rattle.sw_ring.specs.Cluster.{ClusterModel}
use Rattle.sw_message.specs.Message.{is_primary}
use Rattle.sw_message.specs.Step.{Folders}
use Rattle.sw_message.specs.declared.message.Msg.{Msg}
use Rattle.sw_message.specs.declared.reply.Reply.{Reply}
use Rattle.sw_law_scene.specs.Devices.{IsDeviceStep}

-- Folders; or, where the disk failed within a handling, those of before or of after, until the device mounts again.
pub data Disk : Type 0 where
  Sure : (folders : Folders) → Disk
  Undecided : (before after : Folders) → Disk

-- what a disk may hold: of an undecided one either
abbrev pub IsSide : Disk → Folders → Type 0
IsSide (Sure folders) side = side ≡ folders
IsSide (Undecided before after) side = (side ≡ before) ⊎ (side ≡ after)

-- no place of the cluster has a folder of this name
abbrev pub IsOfNoPlace : ClusterModel → List ℕ → Type 0
IsOfNoPlace cluster name = (place : PlaceModel) → IsPlace cluster.part_power place → name ≡ folder_of place → ⊥

-- only the folders of the cluster's places have files
abbrev pub AreOfPlaces : ClusterModel → Folders → Type 0
AreOfPlaces cluster folders = (name : List ℕ) → IsOfNoPlace cluster name → folders name ≡ []

-- a mount brings the folder of each place to normal form
pub record IsMounted (cluster : ClusterModel) (device : ℕ) (before after : Folders) : Type 0 where
  pub normal : (place : PlaceModel) → IsPlace cluster.part_power place → IsNormalForm (is_primary cluster device place) (before (folder_of place)) (after (folder_of place))
  pub others : (name : List ℕ) → IsOfNoPlace cluster name → after name ≡ before name

-- what a device that is up works on: its folders, or what a mount leaves of them where they are undecided
abbrev pub IsFoundOn : ClusterModel → (device : ℕ) → Disk → Folders → Type 0
IsFoundOn cluster device (Sure folders) found = found ≡ folders
IsFoundOn cluster device (Undecided before after) found = IsMounted cluster device before found ⊎ IsMounted cluster device after found

-- ---- crashes

-- The folder of each place is, but for what is obsolete, that of some of these folders, and each of its files is one of theirs.
pub record IsLeftOf (cluster : ClusterModel) (device : ℕ) (These : Folders → Type 0) (image : Folders) : Type 0 where
  pub normal : (place : PlaceModel) → IsPlace cluster.part_power place → (these : Folders) × These these
      × HaveOneNormalForm (is_primary cluster device place) (image (folder_of place)) (these (folder_of place))
  pub files : (place : PlaceModel) (file : File) → IsPlace cluster.part_power place → Contains (image (folder_of place)) file → (these : Folders) × These these × Contains (these (folder_of place)) file
  pub others : (name : List ℕ) → IsOfNoPlace cluster name → (these : Folders) × These these × (image name ≡ these name)

-- what a disk may hold while a device handles a message: what it held before, or what the step leaves
abbrev pub IsHeldWithin : ClusterModel → (device : ℕ) → Msg → Disk → Folders → Type 0
IsHeldWithin cluster device msg disk these =
    IsSide disk these ⊎ ((found : Folders) × (reply : Reply) × IsFoundOn cluster device disk found × IsDeviceStep cluster device msg reply found these)

-- ---- failures

-- A disk that failed within a handling is undecided between before and after. Where it was undecided already it stays as it was if the
-- mount failed; and if that was done, it is undecided between what was mounted and what the step leaves of that.
abbrev pub IsFailedBy : ClusterModel → (device : ℕ) → Msg → (before after : Disk) → Type 0
IsFailedBy cluster device msg (Sure folders) failed = (reply : Reply) × (after : Folders) × IsDeviceStep cluster device msg reply folders after × (failed ≡ Undecided folders after)
IsFailedBy cluster device msg (Undecided before after) failed =
    (failed ≡ Undecided before after)
    ⊎ ((found later : Folders) × (reply : Reply) × IsFoundOn cluster device (Undecided before after) found × IsDeviceStep cluster device msg reply found later × (failed ≡ Undecided found later))
