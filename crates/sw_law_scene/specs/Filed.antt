-- What is in the files: each archive is that of a put that was started, in the folder of its name's place.
use Rattle.std.specs.Prelude.{◌≡◌, ℕ, Bool, List}
use Rattle.std.specs.List.{All}
use Rattle.sw_disk.specs.Folder.{File}
use Rattle.sw_hashpath.specs.FileName.{IsFileName, file_name_text}
use Rattle.sw_hashpath.specs.Place.{IsPlace, PlaceModel, folder_of}
use Rattle.sw_hashpath.specs.declared.file_name.FileName.TheVariants.{Data}
use Rattle.sw_ring.specs.Cluster.{ClusterModel}
use Rattle.sw_message.specs.Learnt.{Booked}
use Rattle.sw_message.specs.Step.{Folders}
use Rattle.sw_message.specs.Warrant.{IsOfPut}
use Rattle.sw_law_scene.specs.Devices.{Devices}
use Rattle.sw_law_scene.specs.Disks.{Disk, IsSide}

-- a file of the folder of a place, if its name is that of an archive, is that archive of a put
abbrev pub IsFiled : ClusterModel → List Booked → PlaceModel → File → Type 0
IsFiled cluster book place file =
    (stamp index : ℕ) (durable : Bool) → IsFileName (Data stamp index durable) → file.name ≡ file_name_text (Data stamp index durable) → IsOfPut cluster book place stamp index file.content.bytes

-- each file of each place is so, in the folders of a device
abbrev pub FoldersFiled : ClusterModel → List Booked → Folders → Type 0
FoldersFiled cluster book folders = (place : PlaceModel) → IsPlace cluster.part_power place → All (IsFiled cluster book place) (folders (folder_of place))

-- and at every device
abbrev pub AreFiled : ClusterModel → List Booked → Devices → Type 0
AreFiled cluster book devices = (device : ℕ) → FoldersFiled cluster book (devices device)

-- and whatever a disk may hold
abbrev pub IsDiskFiled : ClusterModel → List Booked → Disk → Type 0
IsDiskFiled cluster book disk = (side : Folders) → IsSide disk side → FoldersFiled cluster book side
