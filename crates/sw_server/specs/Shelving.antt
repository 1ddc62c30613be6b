-- Disks that a shelf hands out for the devices of a cluster, and that go back.
use Rattle.std.specs.Prelude.{◌≡◌, ◌⊎◌, ℕ, List, [], ◌∷◌, length, take, Option, Result, Ok}
use Rattle.std.specs.List.{AllZip}
use Rattle.sw_disk.specs.Runs.{Past, Seen}
use Rattle.sw_ring.specs.Cluster.{ClusterModel}
use Rattle.sw_ring.specs.declared.device.Device.{Device}
use Rattle.sw_shelf.specs.Shelf.{IsNew, after_back, with_all}
use Rattle.sw_shelf.specs.declared.fault.ShelfFault.{ShelfFault}
use Rattle.sw_cell.specs.Mounting.{FailsAt}

-- what a shelf may answer, and leave, where it is asked for a disk
abbrev pub Handing : (S D : Type 0) → Type 1
Handing S D = S → ℕ → ℕ → Result D ShelfFault → S → Type 0

-- The shelf handed out a new disk for a device.
pub record IsHanded {D S : Type 0} (seen : D → Seen) (hands : Handing S D) (device : Device) (disk : D) : Type 0 where
  pub before : S
  pub after : S
  pub handed : hands before device.id device.capacity (Ok disk) after
  pub is_new : IsNew device.capacity (seen disk)

-- one for each of these devices
abbrev pub AreHanded : {D S : Type 0} → (D → Seen) → Handing S D → List Device → List D → Type 0
AreHanded seen hands devices disks = AllZip (IsHanded seen hands) devices disks

-- disks, each with the device that it was handed out for
abbrev pub with_devices : {D : Type 0} → List Device → List D → List (ℕ × D)
with_devices (device ∷ devices) (disk ∷ disks) = (device.id, disk) ∷ with_devices devices disks
with_devices devices disks = []

-- a shelf's count of faults once these disks are back
abbrev pub with_faults : {D : Type 0} → (D → Seen) → ℕ → List (ℕ × D) → ℕ
with_faults seen count [] = count
with_faults {D} seen count ((device, disk) ∷ others) = with_faults seen (after_back (seen disk).faults count) others

-- what a shelf is to contracts, with its disks
pub record ShelfMembers (S D : Type 0) : Type 1 where
  pub hands : Handing S D
  pub out : S → ℕ
  pub returned : S → Option (List (ℕ × D))
  pub faults : S → ℕ
  pub seen : D → Seen
  pub left_since : D → Past

-- Where not every device's disk could be had, those of the devices before came back as they were handed out; where one could not be mounted, all did:
-- those before it as they were mounted, itself as its mount left it, and those behind it as they were handed out.
pub record CameBack {D S : Type 0} (shelf : ShelfMembers S D) (cluster : ClusterModel) (stock stock' : S) : Type 0 where
  pub given : List D
  pub handed : AreHanded shelf.seen shelf.hands (take (length given) cluster.devices) given
  pub back : List D
  pub how : (back ≡ given) ⊎ ((device : ℕ) × FailsAt shelf.seen shelf.left_since cluster device cluster.devices given back)
  pub returned : shelf.returned stock' ≡ with_all (shelf.returned stock) (with_devices cluster.devices back)
  pub none_out : shelf.out stock' ≡ 0
