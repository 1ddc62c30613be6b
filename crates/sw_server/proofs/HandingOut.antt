-- Disks of some first devices, each new from a shelf.
use Rattle.std.proofs.Common.{◌≡◌, ℕ, ◌+◌, ◌<◌, List, [], ◌∷◌, length, refl, ap, ◌∙◌, arith}
use Rattle.std.proofs.lemmas.Slice.Zip.{AllZip-long}
use Rattle.sw_words.specs.Counts.{one_more}
use Rattle.sw_disk.specs.Runs.{Seen}
use Rattle.sw_ring.specs.declared.device.Device.{Device}
use Rattle.sw_shelf.specs.Shelf.{after_back}
use Rattle.sw_server.specs.Shelving.{AreHanded, Handing, IsHanded, with_devices, with_faults}

module _ {D S : Type 0} (seen : D → Seen) (hands : Handing S D) where
  -- one for each device
  pub as_many : (devices : List Device) (disks : List D) → AreHanded seen hands devices disks → length disks ≡ length devices
  as_many devices disks are = AllZip-long (IsHanded seen hands) devices disks are

  -- no fault is counted when they go back, whichever devices they are said to be of
  pub no_fault : (devices : List Device) (disks : List D) (said : List Device) (count : ℕ) → AreHanded seen hands devices disks → with_faults seen count (with_devices said disks) ≡ count
  no_fault devices disks [] count are = refl
  no_fault devices [] (one ∷ said) count are = refl
  no_fault [] (disk ∷ disks) (one ∷ said) count are = absurd are
  no_fault (device ∷ devices) (disk ∷ disks) (one ∷ said) count are =
      ap (λ (faults : ℕ). with_faults seen (after_back faults count) (with_devices said disks)) are.0.is_new.faults ∙ no_fault devices disks said count are.1

-- a count of so few rises by one
pub rises : (count : ℕ) → count < 64 → one_more count ≡ count + 1
rises count few = omega (arith, few)
