-- What contracts see of a shelf in memory.
use Rattle.std.specs.Prelude.{◌≡◌, ◌≢◌, ℕ, ◌+◌, ◌==◌, if◌then◌else◌, List, [], ◌∷◌, Option, Some, None, Result, Ok, Err}
use Rattle.sw_words.specs.Counts.{one_more}
use Rattle.sw_memdisk.specs.Memory.{MemDiskModel, seen_of}
use Rattle.sw_shelf.specs.Shelf.{after_back}
use Rattle.sw_shelf.specs.declared.fault.ShelfFault.{ShelfFault}
use Rattle.sw_shelf.specs.declared.fault.ShelfFault.TheVariants.{Failed, NoMemory}

pub record ShelfModel : Type 0 where
  -- the device whose disk is refused, if one is
  pub refusing : Option ℕ
  -- the calls that fail at the next disk of a device, where they are set
  pub failing : Option (ℕ × List ℕ)
  -- how many disks were refused, and how many are out
  pub refused : ℕ
  pub out : ℕ
  -- the disks that are back, each with its device, the last of them last
  pub back : List (ℕ × MemDiskModel)

-- a count of faults once these disks are back as well
abbrev pub with_back : ℕ → List (ℕ × MemDiskModel) → ℕ
with_back count [] = count
with_back count ((device, disk) ∷ back) = with_back (after_back (seen_of disk).faults count) back

-- each disk that was refused, and each that is back and had failed
abbrev pub faults_of : ShelfModel → ℕ
faults_of shelf = with_back shelf.refused shelf.back

-- ---- disks that are handed out

-- the calls that fail at a device's disk
abbrev pub failing_of : Option (ℕ × List ℕ) → ℕ → List ℕ
failing_of None device = []
failing_of (Some (other, calls)) device = if other == device then calls else []

-- what is set once its disk is handed out
abbrev pub without : Option (ℕ × List ℕ) → ℕ → Option (ℕ × List ℕ)
without None device = None
without (Some (other, calls)) device = if other == device then None else Some (other, calls)

-- A new disk with these calls, unless that device's is refused.
abbrev pub Hands : ShelfModel → (device capacity : ℕ) → Result MemDiskModel ShelfFault → ShelfModel → Type 0
Hands before device capacity (Ok disk) after =
    (before.refusing ≢ Some device)
    × (disk ≡ record { capacity = capacity; calls = 0; faults = 0; failing = failing_of before.failing device; last = None; temporary = None; folders = [] })
    × (after ≡ record before { out = before.out + 1; failing = without before.failing device })
Hands before device capacity (Err Failed) after = (before.refusing ≡ Some device) × (after ≡ record before { refused = one_more before.refused })
Hands before device capacity (Err NoMemory) after = (before.refusing ≢ Some device) × (after ≡ before)
