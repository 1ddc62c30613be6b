-- What always holds of a disk in memory.
use Rattle.std.specs.Prelude.{◌≡◌, ℕ, List, map, min, option_map, String, string_bytes}
use Rattle.std.specs.BTreeMap.{BTreeMap}
use Rattle.std.specs.declared.alloc.Global.{Global}
use Rattle.sw_words.specs.Counts.{last_count}
use Rattle.sw_memdisk.specs.Held.{content_of}
use Rattle.sw_memdisk.specs.Log.{IsSound}
use Rattle.sw_memdisk.specs.Memory.{FolderModel, Kept, MemDiskModel, log_at, used_by}
use Rattle.sw_memdisk.specs.declared.disk.MemDisk.TheInside.{Inside}

abbrev pub kept_entries : List (String Global × FolderModel) → List Kept
kept_entries entries = map (λ entry. record { name = string_bytes entry.0; folder = entry.1 }) entries

abbrev pub kept_in : BTreeMap (String Global) FolderModel → List Kept
kept_in folders = kept_entries folders.entries

abbrev pub disk_model : Inside → MemDiskModel
disk_model inside = record {
  capacity = inside.capacity;
  calls = inside.calls;
  faults = inside.faults;
  failing = inside.failing.items;
  last = inside.last;
  temporary = option_map content_of inside.temporary;
  folders = kept_in inside.folders;
}

-- each folder's record is sound, and the bytes of all files are counted up to the count's last value
pub record IsMemDisk (inside : Inside) : Type 0 where
  pub sound : (name : List ℕ) → IsSound (log_at (kept_in inside.folders) name) inside.calls
  pub used : inside.used ≡ min (used_by (kept_in inside.folders)) last_count
