-- What contracts see of a disk in memory.
use Rattle.std.specs.Prelude.{◌≡◌, ℕ, ◌+◌, ◌-◌, ◌<◌, ◌≤◌, Bool, false, if◌then◌else◌, ◌==◌, ◌||◌, nat_lt, not, List, [], ◌∷◌, Option, Some, None, filter, length, map, sum_by}
use Rattle.std.specs.Cmp.Lexicographic.{slice_cmp}
use Rattle.std.specs.List.{list_any}
use Rattle.std.specs.List.Sorted.{IsStrictlySortedBy}
use Rattle.std.specs.Ordering.{nat_cmp}
use Rattle.sw_words.specs.Counts.{last_count}
use Rattle.sw_disk.specs.Folder.{Content, File, IsImage, same_name}
use Rattle.sw_disk.specs.State.{State, size_of}
use Rattle.sw_disk.specs.Runs.{Seen}
use Rattle.sw_memdisk.specs.Log.{LeftSince, Log, crashed_log, empty_log, files_now, folder_of}

-- what is kept of a folder: its record, and for how many changes of names there is room
pub record FolderModel : Type 0 where
  pub log : Log
  pub room : ℕ

abbrev pub empty_folder : FolderModel
empty_folder = record { log = empty_log; room = 0 }

pub record Kept : Type 0 where
  pub name : List ℕ
  pub folder : FolderModel

pub record MemDiskModel : Type 0 where
  pub capacity : ℕ
  -- the device calls that were made, and how many failed
  pub calls : ℕ
  pub faults : ℕ
  -- the calls that fail, by their number
  pub failing : List ℕ
  -- the last call that goes on, where there is a fuse
  pub last : Option ℕ
  pub temporary : Option Content
  pub folders : List Kept

-- ---- its folders

abbrev pub folder_at : List Kept → List ℕ → FolderModel
folder_at [] name = empty_folder
folder_at (kept ∷ folders) name = if same_name kept.name name then kept.folder else folder_at folders name

abbrev pub log_at : List Kept → List ℕ → Log
log_at folders name = (folder_at folders name).log

abbrev pub room_at : List Kept → List ℕ → ℕ
room_at folders name = (folder_at folders name).room

abbrev pub bytes_in : FolderModel → ℕ
bytes_in folder = size_of (folder_of folder.log)

-- the bytes of all published files
abbrev pub used_by : List Kept → ℕ
used_by folders = sum_by (λ kept. bytes_in kept.folder) folders

-- one folder becomes another, and no other does
pub record Becomes (old new : List Kept) (name : List ℕ) (folder : FolderModel) : Type 0 where
  pub at : (other : List ℕ) → folder_at new other ≡ (if same_name other name then folder else folder_at old other)
  pub used : used_by new ≡ (used_by old - bytes_in (folder_at old name)) + bytes_in folder
  pub within : bytes_in (folder_at old name) ≤ used_by old

-- the names ascend
abbrev pub IsAscending : List Kept → Type 0
IsAscending folders = IsStrictlySortedBy (slice_cmp nat_cmp) (map (λ kept. kept.name) folders)

-- whether a folder has a file or a change of names that is not stable
abbrev pub is_busy : FolderModel → Bool
is_busy folder = not (length (files_now folder.log) == 0) || not (length (folder_of folder.log).pending == 0)

-- the names of those that have
abbrev pub busy_in : List Kept → List (List ℕ)
busy_in folders = map (λ kept. kept.name) (filter (λ kept. is_busy kept.folder) folders)

-- the folders hold what they held, with no less room for changes of names
pub record IsRoomier (old new : List Kept) : Type 0 where
  pub logs : (name : List ℕ) → log_at new name ≡ log_at old name
  pub used : used_by new ≡ used_by old
  pub rooms : (name : List ℕ) → room_at old name ≤ room_at new name

-- a crash keeps so many of each folder's changes of names that are not stable, at most all
abbrev pub crashed_kept : ℕ → Kept → Kept
crashed_kept pick kept = record kept { folder = record kept.folder { log = crashed_log pick kept.folder.log } }

abbrev pub crashed : ℕ → MemDiskModel → MemDiskModel
crashed pick disk = record disk { last = None; temporary = None; folders = map (crashed_kept pick) disk.folders }

-- ---- its device calls

abbrev pub past_fuse : Option ℕ → ℕ → Bool
past_fuse None number = false
past_fuse (Some last) number = nat_lt last number

-- whether the call of this number fails
abbrev pub fails_at : List ℕ → Option ℕ → ℕ → Bool
fails_at failing last number = nat_lt last_count number || (list_any (λ k. k == number) failing || past_fuse last number)

abbrev pub fails : MemDiskModel → ℕ → Bool
fails disk number = fails_at disk.failing disk.last number

-- ---- what the trait sees of it

abbrev pub state_of : MemDiskModel → State
state_of disk = record {
  capacity = disk.capacity;
  used = used_by disk.folders;
  schedule = Some (record { calls = disk.calls; fails = fails disk });
  temporary = disk.temporary;
  folder = λ name. folder_of (log_at disk.folders name);
}

abbrev pub seen_of : MemDiskModel → Seen
seen_of disk = record { told = Some (state_of disk); faults = disk.faults; moment = disk.calls; room = room_at disk.folders }

-- what a crash since that call may have left
pub record LeftBy (disk : MemDiskModel) (call : ℕ) (name : List ℕ) (image : List File) : Type 0 where
  pub before : call < disk.calls → LeftSince (log_at disk.folders name) call image
  pub now : disk.calls ≤ call → IsImage (folder_of (log_at disk.folders name)) image
