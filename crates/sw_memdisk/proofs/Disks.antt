-- The folders of a disk in memory: their sums, their records after a crash, and what is found by a name.
use Rattle.std.proofs.Common.{◌≡◌, ℕ, ◌+◌, ◌-◌, ◌≤◌, Bool, true, false, cond, List, [], ◌∷◌, map, length, min, sum_by, slice_get, Some, None, sym, ap, ◌∙◌, arith}
use Rattle.std.specs.Cmp.Lexicographic.{nat_list_eq_equiv}
use Rattle.std.specs.Map.{lookup}
use Rattle.std.proofs.lemmas.List.Sorted.{IsPermutation-refl, length_permutation}
use Rattle.std.proofs.lemmas.Option.{slice_get_past}
use Rattle.sw_words.specs.Counts.{last_count}
use Rattle.sw_disk.specs.Answers.{IsListing}
use Rattle.sw_disk.specs.Folder.{File, same_name}
use Rattle.sw_disk.specs.State.{size_of}
use Rattle.sw_memdisk.specs.Disk.{disk_model, kept_in}
use Rattle.sw_memdisk.specs.Log.{IsSound, Log, empty_log, files_now, folder_of, with_sync}
use Rattle.sw_memdisk.specs.Memory.{Becomes, FolderModel, Kept, MemDiskModel, bytes_in, crashed_kept, folder_at, log_at, room_at, used_by}
use Rattle.sw_memdisk.specs.declared.disk.MemDisk.TheInside.{Inside}
use Rattle.sw_memdisk.proofs.Lookups.{at_found, at_none, is_named}
use Rattle.sw_memdisk.proofs.Readings.{files_of_now}

-- ---- the bytes of all files

-- the bytes of a folder are those of its files, whichever changes are stable
bytes_now : (log : Log) → size_of (folder_of log) ≡ sum_by (λ file. length file.content.bytes) (files_now log)
bytes_now log = ap (sum_by (λ (file : File). length file.content.bytes)) (files_of_now log)

bytes_synced : (log : Log) (call : ℕ) → size_of (folder_of (with_sync log call)) ≡ size_of (folder_of log)
bytes_synced log call = bytes_now (with_sync log call) ∙ sym (bytes_now log)

same_sum : (used old new before after : ℕ) → used ≡ min old last_count → new ≡ (old - before) + after → before ≤ old → after ≡ before → used ≡ min new last_count
same_sum used old new before after is becomes within same = omega arith

-- a sync leaves them
pub used_synced : (old new : List Kept) (name : List ℕ) (call used : ℕ) → Becomes old new name (record { log = with_sync (log_at old name) call; room = room_at old name })
    → used ≡ min (used_by old) last_count → used ≡ min (used_by new) last_count
used_synced old new name call used becomes is = same_sum used (used_by old) (used_by new) (bytes_in (folder_at old name)) _ is becomes.used becomes.within (bytes_synced (log_at old name) call)

sum_after : (used old new before after count before_count after_count : ℕ) → new ≡ (old - before) + after → before ≤ old → used ≡ min old last_count → (used ≡ last_count → ⊥)
    → before_count ≡ min before last_count → after_count ≡ min after last_count → count ≡ min ((used - before_count) + after_count) last_count → count ≡ min new last_count
sum_after used old new before after count before_count after_count becomes within is below b a c = omega arith

-- where the count is below its last value, it is counted on from the one folder that becomes another
pub counted : (old new : List Kept) (name : List ℕ) (folder : FolderModel) (used before after count : ℕ) → Becomes old new name folder → used ≡ min (used_by old) last_count → (used ≡ last_count → ⊥)
    → before ≡ min (bytes_in (folder_at old name)) last_count → after ≡ min (bytes_in (folder_at new name)) last_count → count ≡ min ((used - before) + after) last_count → count ≡ min (used_by new) last_count
counted old new name folder used before after count becomes is below b a c =
    let at : folder_at new name ≡ folder = becomes.at name ∙ ap (λ (b : Bool). cond b folder (folder_at old name)) (nat_list_eq_equiv.refl name) in
    sum_after used (used_by old) (used_by new) (bytes_in (folder_at old name)) (bytes_in folder) count before after becomes.used becomes.within is below b (a ∙ ap (λ (f : FolderModel). min (bytes_in f) last_count) at) c

-- ---- after a crash

pub sound_crashed : (pick : ℕ) (folders : List Kept) (name : List ℕ) (calls : ℕ) → IsSound (log_at (map (crashed_kept pick) folders) name) calls
sound_crashed pick [] name calls = record { stable = omega arith; past = tt }
sound_crashed pick (kept ∷ folders) name calls = either (same_name kept.name name) (sound_crashed pick folders name calls)
  where
    either : (b : Bool) → IsSound (log_at (map (crashed_kept pick) folders) name) calls → IsSound (cond b (crashed_kept pick kept).folder (folder_at (map (crashed_kept pick) folders) name)).log calls
    either true later = record { stable = omega arith; past = tt }
    either false later = later

-- ---- what is found by a name

module _ (inside : Inside) (disk : MemDiskModel) (view : disk_model inside ≡ disk) (name : List ℕ) where
  seen : log_at disk.folders name ≡ log_at (kept_in inside.folders) name
  seen = sym (ap (λ (m : MemDiskModel). log_at m.folders name) view)

  pub log_found : (folder : FolderModel) → lookup (is_named name) inside.folders.entries ≡ Some folder → log_at disk.folders name ≡ folder.log
  log_found folder found = seen ∙ ap (λ (f : FolderModel). f.log) (at_found name inside.folders.entries folder found)

  pub log_none : lookup (is_named name) inside.folders.entries ≡ None → log_at disk.folders name ≡ empty_log
  log_none none = seen ∙ ap (λ (f : FolderModel). f.log) (at_none name inside.folders.entries none)

-- ---- a folder without files

pub no_name : (listing : List (List ℕ)) (place : ℕ) → IsListing [] listing → slice_get listing place ≡ None
no_name listing place is = slice_get_past listing place (let e : length listing ≡ 0 = length_permutation [] listing is.permutation in omega (arith, e))

pub no_names : IsListing [] []
no_names = record { sorted = λ k d low within. absurd (omega (arith, within)); permutation = IsPermutation-refl [] }
