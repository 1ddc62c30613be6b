-- The record of a folder: its files at first, the changes of names since, and the device calls at which the first of these
-- became stable. From it comes what a crash at any moment since the record was begun leaves.
use Rattle.std.specs.Prelude.{ℕ, ◌+◌, ◌-◌, ◌≤◌, if◌then◌else◌, min, nat_le, true, List, [], ◌∷◌, ◌++◌, drop, length, map, replicate, take, ⊤}
use Rattle.sw_disk.specs.Folder.{Change, Content, File, Folder, Survive, all_changed}

pub record Log : Type 0 where
  pub base : List File
  pub changes : List Change
  pub stable_at : List ℕ

abbrev pub empty_log : Log
empty_log = record { base = []; changes = []; stable_at = [] }

abbrev pub folder_of : Log → Folder
folder_of log = record {
  stable = all_changed (take (length log.stable_at) log.changes) log.base;
  pending = drop (length log.stable_at) log.changes;
}

-- the folder's files now
abbrev pub files_now : Log → List File
files_now log = all_changed log.changes log.base

-- ---- the past

-- how many of these device calls are no later than this one
abbrev pub count_until : ℕ → List ℕ → ℕ
count_until call [] = 0
count_until call (other ∷ others) = (if nat_le other call then 1 else 0) + count_until call others

-- how many changes were stable once this device call was done
abbrev pub stable_by : ℕ → Log → ℕ
stable_by call log = min (count_until call log.stable_at) (length log.changes)

-- a crash since that device call leaves the changes that were stable then, and some first part of the others
pub record LeftSince (log : Log) (call : ℕ) (image : List File) : Type 0 where
  pub kept : ℕ
  pub at_least : stable_by call log ≤ kept
  pub at_most : kept ≤ length log.changes
  pub survive : Survive (all_changed (take kept log.changes) log.base) image

abbrev pub ArePast : ℕ → List ℕ → Type 0
ArePast now [] = ⊤
ArePast now (call ∷ calls) = (call ≤ now) × ArePast now calls

-- no more changes became stable than there are, each at a device call that was made
pub record IsSound (log : Log) (now : ℕ) : Type 0 where
  pub stable : length log.stable_at ≤ length log.changes
  pub past : ArePast now log.stable_at

-- ---- what happens to it

abbrev pub with_change : Log → Change → Log
with_change log change = record log { changes = log.changes ++ change ∷ [] }

-- all changes are stable from this device call on
abbrev pub with_sync : Log → ℕ → Log
with_sync log call = record log { stable_at = log.stable_at ++ replicate (length log.changes - length log.stable_at) call }

-- what a crash makes of a content: bytes that were not synced become zeros
abbrev pub crashed_content : Content → Content
crashed_content content = record { bytes = if content.synced then content.bytes else replicate (length content.bytes) 0; synced = true }

abbrev pub crashed_file : File → File
crashed_file file = record file { content = crashed_content file.content }

-- a crash keeps so many of the changes that are not stable, at most all; the record begins anew
abbrev pub crashed_log : ℕ → Log → Log
crashed_log pick log = record {
  base = map crashed_file (all_changed (take (length log.stable_at + min pick (length log.changes - length log.stable_at)) log.changes) log.base);
  changes = [];
  stable_at = [];
}
