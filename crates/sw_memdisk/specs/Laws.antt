-- The laws of the trait, of a disk in memory.
use Rattle.std.proofs.Common.{◌≡◌, ◌⊎◌, inl, inr, ⊎_elim, ℕ, suc, ◌+◌, ◌<◌, ◌≤◌, true, false, cond, List, [], ◌∷◌, length, min, take, drop, nat_le, refl, sym, ◌∙◌, ap, subst, arith}
use Rattle.std.proofs.lemmas.Bool.{cases_lt, le-leb}
use Rattle.std.proofs.lemmas.Bool.Decides.{leb_tells}
use Rattle.std.proofs.lemmas.List.{take_min}
use Rattle.std.proofs.lemmas.List.Sums.{sum_by-cons}
use Rattle.std.proofs.Math.Seq.{take-add}
use Rattle.sw_disk.proofs.Images.{all_changed-append}
use Rattle.sw_disk.specs.Folder.{Change, File, IsImage, Survive, all_changed, same_name}
use Rattle.sw_disk.specs.Runs.{IsTelling}
use Rattle.sw_disk.specs.State.{size_of}
use Rattle.sw_memdisk.specs.Log.{LeftSince, Log, count_until, folder_of}
use Rattle.sw_memdisk.specs.Memory.{Kept, LeftBy, MemDiskModel, bytes_in, folder_at, log_at, seen_of, used_by}

-- ---- the record of a folder

pub count-le-length : (t : ℕ) (xs : List ℕ) → count_until t xs ≤ length xs
count-le-length t [] = omega arith
count-le-length t (x ∷ xs) = let rest = count-le-length t xs in elim (nat_le x t) as (λ b. cond b 1 0 + count_until t xs ≤ suc (length xs)) [ true ↦ omega (arith, rest) | false ↦ omega (arith, rest) ]

pub after : (m t : ℕ) → t < m → nat_le m t ≡ false
after m t before = grind (arith, leb_tells)

-- what a crash may leave now, it may have left since any call
pub left_from_image : (log : Log) (call : ℕ) (image : List File) → IsImage (folder_of log) image → LeftSince log call image
left_from_image log call image w =
    let n : ℕ = length log.stable_at in
    let same : all_changed (take (n + w.kept) log.changes) log.base ≡ all_changed (take w.kept (drop n log.changes)) (all_changed (take n log.changes) log.base) =
    ap (λ (cs : List Change). all_changed cs log.base) (take-add n w.kept log.changes) ∙ all_changed-append (take n log.changes) (take w.kept (drop n log.changes)) log.base in
    let front : take (min (n + w.kept) (length log.changes)) log.changes ≡ take (n + w.kept) log.changes = take_min (n + w.kept) log.changes in
    record {
      kept = min (n + w.kept) (length log.changes);
      at_least = omega (arith, count-le-length call log.stable_at);
      at_most = omega arith;
      survive = subst (λ (fs : List File). Survive fs image) (sym (ap (λ (cs : List Change). all_changed cs log.base) front ∙ same)) w.survive;
    }

fewer_before : (since later : ℕ) (calls : List ℕ) → since ≤ later → count_until since calls ≤ count_until later calls
fewer_before since later [] le = omega arith
fewer_before since later (call ∷ calls) le =
    let rest = fewer_before since later calls le in
    elim (cases_lt since call) [
      | inl past ↦ rw (after call since past) (omega (arith, rest))
      | inr there ↦ rw (le-leb call since there, le-leb call later (omega (arith, there, le))) (omega (arith, rest))
    ]

-- what a crash may have left since a call, it may have left since an earlier one
pub left_earlier : (log : Log) (since later : ℕ) (image : List File) → since ≤ later → LeftSince log later image → LeftSince log since image
left_earlier log since later image le w = record {
  kept = w.kept;
  at_least = omega (arith, w.at_least, fewer_before since later log.stable_at le);
  at_most = w.at_most;
  survive = w.survive;
}

-- ---- the disk

pub telling : (disk : MemDiskModel) → IsTelling true (seen_of disk).told
telling disk = refl

pub now : (disk : MemDiskModel) (name : List ℕ) (image : List File) → IsImage (folder_of (log_at disk.folders name)) image → LeftBy disk disk.calls name image
now disk name image is = record { before = λ less. absurd (omega (arith, less)); now = λ _. is }

pub only_now : (disk : MemDiskModel) (name : List ℕ) (image : List File) → LeftBy disk disk.calls name image → IsImage (folder_of (log_at disk.folders name)) image
only_now disk name image left = left.now (omega arith)

past_or_there : (call calls : ℕ) → (call < calls) ⊎ (calls ≤ call)
past_or_there call calls = grind arith

pub earlier : (disk : MemDiskModel) (since later : ℕ) (name : List ℕ) (image : List File) → since ≤ later → LeftBy disk later name image → LeftBy disk since name image
earlier disk since later name image le left = record {
  before = λ _. ⊎_elim
      (λ past. left_earlier (log_at disk.folders name) since later image le (left.before past))
      (λ there. left_from_image (log_at disk.folders name) since image (left.now there))
      (past_or_there later disk.calls);
  now = λ there. left.now (omega (arith, le, there));
}

-- the bytes of a folder are among those of all
used_more : (kept : Kept) (folders : List Kept) → used_by (kept ∷ folders) ≡ bytes_in kept.folder + used_by folders
used_more kept folders = sum_by-cons (λ (k : Kept). bytes_in k.folder) kept folders

size_within : (folders : List Kept) (name : List ℕ) → bytes_in (folder_at folders name) ≤ used_by folders
size_within [] name = omega arith
size_within (kept ∷ folders) name =
    let rest = size_within folders name in
    elim (same_name kept.name name) as (λ b. bytes_in (cond b kept.folder (folder_at folders name)) ≤ used_by (kept ∷ folders)) [
      | true ↦ omega (arith, used_more kept folders)
      | false ↦ omega (arith, used_more kept folders, rest)
    ]

pub within : (disk : MemDiskModel) (name : List ℕ) → size_of (folder_of (log_at disk.folders name)) ≤ used_by disk.folders
within disk name = size_within disk.folders name
