-- What a crash leaves is one of the images of what there was.
use Rattle.std.proofs.Common.{◌≡◌, ℕ, zero, suc, ◌+◌, ◌-◌, true, false, cond, min, List, [], ◌∷◌, length, map, replicate, take, drop, refl, sym, ◌∙◌, ap, subst, arith}
use Rattle.std.proofs.lemmas.List.{length-drop, length-replicate}
use Rattle.std.proofs.Math.Seq.{take-add}
use Rattle.sw_disk.proofs.Images.{all_changed-append}
use Rattle.sw_disk.specs.Folder.{Change, File, IsImage, Survive, Survives, all_changed, same_name}
use Rattle.sw_memdisk.specs.Log.{Log, crashed_file, crashed_log, empty_log, files_now, folder_of}
use Rattle.sw_memdisk.specs.Memory.{Kept, crashed_kept, folder_at, log_at}

-- a file survives as a crash makes it
survives : (file : File) → Survives file (crashed_file file)
survives file = record {
  name = refl;
  size = elim file.content.synced as (λ b. length (cond b file.content.bytes (replicate (length file.content.bytes) 0)) ≡ length file.content.bytes) [
    | true ↦ refl
    | false ↦ length-replicate (length file.content.bytes) 0
  ];
  bytes = λ is. ap (λ b. cond b file.content.bytes (replicate (length file.content.bytes) 0)) is;
  synced = refl;
}

survive : (files : List File) → Survive files (map crashed_file files)
survive [] = tt
survive (file ∷ files) = (survives file, survive files)

-- the record of one folder
image_of_log : (pick : ℕ) (log : Log) → IsImage (folder_of log) (files_now (crashed_log pick log))
image_of_log pick log =
    let n : ℕ = length log.stable_at in
    let kept : ℕ = min pick (length log.changes - n) in
    let files : List File = all_changed (take (n + kept) log.changes) log.base in
    let same : files ≡ all_changed (take kept (drop n log.changes)) (all_changed (take n log.changes) log.base) =
    ap (λ (cs : List Change). all_changed cs log.base) (take-add n kept log.changes) ∙ all_changed-append (take n log.changes) (take kept (drop n log.changes)) log.base in
    record {
      kept = kept;
      within = omega (arith, length-drop n log.changes);
      survive = subst (λ (fs : List File). Survive fs (map crashed_file files)) same (survive files);
    }

none_taken : (count : ℕ) → take {A = Change} count [] ≡ []
none_taken zero = refl
none_taken (suc count) = refl

-- a folder that is not there
crashed_empty : (pick : ℕ) → empty_log ≡ crashed_log pick empty_log
crashed_empty pick = ap (λ (changes : List Change). record { base = map crashed_file (all_changed changes []); changes = []; stable_at = [] }) (sym (none_taken (0 + min pick (0 - 0))))

-- the record at a name
log_crashed : (pick : ℕ) (folders : List Kept) (name : List ℕ) → log_at (map (crashed_kept pick) folders) name ≡ crashed_log pick (log_at folders name)
log_crashed pick [] name = crashed_empty pick
log_crashed pick (kept ∷ folders) name =
    elim (same_name kept.name name) as (λ b. (cond b (crashed_kept pick kept).folder (folder_at (map (crashed_kept pick) folders) name)).log ≡ crashed_log pick (cond b kept.folder (folder_at folders name)).log) [
      | true ↦ refl
      | false ↦ log_crashed pick folders name
    ]

pub image_crashed : (pick : ℕ) (folders : List Kept) (name : List ℕ) → IsImage (folder_of (log_at folders name)) (files_now (log_at (map (crashed_kept pick) folders) name))
image_crashed pick folders name =
    subst (λ (log : Log). IsImage (folder_of (log_at folders name)) (files_now log)) (sym (log_crashed pick folders name)) (image_of_log pick (log_at folders name))
