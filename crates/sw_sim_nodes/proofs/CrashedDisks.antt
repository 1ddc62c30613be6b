-- A disk in memory that lost power: what is in its folders, and that another crash leaves that.
use Rattle.std.proofs.Common.{◌≡◌, ℕ, zero, suc, ◌+◌, ◌-◌, true, false, cond, min, List, [], ◌∷◌, drop, length, length-drop, map, replicate, take, refl, sym, ap, subst, ◌∙◌, arith}
use Rattle.std.proofs.Math.Seq.{take-add}
use Rattle.std.proofs.lemmas.List.{length-replicate, take_min}
use Rattle.sw_disk.specs.Folder.{Change, File, Folder, IsImage, Survive, Survives, all_changed, files_of, same_name}
use Rattle.sw_disk.proofs.Images.{all_changed-append}
use Rattle.sw_diskfile.specs.Changes.{AreSynced, IsSettled}
use Rattle.sw_diskfile.proofs.Changed.{image_stable}
use Rattle.sw_diskfile.proofs.Synced.{survive_exactly}
use Rattle.sw_memdisk.specs.Log.{Log, crashed_file, crashed_log, folder_of}
use Rattle.sw_memdisk.specs.Memory.{Kept, MemDiskModel, crashed, crashed_kept, folder_at, log_at, state_of}
use Rattle.sw_objsrv.specs.Handling.{folders_of}
use Rattle.sw_sim_nodes.specs.Crashing.{crashed_files}
use Rattle.sw_sim_nodes.specs.Nodes.{IsSettledDisk}

none_taken : (count : ℕ) → take {A = Change} count [] ≡ []
none_taken zero = refl
none_taken (suc count) = refl

-- ---- files

synced_crashed : (files : List File) → AreSynced (map crashed_file files)
synced_crashed [] = tt
synced_crashed (file ∷ files) = (refl, synced_crashed files)

survives : (file : File) → Survives file (crashed_file file)
survives file = record {
  name = refl;
  size = elim file.content.synced as (λ b. length (cond b file.content.bytes (replicate (length file.content.bytes) 0)) ≡ length file.content.bytes) [
    | true ↦ refl
    | false ↦ length-replicate (length file.content.bytes) 0
  ];
  bytes = λ is. ap (λ b. cond b file.content.bytes (replicate (length file.content.bytes) 0)) is;
  synced = refl;
}

survive : (files : List File) → Survive files (map crashed_file files)
survive [] = tt
survive (file ∷ files) = (survives file, survive files)

-- a file whose bytes are on the disk stays as it is
crashed_synced : (files : List File) → AreSynced files → map crashed_file files ≡ files
crashed_synced [] synced = refl
crashed_synced (file ∷ files) synced =
    let first : crashed_file file ≡ file = λ i. record { name = file.name; content = record { bytes = bytes i; synced = sym synced.0 i } } in
    let rest = crashed_synced files synced.1 in
    λ i. first i ∷ rest i
  where
    bytes : (crashed_file file).content.bytes ≡ file.content.bytes
    bytes = ap (λ b. cond b file.content.bytes (replicate (length file.content.bytes) 0)) synced.0

-- ---- folders

-- where nothing is pending
pub still_crashed : (pick : ℕ) (folder : Folder) → folder.pending ≡ [] → AreSynced (files_of folder) → crashed_files pick folder ≡ files_of folder
still_crashed pick folder none synced =
    ap (λ (changes : List Change). map crashed_file (all_changed changes folder.stable)) (ap (take pick) none ∙ none_taken pick ∙ sym none) ∙ crashed_synced (files_of folder) synced

-- what is left is one of the images
image : (pick : ℕ) (folder : Folder) → IsImage folder (crashed_files pick folder)
image pick folder = record {
  kept = min pick (length folder.pending);
  within = omega arith;
  survive = subst (λ (changes : List Change). Survive (all_changed changes folder.stable) (crashed_files pick folder)) (sym (take_min pick folder.pending)) (survive (all_changed (take pick folder.pending) folder.stable));
}

abbrev left_by : ℕ → Folder → Folder
left_by pick folder = record { stable = crashed_files pick folder; pending = [] }

log_crashed : (pick : ℕ) (log : Log) → folder_of (crashed_log pick log) ≡ left_by pick (folder_of log)
log_crashed pick log =
    let n : ℕ = length log.stable_at in
    let rest : List Change = drop n log.changes in
    let few : take (min pick (length log.changes - n)) rest ≡ take pick rest =
    ap (λ (m : ℕ). take (min pick m) rest) (sym (length-drop n log.changes)) ∙ take_min pick rest in
    let same : all_changed (take (n + min pick (length log.changes - n)) log.changes) log.base ≡ all_changed (take pick rest) (all_changed (take n log.changes) log.base) =
    ap (λ (changes : List Change). all_changed changes log.base) (take-add n (min pick (length log.changes - n)) log.changes)
    ∙ all_changed-append (take n log.changes) (take (min pick (length log.changes - n)) rest) log.base
    ∙ ap (λ (changes : List Change). all_changed changes (all_changed (take n log.changes) log.base)) few in
    ap (λ (files : List File). record { stable = map crashed_file files; pending = [] }) same

folder_crashed : (pick : ℕ) (folders : List Kept) (name : List ℕ) → folder_of (log_at (map (crashed_kept pick) folders) name) ≡ left_by pick (folder_of (log_at folders name))
folder_crashed pick [] name = ap (λ (changes : List Change). record { stable = map crashed_file (all_changed changes []); pending = [] }) (sym (none_taken pick))
folder_crashed pick (kept ∷ folders) name =
    elim (same_name kept.name name) as (λ b. folder_of (cond b (crashed_kept pick kept).folder (folder_at (map (crashed_kept pick) folders) name)).log ≡ left_by pick (folder_of (cond b kept.folder (folder_at folders name)).log)) [
      | true ↦ log_crashed pick kept.folder.log
      | false ↦ folder_crashed pick folders name
    ]

module _ (pick : ℕ) (disk : MemDiskModel) where
  pub files_left : (name : List ℕ) → folders_of (state_of (crashed pick disk)) name ≡ crashed_files pick ((state_of disk).folder name)
  files_left name = ap files_of (folder_crashed pick disk.folders name)

  -- they are one of the images of what there was
  pub image_left : (name : List ℕ) → IsImage ((state_of disk).folder name) (folders_of (state_of (crashed pick disk)) name)
  image_left name = subst (IsImage ((state_of disk).folder name)) (sym (files_left name)) (image pick ((state_of disk).folder name))

  pub settled_crashed : IsSettledDisk (crashed pick disk)
  settled_crashed name = subst IsSettled (sym (folder_crashed pick disk.folders name)) (λ image left.
      let folder = left_by pick ((state_of disk).folder name) in
      survive_exactly (files_of folder) image (synced_crashed (all_changed (take pick ((state_of disk).folder name).pending) ((state_of disk).folder name).stable)) (image_stable [] folder image refl left))
