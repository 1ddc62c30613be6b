-- Files whose bytes are on the disk.
use Rattle.std.proofs.Common.{◌≡◌, ℕ, zero, suc, Bool, true, false, cond, not, List, [], ◌∷◌, ◌++◌, map, take, refl, subst}
use Rattle.std.specs.Prelude.{⊤}
use Rattle.sw_disk.specs.Folder.{Change, Publish, Rename, Remove, File, Folder, Survive, all_changed, changed, files_of, renamed, same_name}
use Rattle.sw_disk.proofs.Images.{image_of_all, survives_synced}
use Rattle.sw_diskfile.specs.Changes.{AreSynced, IsSettled}

-- such files stay as they are
pub survive_exactly : (files image : List File) → AreSynced files → Survive files image → image ≡ files
survive_exactly [] [] synced s = refl
survive_exactly [] (i ∷ image) synced s = absurd s
survive_exactly (f ∷ files) [] synced s = absurd s
survive_exactly (f ∷ files) (i ∷ image) synced s =
    let first = survives_synced f i s.0 synced.0 in
    let rest = survive_exactly files image synced.1 s.1 in
    λ k. first k ∷ rest k

-- ---- a folder that a crash leaves as it is

abbrev kept_file : File → File
kept_file file = record { name = file.name; content = record { bytes = file.content.bytes; synced = true } }

survive_kept : (files : List File) → Survive files (map kept_file files)
survive_kept [] = tt
survive_kept (file ∷ files) = (record { name = refl; size = refl; bytes = λ _. refl; synced = refl }, survive_kept files)

kept_synced : (files : List File) → AreSynced (map kept_file files)
kept_synced [] = tt
kept_synced (file ∷ files) = (refl, kept_synced files)

pub settled_synced : (folder : Folder) → IsSettled folder → AreSynced (files_of folder)
settled_synced folder is_settled =
    let files = files_of folder in
    subst AreSynced (is_settled (map kept_file files) (image_of_all folder (map kept_file files) (survive_kept files))) (kept_synced files)

-- ---- changes

abbrev IsSyncedChange : Change → Type 0
IsSyncedChange (Publish file) = file.content.synced ≡ true
IsSyncedChange change = ⊤

-- no file is published before its bytes are on the disk
abbrev pub AreSyncedChanges : List Change → Type 0
AreSyncedChanges [] = ⊤
AreSyncedChanges (change ∷ changes) = IsSyncedChange change × AreSyncedChanges changes

push_synced : (files : List File) (file : File) → AreSynced files → file.content.synced ≡ true → AreSynced (files ++ file ∷ [])
push_synced [] file all one = (one, tt)
push_synced (f ∷ files) file all one = (all.0, push_synced files file all.1 one)

rename_synced : (from to : List ℕ) (files : List File) → AreSynced files → AreSynced (map (renamed from to) files)
rename_synced from to [] all = tt
rename_synced from to (f ∷ files) all = (all.0, rename_synced from to files all.1)

remove_synced : (name : List ℕ) (files : List File) → AreSynced files → AreSynced (changed (Remove name) files)
remove_synced name [] all = tt
remove_synced name (f ∷ files) all = pick (same_name f.name name) (remove_synced name files all.1)
  where
    pick : (b : Bool) → AreSynced (changed (Remove name) files) → AreSynced (cond (not b) (f ∷ changed (Remove name) files) (changed (Remove name) files))
    pick true rest = rest
    pick false rest = (all.0, rest)

changed_synced : (change : Change) (files : List File) → IsSyncedChange change → AreSynced files → AreSynced (changed change files)
changed_synced (Publish file) files one all = push_synced files file all one
changed_synced (Rename from to) files one all = rename_synced from to files all
changed_synced (Remove name) files one all = remove_synced name files all

pub all_synced : (changes : List Change) (files : List File) → AreSyncedChanges changes → AreSynced files → AreSynced (all_changed changes files)
all_synced [] files are all = all
all_synced (change ∷ changes) files are all = all_synced changes (changed change files) are.1 (changed_synced change files are.0 all)

pub take_synced : (count : ℕ) (changes : List Change) → AreSyncedChanges changes → AreSyncedChanges (take count changes)
take_synced zero [] are = tt
take_synced zero (change ∷ changes) are = tt
take_synced (suc count) [] are = tt
take_synced (suc count) (change ∷ changes) are = (are.0, take_synced count changes are.1)
