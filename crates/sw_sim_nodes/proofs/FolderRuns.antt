-- Runs of device calls as one folder sees them.
use Rattle.std.proofs.Common.{◌≡◌, ◌⊎◌, inl, inr, ⊎_elim, ℕ, zero, suc, Bool, true, false, cond, List, [], ◌∷◌, ◌++◌, map, take, Option, refl, sym, ap, subst, ◌∙◌}
use Rattle.std.specs.Cmp.Lexicographic.{same_text}
use Rattle.sw_disk.specs.Calls.{Call, ListFolders, ListNames, ReadFile, WriteTmp, SyncTmp, PublishTmp, RenameFile, RemoveFile, SyncDir, Do, calls_in}
use Rattle.sw_disk.specs.Folder.{Change, Content, Folder, Remove, Rename, all_changed, files_of, same_name}
use Rattle.sw_disk.specs.State.{State, after, pended, published, run, settled, synced, with_folder}
use Rattle.sw_diskfile.specs.Changes.{IsAsBefore}
use Rattle.sw_diskfile.proofs.Changed.{as_before}
use Rattle.sw_diskfile.proofs.Steps.{changes_by, changes_of, temporary_by}
use Rattle.sw_objsrv.proofs.RowCalls.{PublishOwn}

-- where nothing is pending the files are those that are stable
pub nothing_pending : (folder : Folder) → folder.pending ≡ [] → folder ≡ record { stable = files_of folder; pending = [] }
nothing_pending folder none =
    let stable : folder.stable ≡ files_of folder = ap (λ (cs : List Change). all_changed cs folder.stable) (sym none) in
    λ i. record { stable = stable i; pending = none i }

pub calls_of : (calls : List Call) → calls_in (map Do calls) ≡ calls
calls_of [] = refl
calls_of (call ∷ calls) = ap (λ (more : List Call). call ∷ more) (calls_of calls)

-- ---- calls that make no change

nothing_in : (xs ys : List Change) → xs ++ ys ≡ [] → (xs ≡ []) × (ys ≡ [])
nothing_in [] ys is = (refl, is)
nothing_in (x ∷ xs) ys is = absurd (cc)

module _ (folder : List ℕ) where
  -- nor do the first of them
  pub quiet_first : (count : ℕ) (calls : List Call) (temporary : Option Content) → changes_by folder calls temporary ≡ [] → changes_by folder (take count calls) temporary ≡ []
  quiet_first zero [] temporary none = refl
  quiet_first zero (call ∷ calls) temporary none = refl
  quiet_first (suc count) [] temporary none = refl
  quiet_first (suc count) (call ∷ calls) temporary none =
      let both = nothing_in (changes_of folder call temporary) (changes_by folder calls (temporary_by call temporary)) none in
      ap (λ (cs : List Change). cs ++ changes_by folder (take count calls) (temporary_by call temporary)) both.0 ∙ quiet_first count calls (temporary_by call temporary) both.1

  pub quiet_calls : (calls : List Call) (state : State) → changes_by folder calls state.temporary ≡ [] → IsAsBefore (state.folder folder) ((run (map Do calls) state).folder folder)
  quiet_calls calls state none = as_before folder (map Do calls) state (ap (λ (cs : List Call). changes_by folder cs state.temporary) (calls_of calls) ∙ none)

  -- ---- two disks on which the folder is the same

  module _ (a b : State) (same : a.folder folder ≡ b.folder folder) where
    pick : (other : List ℕ) (make : Folder → Folder) (is_same : Bool) → same_name folder other ≡ is_same → cond is_same (make (a.folder other)) (a.folder folder) ≡ cond is_same (make (b.folder other)) (b.folder folder)
    pick other make true is = ap make (subst (λ (name : List ℕ). a.folder name ≡ b.folder name) (same_text folder other (sym is)) same)
    pick other make false is = same

    -- it is so after the same change
    replaced : (other : List ℕ) (make : Folder → Folder) → with_folder a.folder other (make (a.folder other)) folder ≡ with_folder b.folder other (make (b.folder other)) folder
    replaced other make = pick other make (same_name folder other) refl

    published_too : (other name : List ℕ) → a.temporary ≡ b.temporary → with_folder a.folder other (published a.temporary name (a.folder other)) folder ≡ with_folder b.folder other (published b.temporary name (b.folder other)) folder
    published_too other name temporary =
        ap (λ (t : Option Content). with_folder a.folder other (published t name (a.folder other)) folder) temporary ∙ replaced other (published b.temporary name)

  -- it stays so by calls that publish no temporary file in which they differ
  pub same_run : (calls : List Call) (a b : State) → a.folder folder ≡ b.folder folder → (a.temporary ≡ b.temporary) ⊎ PublishOwn calls → (run (map Do calls) a).folder folder ≡ (run (map Do calls) b).folder folder
  same_run [] a b same either = same
  same_run (ListFolders ∷ calls) a b same either = same_run calls (after (Do ListFolders) a) (after (Do ListFolders) b) same either
  same_run (ListNames other ∷ calls) a b same either = same_run calls (after (Do (ListNames other)) a) (after (Do (ListNames other)) b) same either
  same_run (ReadFile other name ∷ calls) a b same either = same_run calls (after (Do (ReadFile other name)) a) (after (Do (ReadFile other name)) b) same either
  same_run (WriteTmp bytes ∷ calls) a b same either = same_run calls (after (Do (WriteTmp bytes)) a) (after (Do (WriteTmp bytes)) b) same (inl refl)
  same_run (SyncTmp ∷ calls) a b same either = same_run calls (after (Do SyncTmp) a) (after (Do SyncTmp) b) same (⊎_elim (λ temporary. inl (ap synced temporary)) (λ own. inr own) either)
  same_run (PublishTmp other name ∷ calls) a b same (inl temporary) =
      same_run calls (after (Do (PublishTmp other name)) a) (after (Do (PublishTmp other name)) b) (published_too a b same other name temporary) (inl refl)
  same_run (PublishTmp other name ∷ calls) a b same (inr own) = absurd own
  same_run (RenameFile other from to ∷ calls) a b same either =
      same_run calls (after (Do (RenameFile other from to)) a) (after (Do (RenameFile other from to)) b) (replaced a b same other (λ now. pended now (Rename from to))) either
  same_run (RemoveFile other name ∷ calls) a b same either =
      same_run calls (after (Do (RemoveFile other name)) a) (after (Do (RemoveFile other name)) b) (replaced a b same other (λ now. pended now (Remove name))) either
  same_run (SyncDir other ∷ calls) a b same either = same_run calls (after (Do (SyncDir other)) a) (after (Do (SyncDir other)) b) (replaced a b same other settled) either

-- the first of calls that publish what they wrote do so
pub own_first : (count : ℕ) (calls : List Call) → PublishOwn calls → PublishOwn (take count calls)
own_first zero [] own = tt
own_first zero (call ∷ calls) own = tt
own_first (suc count) [] own = tt
own_first (suc count) (ListFolders ∷ calls) own = own_first count calls own
own_first (suc count) (ListNames other ∷ calls) own = own_first count calls own
own_first (suc count) (ReadFile other name ∷ calls) own = own_first count calls own
own_first (suc count) (WriteTmp bytes ∷ calls) own = tt
own_first (suc count) (SyncTmp ∷ calls) own = own_first count calls own
own_first (suc count) (PublishTmp other name ∷ calls) own = absurd own
own_first (suc count) (RenameFile other from to ∷ calls) own = own_first count calls own
own_first (suc count) (RemoveFile other name ∷ calls) own = own_first count calls own
own_first (suc count) (SyncDir other ∷ calls) own = own_first count calls own
