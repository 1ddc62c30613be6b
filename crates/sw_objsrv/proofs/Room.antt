-- How many bytes are free after calls that change no name.
use Rattle.std.proofs.Common.{◌≡◌, ℕ, ◌-◌, ◌≤◌, List, [], ◌∷◌, length, refl, ap, ◌∙◌, arith}
use Rattle.std.specs.Prelude.{sum_by}
use Rattle.sw_disk.specs.Calls.{ListFolders, ListNames, ReadFile, WriteTmp, SyncTmp, PublishTmp, RenameFile, RemoveFile, SyncDir, Step, Do, Settle, calls_in}
use Rattle.sw_disk.specs.Folder.{File}
use Rattle.sw_disk.specs.State.{State, after, free_of, run, size_of}
use Rattle.sw_disk.proofs.Settling.{AreQuiet, files_kept}

-- the bytes of each folder's files are among those that are used
abbrev pub AreWithin : State → Type 0
AreWithin state = (folder : List ℕ) → size_of (state.folder folder) ≤ state.used

module _ (name : List ℕ) (state : State) (within : AreWithin state) where
  -- a folder whose changes become stable keeps its bytes
  used_settled : (after (Settle name) state).used ≡ state.used
  used_settled = let here = within name in omega (arith, here)

  free_settled : free_of (after (Settle name) state) ≡ free_of state
  free_settled = ap (λ (used : ℕ). state.capacity - used) used_settled

  within_settled : AreWithin (after (Settle name) state)
  within_settled folder =
      let same : size_of ((after (Settle name) state).folder folder) ≡ size_of (state.folder folder) = ap (λ (files : List File). sum_by (λ (file : File). length file.content.bytes) files) (files_kept (Settle name ∷ []) state folder tt) in
      let used = used_settled in
      let before = within folder in
      omega (arith, same, used, before)

pub free_kept : (steps : List Step) (state : State) → AreQuiet (calls_in steps) → AreWithin state → free_of (run steps state) ≡ free_of state
free_kept [] state quiet within = refl
free_kept (Settle name ∷ steps) state quiet within = free_kept steps (after (Settle name) state) quiet (within_settled name state within) ∙ free_settled name state within
free_kept (Do ListFolders ∷ steps) state quiet within = free_kept steps (after (Do ListFolders) state) quiet within
free_kept (Do (ListNames name) ∷ steps) state quiet within = free_kept steps (after (Do (ListNames name)) state) quiet within
free_kept (Do (ReadFile name file) ∷ steps) state quiet within = free_kept steps (after (Do (ReadFile name file)) state) quiet within
free_kept (Do (WriteTmp bytes) ∷ steps) state quiet within = free_kept steps (after (Do (WriteTmp bytes)) state) quiet within
free_kept (Do SyncTmp ∷ steps) state quiet within = free_kept steps (after (Do SyncTmp) state) quiet within
free_kept (Do (SyncDir name) ∷ steps) state quiet within = free_kept steps (after (Do (SyncDir name)) state) quiet (within_settled name state within) ∙ free_settled name state within
free_kept (Do (PublishTmp name file) ∷ steps) state quiet within = absurd quiet
free_kept (Do (RenameFile name from to) ∷ steps) state quiet within = absurd quiet
free_kept (Do (RemoveFile name file) ∷ steps) state quiet within = absurd quiet
