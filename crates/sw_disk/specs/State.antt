-- What a disk holds, and what a call that is done does to it.
use Rattle.std.specs.Prelude.{ℕ, ◌+◌, ◌-◌, sum_by, Bool, true, false, if◌then◌else◌, List, [], ◌∷◌, ◌++◌, length, Option, Some, None}
use Rattle.sw_disk.specs.Folder.{Change, Publish, Rename, Remove, Content, Folder, files_of, same_name}
use Rattle.sw_disk.specs.Calls.{Call, ListFolders, ListNames, ReadFile, WriteTmp, SyncTmp, PublishTmp, RenameFile, RemoveFile, SyncDir, Step, Do, Settle}

-- how many device calls were made, and which fail, by their number
pub record Schedule : Type 0 where
  pub calls : ℕ
  pub fails : ℕ → Bool

pub record State : Type 0 where
  -- how many bytes the published files may have
  pub capacity : ℕ
  -- how many they have
  pub used : ℕ
  -- of a disk that is exact: the device calls that were made, and those that fail
  pub schedule : Option Schedule
  pub temporary : Option Content
  -- a folder by its name
  pub folder : List ℕ → Folder

abbrev pub free_of : State → ℕ
free_of state = state.capacity - state.used

-- one call more
abbrev pub tick : Option Schedule → Option Schedule
tick None = None
tick (Some schedule) = Some (record schedule { calls = schedule.calls + 1 })

-- the folders, one of them another
abbrev pub with_folder : (List ℕ → Folder) → List ℕ → Folder → List ℕ → Folder
with_folder folders name folder other = if same_name other name then folder else folders other

abbrev pub pended : Folder → Change → Folder
pended folder change = record folder { pending = folder.pending ++ change ∷ [] }

abbrev pub settled : Folder → Folder
settled folder = record { stable = files_of folder; pending = [] }

-- the bytes of a folder's files
abbrev pub size_of : Folder → ℕ
size_of folder = sum_by (λ file. length file.content.bytes) (files_of folder)

-- another folder in its place
abbrev pub replaced : State → List ℕ → Folder → State
replaced state name folder = record state {
  used = (state.used - size_of (state.folder name)) + size_of folder;
  folder = with_folder state.folder name folder;
}

abbrev pub synced : Option Content → Option Content
synced None = None
synced (Some content) = Some (record content { synced = true })

-- the temporary file, if there is one, under a name
abbrev pub published : Option Content → List ℕ → Folder → Folder
published None name folder = folder
published (Some content) name folder = pended folder (Publish (record { name = name; content = content }))

-- what a call does
abbrev pub effect : Call → State → State
effect ListFolders state = state
effect (ListNames folder) state = state
effect (ReadFile folder name) state = state
effect (WriteTmp bytes) state = record state { temporary = Some (record { bytes = bytes; synced = false }) }
effect SyncTmp state = record state { temporary = synced state.temporary }
effect (PublishTmp folder name) state = record (replaced state folder (published state.temporary name (state.folder folder))) { temporary = None }
effect (RenameFile folder from to) state = replaced state folder (pended (state.folder folder) (Rename from to))
effect (RemoveFile folder name) state = replaced state folder (pended (state.folder folder) (Remove name))
effect (SyncDir folder) state = replaced state folder (settled (state.folder folder))

-- what a step does; a call is counted, too
abbrev pub after : Step → State → State
after (Do call) state = record (effect call state) { schedule = tick state.schedule }
after (Settle folder) state = replaced state folder (settled (state.folder folder))

abbrev pub run : List Step → State → State
run [] state = state
run (step ∷ steps) state = run steps (after step state)

-- what a refused call leaves, which may be counted: the folders are as before
abbrev pub stopped : Bool → Option Content → State → State
stopped is_counted temporary state = record state { schedule = if is_counted then tick state.schedule else state.schedule; temporary = temporary }
