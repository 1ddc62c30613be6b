-- The device calls of each change of a folder, in their order.
use Rattle.std.specs.Prelude.{ℕ, List, [], ◌∷◌, ◌++◌, map}
use Rattle.sw_disk.specs.Calls.{Call, ListNames, WriteTmp, SyncTmp, PublishTmp, RenameFile, RemoveFile, SyncDir}

-- a new file of these bytes
abbrev pub store_calls : (folder name bytes : List ℕ) → List Call
store_calls folder name bytes = WriteTmp bytes ∷ SyncTmp ∷ PublishTmp folder name ∷ SyncDir folder ∷ []

-- another name for a file
abbrev pub commit_calls : (folder plain durable : List ℕ) → List Call
commit_calls folder plain durable = RenameFile folder plain durable ∷ SyncDir folder ∷ []

-- one file removed
abbrev pub drop_calls : (folder name : List ℕ) → List Call
drop_calls folder name = RemoveFile folder name ∷ SyncDir folder ∷ []

-- all these files removed; none is no call
abbrev pub purge_calls : (folder : List ℕ) (names : List (List ℕ)) → List Call
purge_calls folder [] = []
purge_calls folder (name ∷ names) = map (RemoveFile folder) (name ∷ names) ++ SyncDir folder ∷ []

-- a folder looked at and made stable, and these files removed
abbrev pub tidy_calls : (folder : List ℕ) (names : List (List ℕ)) → List Call
tidy_calls folder names = ListNames folder ∷ SyncDir folder ∷ purge_calls folder names
