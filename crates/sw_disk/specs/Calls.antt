-- The calls of a device, and what it does of them.
use Rattle.std.specs.Prelude.{ℕ, List, [], ◌∷◌}

pub data Call : Type 0 where
  ListFolders : Call
  ListNames : (folder : List ℕ) → Call
  ReadFile : (folder name : List ℕ) → Call
  WriteTmp : (bytes : List ℕ) → Call
  SyncTmp : Call
  PublishTmp : (folder name : List ℕ) → Call
  RenameFile : (folder from to : List ℕ) → Call
  RemoveFile : (folder name : List ℕ) → Call
  SyncDir : (folder : List ℕ) → Call

-- a call that is done, or the changes of a folder that become stable although no call asked for it
pub data Step : Type 0 where
  Do : (call : Call) → Step
  Settle : (folder : List ℕ) → Step

-- the calls among the steps
abbrev pub calls_in : List Step → List Call
calls_in [] = []
calls_in (Do call ∷ steps) = call ∷ calls_in steps
calls_in (Settle folder ∷ steps) = calls_in steps
