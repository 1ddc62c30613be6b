-- What the bytes are that a disk uses.
use Rattle.std.specs.Prelude.{◌≡◌, ◌≢◌, ℕ, Contains, List, [], sum_by}
use Rattle.std.specs.List.{AllPairs}
use Rattle.sw_disk.specs.Folder.{files_of}
use Rattle.sw_disk.specs.State.{State, size_of}

-- The bytes that are used are those of all files: of some folders, each once, outside which there is no file.
pub record IsAccounted (state : State) : Type 0 where
  pub names : List (List ℕ)
  pub distinct : AllPairs (λ a b. a ≢ b) names
  pub others : (name : List ℕ) → (Contains names name → ⊥) → files_of (state.folder name) ≡ []
  pub used_is : state.used ≡ sum_by (λ name. size_of (state.folder name)) names
