-- What a disk is when a shelf hands it out, and what becomes of a shelf when one comes back.
use Rattle.std.specs.Prelude.{◌≡◌, ℕ, ◌==◌, if◌then◌else◌, List, [], ◌∷◌, ◌++◌, Option, Some, None}
use Rattle.sw_words.specs.Counts.{one_more}
use Rattle.sw_disk.specs.Runs.{IfTold, Seen}
use Rattle.sw_disk.specs.State.{State}

-- a disk of so many bytes that holds nothing
pub record IsEmpty (size : ℕ) (state : State) : Type 0 where
  pub capacity : state.capacity ≡ size
  pub used : state.used ≡ 0
  pub temporary : state.temporary ≡ None
  pub folders : (name : List ℕ) → state.folder name ≡ record { stable = []; pending = [] }

-- a disk of so many bytes that has not failed and, where it tells, holds nothing
pub record IsNew (size : ℕ) (seen : Seen) : Type 0 where
  pub faults : seen.faults ≡ 0
  pub told : IfTold seen.told (IsEmpty size)

-- a shelf's count of faults once a disk is back whose own count is this
abbrev pub after_back : ℕ → ℕ → ℕ
after_back disk count = if disk == 0 then count else one_more count

-- a list with more at its end, where the list is told
abbrev pub with_all : {T : Type 0} → Option (List T) → List T → Option (List T)
with_all None more = None
with_all (Some items) more = Some (items ++ more)

-- with one more
abbrev pub with_one : {T : Type 0} → Option (List T) → T → Option (List T)
with_one None item = None
with_one (Some items) item = Some (items ++ item ∷ [])
