-- How a list of device calls runs: what stands after it, and what a crash at any moment within it leaves.
use Rattle.std.specs.Prelude.{◌≡◌, ◌≢◌, ◌⊎◌, ◌↔◌, ℕ, ◌+◌, ◌<◌, ◌≤◌, Bool, true, false, if◌then◌else◌, List, [], ◌∷◌, ◌++◌, length, map, take, Option, Some, None, IsSome, Result, ⊤}
use Rattle.sw_words.specs.Counts.{one_more}
use Rattle.sw_disk.specs.Folder.{Content, File, IsImage, same_name}
use Rattle.sw_disk.specs.Calls.{Call, WriteTmp, Step, Do, calls_in}
use Rattle.sw_disk.specs.State.{Schedule, State, run, stopped}
use Rattle.sw_disk.specs.declared.refusal.DiskRefusal.{DiskRefusal}
use Rattle.sw_disk.specs.declared.refusal.DiskRefusal.TheVariants.{Failed}

-- what contracts see of a disk
pub record Seen : Type 0 where
  -- what it holds, where it tells
  pub told : Option State
  -- how often it has failed
  pub faults : ℕ
  -- a number that does not fall, by which its past is told
  pub moment : ℕ
  -- how many changes of names in a folder take no memory
  pub room : List ℕ → ℕ

-- what a crash at some moment since that one leaves in a folder
abbrev pub Past : Type 1
Past = ℕ → List ℕ → List File → Type 0

-- no room for changes of names is given up, or that for one change in one folder
abbrev pub KeepsRoom : Seen → Seen → Type 0
KeepsRoom old new = (folder : List ℕ) → old.room folder ≤ new.room folder

abbrev pub TakesRoom : List ℕ → Seen → Seen → Type 0
TakesRoom name old new = (folder : List ℕ) → old.room folder ≤ new.room folder + (if same_name folder name then 1 else 0)

-- a fact of what the disk holds, where it tells
abbrev pub IfTold : Option State → (State → Type 0) → Type 0
IfTold None P = ⊤
IfTold (Some state) P = P state

-- the schedule of an exact disk
abbrev pub schedule_in : Option State → Option Schedule
schedule_in None = None
schedule_in (Some state) = state.schedule

-- it tells, and knows which of its calls fail
abbrev pub IsExact : Option State → Type 0
IsExact told = IsSome (schedule_in told)

abbrev pub refusal_of : {T : Type 0} → Result T DiskRefusal → Option DiskRefusal
refusal_of (Result.Ok value) = None
refusal_of (Result.Err refusal) = Some refusal

-- so many calls go on, and then, after a failure, the next one fails
abbrev pub GoOn : Option Schedule → ℕ → Type 0
GoOn None count = ⊤
GoOn (Some schedule) count = (k : ℕ) → k < count → schedule.fails (schedule.calls + k + 1) ≡ false

abbrev pub FailsNext : Option Schedule → Type 0
FailsNext None = ⊤
FailsNext (Some schedule) = schedule.fails (schedule.calls + 1) ≡ true

-- an exact disk makes nothing stable unasked
abbrev pub NoneUnasked : Option Schedule → List Step → Type 0
NoneUnasked None steps = ⊤
NoneUnasked (Some schedule) steps = steps ≡ map Do (calls_in steps)

-- whether the first of these calls writes
abbrev pub is_write : List Call → Bool
is_write (WriteTmp bytes ∷ calls) = true
is_write calls = false

-- a refused call leaves the temporary file, but for one that writes it, of a disk that is not exact
abbrev pub may_write : Option Schedule → List Call → Bool
may_write None rest = is_write rest
may_write (Some schedule) rest = false

abbrev pub KeepsTemporary : Option Schedule → List Call → Option Content → Option Content → Type 0
KeepsTemporary schedule rest old new = may_write schedule rest ≡ false → new ≡ old

-- these steps were done, and then the first of the rest was refused, where one was
pub record Stops (steps : List Step) (rest : List Call) (refusal : Option DiskRefusal) (old new : State) : Type 0 where
  pub whole : refusal ≡ None → new ≡ run steps old
  pub is_counted : Bool
  pub temporary : Option Content
  pub refused : (reason : DiskRefusal) → refusal ≡ Some reason → new ≡ stopped is_counted temporary (run steps old)
  pub kept : (reason : DiskRefusal) → refusal ≡ Some reason → KeepsTemporary old.schedule rest (run steps old).temporary temporary
  pub go_on : GoOn old.schedule (length (calls_in steps))
  pub fails : refusal ≡ Some Failed → FailsNext (run steps old).schedule
  pub unasked : NoneUnasked old.schedule steps

-- a disk that tells goes on telling
abbrev pub StopsTold : List Step → List Call → Option DiskRefusal → Option State → Option State → Type 0
StopsTold steps rest refusal None new = new ≡ None
StopsTold steps rest refusal (Some old) new = (state : State) × (new ≡ Some state) × Stops steps rest refusal old state

-- a crash may leave this in a folder before these steps, between two of them, or after
pub record IsWithin (steps : List Step) (old : State) (folder : List ℕ) (image : List File) : Type 0 where
  pub count : ℕ
  pub within : count ≤ length steps
  pub left : IsImage ((run (take count steps) old).folder folder) image

-- The first of these calls were done: all of them, or those before one that was refused or not even made. What a crash since some
-- moment may have left, an exact disk remembers.
pub record Runs {D : Type 0} (seen : D → Seen) (left_since : D → Past) (calls : List Call) (refusal : Option DiskRefusal) (old new : D) : Type 0 where
  pub steps : List Step
  pub rest : List Call
  pub split : calls ≡ calls_in steps ++ rest
  pub all : refusal ≡ None → rest ≡ []
  pub some : (reason : DiskRefusal) → refusal ≡ Some reason → rest ≢ []
  pub told : StopsTold steps rest refusal (seen old).told (seen new).told
  -- a crash at any moment within them
  pub later : (seen old).moment ≤ (seen new).moment
  pub nothing_else : (t : ℕ) (folder : List ℕ) (image : List File) → t ≤ (seen old).moment → left_since new t folder image
      → left_since old t folder image ⊎ IfTold (seen old).told (λ state. IsWithin steps state folder image)
  pub keeps : IsExact (seen old).told → (t : ℕ) (folder : List ℕ) (image : List File) → t ≤ (seen old).moment → left_since old t folder image → left_since new t folder image
  -- a failure counts one, and nothing else does
  pub failed : refusal ≡ Some Failed → (seen new).faults ≡ one_more (seen old).faults
  pub quiet : refusal ≢ Some Failed → (seen new).faults ≡ (seen old).faults

-- A device call of an exact disk is counted, also where it is refused, and fails where its number is one that fails.
pub record IsCounted (old new : Seen) (refusal : Option DiskRefusal) : Type 0 where
  pub counted : (schedule : Schedule) → schedule_in old.told ≡ Some schedule → schedule_in new.told ≡ Some (record schedule { calls = one_more schedule.calls })
  pub due : (schedule : Schedule) → schedule_in old.told ≡ Some schedule → schedule.fails (schedule.calls + 1) ≡ true → refusal ≡ Some Failed

-- The disk is as it was; it may have more room.
pub record IsUntouched {D : Type 0} (seen : D → Seen) (left_since : D → Past) (old new : D) : Type 0 where
  pub told : (seen new).told ≡ (seen old).told
  pub faults : (seen new).faults ≡ (seen old).faults
  pub moment : (seen new).moment ≡ (seen old).moment
  pub left : (t : ℕ) (folder : List ℕ) (image : List File) → left_since new t folder image ↔ left_since old t folder image

-- a crash at some moment since that one leaves in the folder what has P
abbrev pub LeavesOnly : {D : Type 0} → (D → Past) → D → ℕ → List ℕ → (List File → Type 0) → Type 0
LeavesOnly left_since disk t folder P = (image : List File) → left_since disk t folder image → P image

-- it is told whether the disk tells what it holds
abbrev pub IsTelling : Bool → Option State → Type 0
IsTelling true told = IsSome told
IsTelling false told = told ≡ None
