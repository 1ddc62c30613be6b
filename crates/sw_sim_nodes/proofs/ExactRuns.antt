-- A run of device calls of a disk in memory: which of them were done, and what that leaves.
use Rattle.std.proofs.Common.{◌≡◌, ◌≢◌, ◌⊎◌, ⊎_elim, ℕ, suc, ◌+◌, ◌<◌, ◌≤◌, Bool, true, false, List, [], ◌∷◌, ◌++◌, length, map, Option, Some, None, refl, sym, ap, ◌∙◌, arith}
use Rattle.std.proofs.lemmas.Bool.{true≢false}
use Rattle.sw_disk.specs.Calls.{Call, Do, Step, calls_in}
use Rattle.sw_disk.specs.Folder.{Content}
use Rattle.sw_disk.specs.Runs.{Runs, Stops}
use Rattle.sw_disk.specs.State.{Schedule, State, after, run, stopped, tick}
use Rattle.sw_disk.specs.declared.refusal.DiskRefusal.{DiskRefusal}
use Rattle.sw_memdisk.specs.Memory.{LeftBy, MemDiskModel, fails, seen_of, state_of}

pub record Ran (calls : List Call) (refusal : Option DiskRefusal) (a b : MemDiskModel) : Type 0 where
  pub done : List Call
  pub rest : List Call
  pub split : calls ≡ done ++ rest
  pub all : refusal ≡ None → rest ≡ []
  pub some : (reason : DiskRefusal) → refusal ≡ Some reason → rest ≢ []
  pub folders : (name : List ℕ) → (state_of b).folder name ≡ (run (map Do done) (state_of a)).folder name
  -- none of those that were done is one that fails
  pub goes_on : (k : ℕ) → k < length done → fails a (a.calls + k + 1) ≡ false
  -- and at most one more was counted
  pub counted : b.calls ≤ a.calls + length done + 1

-- ---- how many calls are counted

abbrev calls_made : Option Schedule → ℕ
calls_made None = 0
calls_made (Some schedule) = schedule.calls

made_by : (calls : List Call) (state : State) (schedule : Schedule) → state.schedule ≡ Some schedule → (run (map Do calls) state).schedule ≡ Some (record schedule { calls = schedule.calls + length calls })
made_by [] state schedule is =
    let same : schedule.calls ≡ schedule.calls + 0 = omega arith in
    is ∙ ap (λ (n : ℕ). Some (record schedule { calls = n })) same
made_by (call ∷ calls) state schedule is =
    let same : schedule.calls + 1 + length calls ≡ schedule.calls + suc (length calls) = omega arith in
    made_by calls (after (Do call) state) (record schedule { calls = schedule.calls + 1 }) (ap tick is) ∙ ap (λ (n : ℕ). Some (record schedule { calls = n })) same

counted_by : (is_counted : Bool) (temporary : Option Content) (calls : List Call) (state : State) (schedule : Schedule) → state.schedule ≡ Some schedule
    → calls_made (stopped is_counted temporary (run (map Do calls) state)).schedule ≤ schedule.calls + length calls + 1
counted_by true temporary calls state schedule is = omega (arith, ap (λ (s : Option Schedule). calls_made (tick s)) (made_by calls state schedule is))
counted_by false temporary calls state schedule is = omega (arith, ap calls_made (made_by calls state schedule is))

-- ---- a run

module _ (a : MemDiskModel) (steps : List Step) (rest : List Call) where
  same_state : (b : MemDiskModel) (state : State) → Some (state_of b) ≡ Some state → state_of b ≡ state
  same_state b state is = cc

  abbrev schedule : Schedule
  schedule = record { calls = a.calls; fails = fails a }

  abbrev Left : Option DiskRefusal → State → Type 0
  Left refusal state = ((name : List ℕ) → state.folder name ≡ (run (map Do (calls_in steps)) (state_of a)).folder name) × (calls_made state.schedule ≤ a.calls + length (calls_in steps) + 1)

  left : (refusal : Option DiskRefusal) (state : State) → Stops steps rest refusal (state_of a) state → Left refusal state
  left None state stops =
      let is : state ≡ run (map Do (calls_in steps)) (state_of a) = stops.whole refl ∙ ap (λ (l : List Step). run l (state_of a)) stops.unasked in (
        λ name. ap (λ (s : State). s.folder name) is,
        omega (arith, ap (λ (s : State). calls_made s.schedule) is, ap calls_made (made_by (calls_in steps) (state_of a) schedule refl)),
      )
  left (Some reason) state stops =
      let is : state ≡ stopped stops.is_counted stops.temporary (run (map Do (calls_in steps)) (state_of a)) =
      stops.refused reason refl ∙ ap (λ (l : List Step). stopped stops.is_counted stops.temporary (run l (state_of a))) stops.unasked in (
        λ name. ap (λ (s : State). s.folder name) is,
        omega (arith, ap (λ (s : State). calls_made s.schedule) is, counted_by stops.is_counted stops.temporary (calls_in steps) (state_of a) schedule refl),
      )

pub ran : (calls : List Call) (refusal : Option DiskRefusal) (a b : MemDiskModel) → Runs seen_of LeftBy calls refusal a b → Ran calls refusal a b
ran calls refusal a b runs =
    let stops = runs.told.2 in
    let same = same_state a runs.steps runs.rest b runs.told.0 runs.told.1 in
    let left = left a runs.steps runs.rest refusal runs.told.0 stops in
    record {
      done = calls_in runs.steps;
      rest = runs.rest;
      split = runs.split;
      all = runs.all;
      some = runs.some;
      folders = λ name. ap (λ (s : State). s.folder name) same ∙ left.0 name;
      goes_on = stops.go_on;
      counted = omega (arith, ap (λ (s : State). calls_made s.schedule) same, left.1);
    }

-- ---- where a call fails

-- of a disk whose call of this number fails no more calls are done than come before it
pub at_most : (calls : List Call) (refusal : Option DiskRefusal) (a b : MemDiskModel) (ran : Ran calls refusal a b) (count : ℕ) → fails a (a.calls + count + 1) ≡ true → length ran.done ≤ count
at_most calls refusal a b ran count failing = ⊎_elim
    (λ few. few)
    (λ more. absurd (true≢false (sym failing ∙ ran.goes_on count more)))
    (few_or_more (length ran.done) count)
  where
    few_or_more : (m n : ℕ) → (m ≤ n) ⊎ (n < m)
    few_or_more m n = grind arith

-- and all of these where more were counted
pub just_so : (calls : List Call) (refusal : Option DiskRefusal) (a b : MemDiskModel) (ran : Ran calls refusal a b) (count : ℕ) → fails a (a.calls + count + 1) ≡ true → a.calls + count < b.calls → length ran.done ≡ count
just_so calls refusal a b ran count failing more = omega (arith, at_most calls refusal a b ran count failing, more, ran.counted)
