-- Counts of faults and the like. A count never falls, and stands still at the last value of its type.
use Rattle.std.specs.Prelude.{◌≡◌, ℕ, ◌+◌, ◌-◌, ◌^◌, ◌<◌, ◌≤◌, ◌⊎◌, min, Result, IsErr, IsOk}

-- the last value of a count
abbrev pub last_count : ℕ
last_count = 2 ^ 64 - 1

-- a count after one more
abbrev pub one_more : ℕ → ℕ
one_more count = min (count + 1) last_count

-- the count rose, or stands at its last value
abbrev pub Rose : ℕ → ℕ → Type 0
Rose before after = (before < after) ⊎ (last_count ≤ after)

-- a call never lowers its object's count, fails only where the count rose, and leaves it where it succeeds
pub record FailsByCount {T E : Type 0} (before after : ℕ) (result : Result T E) : Type 0 where
  pub never_falls : before ≤ after
  pub cause : IsErr result → Rose before after
  pub quiet : IsOk result → after ≡ before

-- the count after a call is one more where the call failed, and else what it was
pub record CountsFailure {T E : Type 0} (before after : ℕ) (result : Result T E) : Type 0 where
  pub counted : IsErr result → after ≡ one_more before
  pub quiet : IsOk result → after ≡ before
