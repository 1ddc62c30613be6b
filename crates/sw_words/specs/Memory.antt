-- Want of memory, which a call may answer at any time.
use Rattle.std.specs.Prelude.{◌≢◌}

-- what is claimed of a call holds, unless its answer is want of memory
abbrev pub UnlessMemory : {A : Type 0} → A → A → Type 0 → Type 0
UnlessMemory no_memory answer claim = answer ≢ no_memory → claim
