-- What a call that reads or writes many pieces does to the known bytes.
use Rattle.std.specs.Prelude.{ℕ, ◌<◌, ◌≤◌, List, length, take, Option}
use Rattle.std.specs.Io.KnownBytes.{Appends, Consumes}

-- known bytes grow by a front of these, and not by all of them
abbrev pub AppendsProperFront : Option (List ℕ) → Option (List ℕ) → List ℕ → Type 0
AppendsProperFront old new bytes = (n : ℕ) × Appends old new (take n bytes) × (n < length bytes)

-- known bytes begin with some bytes, at most so many, and lose them
abbrev pub ConsumesFront : Option (List ℕ) → Option (List ℕ) → ℕ → Type 0
ConsumesFront old new limit = (front : List ℕ) × Consumes old new front × (length front ≤ limit)
