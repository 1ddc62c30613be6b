-- Rates, in tenths of 10^6 bytes a second.
use Rattle.std.specs.Prelude.{ℕ, ◌*◌, ◌/◌, ◌%◌, max, List, ◌∷◌, ◌++◌}
use Rattle.std.specs.Fmt.{decimal}

-- so many bytes in so many nanoseconds, rounded down; no time counts as a nanosecond
abbrev pub tenths_of : ℕ → ℕ → ℕ
tenths_of bytes nanos = bytes * 10000 / max nanos 1

-- a rate with its one digit behind the point
abbrev pub rate_text : ℕ → List ℕ
rate_text tenths = decimal (tenths / 10) ++ 46 ∷ decimal (tenths % 10)
