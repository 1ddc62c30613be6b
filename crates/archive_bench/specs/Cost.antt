-- What is neither MD5 nor the code's products.
use Rattle.std.specs.Prelude.{ℕ, ◌-◌, ◌*◌, ◌/◌, max}

-- of so many nanoseconds, those of neither; none where they together took more
abbrev pub rest_of : ℕ → ℕ → ℕ → ℕ
rest_of whole hashing field = whole - hashing - field

-- in hundredths of the whole, rounded down; no time counts as a nanosecond
abbrev pub percent_of : ℕ → ℕ → ℕ
percent_of rest whole = rest * 100 / max whole 1
