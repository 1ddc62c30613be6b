-- Timestamps: a number of units of 10 microseconds, printed as ten digits of seconds, a point and five digits.
use Rattle.std.specs.Prelude.{ℕ, ◌/◌, ◌%◌, List, ◌∷◌, ◌++◌}
use Rattle.sw_types.specs.Decimal.{last_digits}

abbrev pub greatest_stamp : ℕ
greatest_stamp = 999999999999999

abbrev pub stamp_text : ℕ → List ℕ
stamp_text units = last_digits 10 (units / 100000) ++ 46 ∷ last_digits 5 (units % 100000)
