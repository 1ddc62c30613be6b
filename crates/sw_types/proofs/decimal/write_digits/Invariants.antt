use Rattle.std.proofs.Common.{◌≡◌, ◌≤◌, ◌++◌, length, drop}
use Rattle.sw_types.specs.Decimal.{last_digits}
use Rattle.sw_types.proofs.decimal.write_digits.Given as goal

-- the digits of what is left go before those that are written
abbrev pub invariant-loop-place : goal.invariant-loop-place
invariant-loop-place l =
    (l.place ≤ length l.text) × (last_digits l.place l.rest ++ drop l.place l.text ≡ last_digits (length l.fn.text) l.fn.number)

abbrev pub decreases-loop-place : goal.decreases-loop-place
decreases-loop-place l = l.place
