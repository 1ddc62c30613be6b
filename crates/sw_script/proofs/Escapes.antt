-- Escapes, one after the other.
use Rattle.std.proofs.Common.{◌≡◌, ℕ, true, false, List, [], ◌∷◌, drop, arith}
use Rattle.std.proofs.lemmas.Bool.Decides.{nat_tests}
use Rattle.sw_script.specs.Word.{begins_with_digits, has_whole_escapes}

-- another byte is no escape
pub no_escape : (byte : ℕ) (rest : List ℕ) → ¬ (byte ≡ 37) → has_whole_escapes (byte ∷ rest) ≡ has_whole_escapes rest
no_escape byte [] other = grind (arith, nat_tests)
no_escape byte (high ∷ []) other = grind (arith, nat_tests)
no_escape byte (high ∷ low ∷ rest) other = grind (arith, nat_tests)

-- an escape is left behind
pub whole_escape : (byte : ℕ) (rest : List ℕ) → byte ≡ 37 → begins_with_digits rest ≡ true → has_whole_escapes (byte ∷ rest) ≡ has_whole_escapes (drop 2 rest)
whole_escape byte [] percent digits = absurd (cc)
whole_escape byte (high ∷ []) percent digits = absurd (cc)
whole_escape byte (high ∷ low ∷ rest) percent digits = grind (arith, nat_tests)

-- a percent sign without its digits
pub bad_escape : (byte : ℕ) (rest : List ℕ) → byte ≡ 37 → begins_with_digits rest ≡ false → has_whole_escapes (byte ∷ rest) ≡ false
bad_escape byte [] percent digits = grind (arith, nat_tests)
bad_escape byte (high ∷ []) percent digits = grind (arith, nat_tests)
bad_escape byte (high ∷ low ∷ rest) percent digits = grind (arith, nat_tests)
