-- Whether an item of a list is found.
use Rattle.std.proofs.Common.{◌≡◌, ℕ, ◌+◌, suc, Bool, true, false, cond, nat_lt, not, ◌||◌, List, [], ◌∷◌, length, Some, None, refl, ◌∙◌, arith}
use Rattle.std.specs.List.{list_any, position, position_or_len}
use Rattle.std.specs.Option.{is_some}
use Rattle.std.proofs.lemmas.Bool.Decides.{nat_tests}

within_any : {X : Type 0} (p : X → Bool) (xs : List X) → nat_lt (position_or_len p xs) (length xs) ≡ list_any p xs
within_any p [] = refl
within_any p (x ∷ xs) = step (p x) (within_any p xs)
  where
    step : (passes : Bool) → nat_lt (position_or_len p xs) (length xs) ≡ list_any p xs → nat_lt (cond (not passes) (1 + position_or_len p xs) 0) (suc (length xs)) ≡ (passes || list_any p xs)
    step true rest = grind (arith, nat_tests)
    step false rest = grind (arith, nat_tests, rest)

found : (b : Bool) (n : ℕ) → is_some (cond b (Some n) None) ≡ b
found true n = refl
found false n = refl

-- an item has a position where there is one that passes
pub position_any : {X : Type 0} (p : X → Bool) (xs : List X) → is_some (position p xs) ≡ list_any p xs
position_any p xs = found (nat_lt (position_or_len p xs) (length xs)) (position_or_len p xs) ∙ within_any p xs
