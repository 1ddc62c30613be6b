-- The words of a command line.
use Rattle.std.proofs.Common.{◌≡◌, List, [], ◌∷◌, length, map, drop, get_or, sym, ap₂, arith}

-- what is made of the second and the third of three
pub last_two : {A : Type 0} {B : Type 0} (f : A → B) (xs : List A) (second third : A) → length xs ≡ 3 → second ≡ get_or xs 1 second → third ≡ get_or xs 2 third
    → drop 1 (map f xs) ≡ f second ∷ f third ∷ []
last_two f [] second third long at_second at_third = absurd (omega arith)
last_two f (x ∷ []) second third long at_second at_third = absurd (omega arith)
last_two f (x ∷ y ∷ []) second third long at_second at_third = absurd (omega arith)
last_two f (x ∷ y ∷ z ∷ []) second third long at_second at_third = ap₂ (λ a b. f a ∷ f b ∷ []) (sym at_second) (sym at_third)
last_two f (x ∷ y ∷ z ∷ more ∷ xs) second third long at_second at_third = absurd (omega arith)
