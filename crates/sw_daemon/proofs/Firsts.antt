-- The first so many of a list, of which some are kept.
use Rattle.std.proofs.Common.{◌≡◌, ℕ, ◌≤◌, Bool, List, length, min, take, ap, ◌∙◌, arith}
use Rattle.std.specs.List.{filter}
use Rattle.std.proofs.lemmas.List.{take_all, take_min}

min-swap : (a b : ℕ) → min a b ≡ min b a
min-swap a b = omega arith

pub kept_first : {X : Type 0} (p : X → Bool) (xs : List X) (most count i : ℕ) (kept : List X) → count ≡ min (length xs) most → length (take count xs) ≤ i → kept ≡ filter p (take i (take count xs)) → kept ≡ filter p (take most xs)
kept_first p xs most count i kept is over these =
    these ∙ ap (filter p) (take_all i (take count xs) over ∙ ap (λ n. take n xs) (is ∙ min-swap (length xs) most) ∙ take_min most xs)
