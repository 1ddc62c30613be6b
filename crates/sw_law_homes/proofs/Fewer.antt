-- Elements that some devices touch, each of them one at most, and those that are left.
use Rattle.std.proofs.Common.{◌≡◌, ℕ, zero, suc, ◌+◌, ◌≤◌, Bool, true, false, true≢false, not, ◌||◌, cond, All, AllPairs, Contains, List, [], ◌∷◌, filter, length, refl, sym, ap, ◌∙◌, arith}
use Rattle.std.specs.List.{list_any, slice_index_or}
use Rattle.std.proofs.lemmas.Bool.{false_from_ne_true, not-true}
use Rattle.std.proofs.lemmas.List.Elements.{All-head, All-tail}
use Rattle.std.proofs.lemmas.List.Folds.{list_any_at}

module _ {X : Type 0} (x : X) where
  -- before two lists stands one more element, which the first test fails
  more : (a b : Bool) (xs ys : List X) → a ≡ false → length xs ≤ length ys → length (cond (not b) (x ∷ xs) xs) ≤ length (cond (not (a || b)) (x ∷ ys) ys)
  more true b xs ys fails fewer = absurd (true≢false fails)
  more false true xs ys fails fewer = fewer
  more false false xs ys fails fewer = omega (arith, fewer)

  -- or which it may pass, where the rest fails it
  one : (a b : Bool) (xs ys : List X) → (a ≡ true → length xs ≤ length ys) → length xs ≤ length ys + 1 → length (cond (not b) (x ∷ xs) xs) ≤ length (cond (not (a || b)) (x ∷ ys) ys) + 1
  one true true xs ys rest fewer = fewer
  one true false xs ys rest fewer = omega (arith, rest refl)
  one false true xs ys rest fewer = fewer
  one false false xs ys rest fewer = omega (arith, fewer)

module _ {X : Type 0} (a b : X → Bool) where
  -- a test that none passes takes none away
  none_more : (xs : List X) → All (λ x. a x ≡ false) xs → length (filter (λ x. not (b x)) xs) ≤ length (filter (λ x. not (a x || b x)) xs)
  none_more [] fail = omega arith
  none_more (x ∷ xs) fail = more x (a x) (b x) _ _ (All-head (λ y. a y ≡ false) x xs fail) (none_more xs (All-tail (λ y. a y ≡ false) x xs fail))

  -- and one that no two pass takes one away at most
  one_more : (xs : List X) → AllPairs (λ x y. a x ≡ true → a y ≡ true → ⊥) xs → length (filter (λ x. not (b x)) xs) ≤ length (filter (λ x. not (a x || b x)) xs) + 1
  one_more [] once = omega arith
  one_more (x ∷ xs) once =
      one x (a x) (b x) _ _
      (λ passes. none_more xs (λ k d within. false_from_ne_true (a (slice_index_or xs k d)) (once zero (suc k) d (omega arith) (omega (arith, within)) passes)))
      (one_more xs (λ i j d less within. once (suc i) (suc j) d (omega (arith, less)) (omega (arith, within))))

module _ {X : Type 0} (touches : ℕ → X → Bool) where
  -- whether some device touches an element
  abbrev pub is_touched : List ℕ → X → Bool
  is_touched out x = list_any (λ device. touches device x) out

  -- the elements that none touches
  abbrev pub left_by : List ℕ → List X → List X
  left_by out xs = filter (λ x. not (is_touched out x)) xs

  -- where there are no devices, all are left
  all_left : (xs : List X) → length xs ≤ length (left_by [] xs)
  all_left [] = omega arith
  all_left (x ∷ xs) = omega (arith, all_left xs)

  -- where no device touches two, at most so many are touched as there are devices
  pub fewer_left : (out : List ℕ) (xs : List X) → ((device : ℕ) → AllPairs (λ x y. touches device x ≡ true → touches device y ≡ true → ⊥) xs) → length xs ≤ length (left_by out xs) + length out
  fewer_left [] xs once = omega (arith, all_left xs)
  fewer_left (device ∷ out) xs once = omega (arith, fewer_left out xs once, one_more (touches device) (is_touched out) xs (once device))

  -- what is left is touched by none
  pub untouched : (out : List ℕ) (x : X) → not (is_touched out x) ≡ true → (device : ℕ) → Contains out device → touches device x ≡ true → ⊥
  untouched out x left device (k, within, here) touched =
      true≢false (sym (list_any_at (λ d. touches d x) out k device within (ap (λ d. touches d x) here ∙ touched)) ∙ not-true (is_touched out x) left)
