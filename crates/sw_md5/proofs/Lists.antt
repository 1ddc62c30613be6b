-- Short lists.
use Rattle.std.proofs.Common.{◌≡◌, ℕ, ◌+◌, ◌-◌, ◌<◌, ◌≤◌, min, List, [], ◌∷◌, ◌++◌, length, get_or, take, drop, refl, sym, ap, ap₂, ◌∙◌, inl, inr, arith}
use Rattle.std.proofs.lemmas.Bool.{cases_lt}
use Rattle.std.proofs.lemmas.List.{take_all, take-take, drop-take, take-append-drop}

pub four_items : (h : List ℕ) → length h ≡ 4 → get_or h 0 0 ∷ get_or h 1 0 ∷ get_or h 2 0 ∷ get_or h 3 0 ∷ [] ≡ h
four_items [] e = absurd (omega arith)
four_items (a ∷ []) e = absurd (omega arith)
four_items (a ∷ b ∷ []) e = absurd (omega arith)
four_items (a ∷ b ∷ c ∷ []) e = absurd (omega arith)
four_items (a ∷ b ∷ c ∷ d ∷ []) e = refl
four_items (a ∷ b ∷ c ∷ d ∷ x ∷ rest) e = absurd (omega arith)

-- a front, and the next items up to some index or the end
pub take_further : {V : Type 0} (xs : List V) (a b e : ℕ) → e ≡ min (length xs) b → a < length xs → a ≤ b → take b xs ≡ take a xs ++ take (e - a) (drop a xs)
take_further xs a b e is low order =
    let more : a + (e - a) ≡ e = omega arith in
    let parts = sym (take-append-drop a (take e xs)) in
    ends ∙ parts ∙ ap₂ (λ l r. l ++ r) (take-take a e xs (omega arith)) (ap (λ n. drop a (take n xs)) (sym more) ∙ drop-take a (e - a) xs)
  where
    ends : take b xs ≡ take e xs
    ends = elim (cases_lt b (length xs)) [
      | inl under ↦ (let same : b ≡ e = omega arith in ap (λ n. take n xs) same)
      | inr over ↦ take_all b xs over ∙ sym (take_all e xs (omega arith))
    ]
