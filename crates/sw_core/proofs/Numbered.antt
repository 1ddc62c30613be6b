-- Items of a number, counted from 1.
use Rattle.std.proofs.Common.{◌≡◌, ◌≢◌, ◌⊎◌, inl, inr, ℕ, zero, suc, ◌+◌, ◌≤◌, Contains, List, [], ◌∷◌, ◌++◌, length, Some, refl, ap, subst, arith}
use Rattle.std.proofs.lemmas.Option.{get_or_from_slice_get, none-some, same_Some, slice_get_within}
use Rattle.sw_core.specs.World.{numbered, with_numbered}

module _ {A : Type 0} where
  pub none-numbered : (number : ℕ) (item : A) → numbered {A = A} [] number ≡ Some item → ⊥
  none-numbered zero item is = none-some item is
  none-numbered (suc slot) item is = none-some item is

  pub numbered-within : (items : List A) (number : ℕ) (item : A) → numbered items number ≡ Some item → number ≤ length items
  numbered-within items zero item is = omega arith
  numbered-within items (suc slot) item is = omega (arith, slice_get_within items slot item is)

  pub numbered-contains : (items : List A) (number : ℕ) (item : A) → numbered items number ≡ Some item → Contains items item
  numbered-contains items zero item is = absurd (none-some item is)
  numbered-contains items (suc slot) item is = (slot, slice_get_within items slot item is, get_or_from_slice_get items slot item item is)

  -- ---- one more at the end

  pub pushed-cases : (items : List A) (last : A) (number : ℕ) (item : A) → numbered (items ++ last ∷ []) number ≡ Some item → (numbered items number ≡ Some item) ⊎ ((number ≡ length items + 1) × (last ≡ item))
  pushed-cases items last zero item is = inl is
  pushed-cases [] last (suc zero) item is = inr (refl, same_Some last item is)
  pushed-cases [] last (suc (suc slot)) item is = absurd (none-some item is)
  pushed-cases (first ∷ items) last (suc zero) item is = inl is
  pushed-cases (first ∷ items) last (suc (suc slot)) item is = elim (pushed-cases items last (suc slot) item is) [
    | inl old ↦ inl old
    | inr new ↦ inr (omega (arith, new.0), new.1)
  ]

  pub pushed-last : (items : List A) (last : A) → numbered (items ++ last ∷ []) (length items + 1) ≡ Some last
  pushed-last items last = let next : suc (length items) ≡ length items + 1 = omega arith in subst (λ number. numbered (items ++ last ∷ []) number ≡ Some last) next (at_slot items)
    where
      at_slot : (items : List A) → numbered (items ++ last ∷ []) (suc (length items)) ≡ Some last
      at_slot [] = refl
      at_slot (first ∷ items) = at_slot items

  -- ---- another item of a number

  pub replaced-length : (number : ℕ) (item : A) (items : List A) → length (with_numbered number item items) ≡ length items
  replaced-length number item [] = refl
  replaced-length zero item (other ∷ others) = refl
  replaced-length (suc zero) item (other ∷ others) = refl
  replaced-length (suc (suc number)) item (other ∷ others) = ap suc (replaced-length (suc number) item others)

  pub replaced-cases : (number : ℕ) (new : A) (items : List A) (other : ℕ) (item : A) → numbered (with_numbered number new items) other ≡ Some item
      → ((other ≡ number) × (new ≡ item)) ⊎ ((other ≢ number) × (numbered items other ≡ Some item))
  replaced-cases number new [] other item is = absurd (none-numbered other item is)
  replaced-cases number new (first ∷ items) zero item is = absurd (none-some item is)
  replaced-cases zero new (first ∷ items) (suc slot) item is = inr ((λ same. absurd (omega (arith, same))), is)
  replaced-cases (suc zero) new (first ∷ items) (suc zero) item is = inl (refl, same_Some new item is)
  replaced-cases (suc zero) new (first ∷ items) (suc (suc slot)) item is = inr ((λ same. absurd (omega (arith, same))), is)
  replaced-cases (suc (suc number)) new (first ∷ items) (suc zero) item is = inr ((λ same. absurd (omega (arith, same))), is)
  replaced-cases (suc (suc number)) new (first ∷ items) (suc (suc slot)) item is = elim (replaced-cases (suc number) new items (suc slot) item is) [
    | inl this ↦ inl (ap suc this.0, this.1)
    | inr other ↦ inr ((λ same. other.0 (omega (arith, same))), other.1)
  ]
