-- Lists slot by slot: what stands behind others, what is put in an item's slot, and two lists side by side.
use Rattle.std.proofs.Common.{◌≡◌, ◌≢◌, ◌⊎◌, inl, inr, ℕ, zero, suc, ◌+◌, ◌-◌, ◌<◌, ◌≤◌, Contains, List, [], ◌∷◌, ◌++◌, length, map, set, slice_get, slice_index_or, Some, None, refl, sym, ap, subst, ◌∙◌, arith}
use Rattle.std.specs.List.{AllZip}
use Rattle.std.proofs.lemmas.Option.{none-some, same_Some, slice_get-get_or}
use Rattle.std.proofs.lemmas.Slice.Zip.{AllZip-long}
pub use Rattle.sw_diskfile.proofs.Lists.{Contains-cases, Contains-first}
use Rattle.sw_core.specs.World.{numbered, with_numbered}

module _ {A : Type 0} where
  -- there is an item at each slot below the length
  pub item-at : (items : List A) (slot : ℕ) → slot < length items → (item : A) × (slice_get items slot ≡ Some item)
  item-at [] slot below = absurd (omega (arith, below))
  item-at (first ∷ items) zero below = (first, refl)
  item-at (first ∷ items) (suc slot) below = item-at items slot (omega (arith, below))

  -- and none past its end
  pub past-end : (items : List A) (slot : ℕ) → slice_get items slot ≡ None → length items ≤ slot
  past-end [] slot none = omega arith
  past-end (first ∷ items) zero none = absurd (none-some first (sym none))
  past-end (first ∷ items) (suc slot) none = omega (arith, past-end items slot none)

  -- the item that is read at a slot
  pub indexed : (items : List A) (slot : ℕ) (item : A) → slot < length items → item ≡ slice_index_or items slot item → slice_get items slot ≡ Some item
  indexed items slot item within is = slice_get-get_or items slot item within ∙ ap Some (sym is)

  -- ---- others behind

  -- what stands in both is one of the first, or one of those behind them
  pub behind-cases : (items more : List A) (slot : ℕ) (item : A) → slice_get (items ++ more) slot ≡ Some item → (slice_get items slot ≡ Some item) ⊎ ((other : ℕ) × (slot ≡ length items + other) × (slice_get more other ≡ Some item))
  behind-cases [] more slot item is = inr (slot, omega arith, is)
  behind-cases (first ∷ items) more zero item is = inl is
  behind-cases (first ∷ items) more (suc slot) item is = elim (behind-cases items more slot item is) [
    | inl old ↦ inl old
    | inr new ↦ inr (new.0, omega (arith, new.1), new.2)
  ]

  -- what holds of an item holds of each in a list of it alone
  pub one-item : (P : A → Type 0) (item : A) → P item → (slot : ℕ) (other : A) → slice_get (item ∷ []) slot ≡ Some other → P other
  one-item P item holds zero other is = subst P (same_Some item other is) holds
  one-item P item holds (suc slot) other is = absurd (none-some other is)

  -- ---- another item in a slot

  -- what stands there then is the new one, or was there before in another slot
  pub put-cases : (items : List A) (slot : ℕ) (new : A) (other : ℕ) (item : A) → slice_get (set items slot new) other ≡ Some item → ((other ≡ slot) × (new ≡ item)) ⊎ ((other ≢ slot) × (slice_get items other ≡ Some item))
  put-cases [] slot new other item is = absurd (none-some item is)
  put-cases (first ∷ items) zero new zero item is = inl (refl, same_Some new item is)
  put-cases (first ∷ items) zero new (suc other) item is = inr ((λ same. absurd (omega (arith, same))), is)
  put-cases (first ∷ items) (suc slot) new zero item is = inr ((λ same. absurd (omega (arith, same))), is)
  put-cases (first ∷ items) (suc slot) new (suc other) item is = elim (put-cases items slot new other item is) [
    | inl this ↦ inl (ap suc this.0, this.1)
    | inr that ↦ inr ((λ same. that.0 (omega (arith, same))), that.1)
  ]

  -- nothing changes where the item was there
  pub put-same : (items : List A) (slot : ℕ) (item : A) → slice_get items slot ≡ Some item → set items slot item ≡ items
  put-same [] slot item is = refl
  put-same (first ∷ items) zero item is = ap (λ (one : A). one ∷ items) (sym (same_Some first item is))
  put-same (first ∷ items) (suc slot) item is = ap (λ (others : List A). first ∷ others) (put-same items slot item is)

  -- ---- numbers from 1

  -- the item of a number stands one slot before it
  pub at-numbered : (items : List A) (number : ℕ) (item : A) → numbered items number ≡ Some item → slice_get items (number - 1) ≡ Some item
  at-numbered items zero item is = absurd (none-some item is)
  at-numbered items (suc slot) item is = let same : slot ≡ suc slot - 1 = omega arith in subst (λ (at : ℕ). slice_get items at ≡ Some item) same is

  -- no item has the number 0
  pub numbered-above : (items : List A) (number : ℕ) (item : A) → numbered items number ≡ Some item → 0 < number
  numbered-above items zero item is = absurd (none-some item is)
  numbered-above items (suc slot) item is = omega arith

  -- each number up to the length has an item
  pub numbered-some : (items : List A) (number : ℕ) → 0 < number → number ≤ length items → (item : A) × (numbered items number ≡ Some item)
  numbered-some items zero some within = absurd (omega (arith, some))
  numbered-some items (suc slot) some within = item-at items slot within

  -- the item of a number is the new one, or was that of it before
  pub numbered-put : (items : List A) (number : ℕ) (new : A) (other : ℕ) (item : A) → 0 < number → numbered (set items (number - 1) new) other ≡ Some item
      → ((other ≡ number) × (new ≡ item)) ⊎ ((other ≢ number) × (numbered items other ≡ Some item))
  numbered-put items number new zero item some is = absurd (none-some item is)
  numbered-put items number new (suc slot) item some is = elim (put-cases items (number - 1) new slot item is) [
    | inl this ↦ inl (omega (arith, this.0, some), this.1)
    | inr that ↦ inr ((λ same. that.0 (omega (arith, same, some))), that.1)
  ]

  -- the new one is that of the number
  pub replaced-at : (items : List A) (number : ℕ) (old new : A) → numbered items number ≡ Some old → numbered (with_numbered number new items) number ≡ Some new
  replaced-at items zero old new is = absurd (none-some old is)
  replaced-at [] (suc slot) old new is = absurd (none-some old is)
  replaced-at (first ∷ items) (suc zero) old new is = refl
  replaced-at (first ∷ items) (suc (suc slot)) old new is = replaced-at items (suc slot) old new is

  -- those of the other numbers stay
  pub replaced-other : (items : List A) (number other : ℕ) (new : A) → other ≢ number → numbered (with_numbered number new items) other ≡ numbered items other
  replaced-other [] number other new apart = refl
  replaced-other (first ∷ items) zero other new apart = refl
  replaced-other (first ∷ items) (suc zero) zero new apart = refl
  replaced-other (first ∷ items) (suc zero) (suc zero) new apart = absurd (apart refl)
  replaced-other (first ∷ items) (suc zero) (suc (suc other)) new apart = refl
  replaced-other (first ∷ items) (suc (suc number)) zero new apart = refl
  replaced-other (first ∷ items) (suc (suc number)) (suc zero) new apart = refl
  replaced-other (first ∷ items) (suc (suc number)) (suc (suc other)) new apart = replaced-other items (suc number) (suc other) new (λ same. apart (ap suc same))

  -- ---- what a list contains

  -- an item that a list contains stands somewhere
  pub contained : (items : List A) (item : A) → Contains items item → (slot : ℕ) × (slice_get items slot ≡ Some item)
  contained items item (slot, within, is) = (slot, slice_get-get_or items slot item within ∙ ap Some is)

-- ---- what a function makes of items

-- each is made of the item in its place
pub mapped : {A B : Type 0} (f : A → B) (items : List A) (slot : ℕ) (made : B) → slice_get (map f items) slot ≡ Some made → (item : A) × (slice_get items slot ≡ Some item) × (f item ≡ made)
mapped f [] slot made is = absurd (none-some made is)
mapped f (first ∷ items) zero made is = (first, refl, same_Some (f first) made is)
mapped f (first ∷ items) (suc slot) made is = mapped f items slot made is

-- ---- two lists side by side

module _ {A B : Type 0} (R : A → B → Type 0) where
  -- they are equally long
  pub zip-length : (xs : List A) (ys : List B) → AllZip R xs ys → length xs ≡ length ys
  zip-length xs ys all = sym (AllZip-long R xs ys all)

  -- the items in one slot are related
  pub zip-at : (xs : List A) (ys : List B) → AllZip R xs ys → (slot : ℕ) (x : A) (y : B) → slice_get xs slot ≡ Some x → slice_get ys slot ≡ Some y → R x y
  zip-at [] ys all slot x y here there = absurd (none-some x here)
  zip-at (a ∷ xs) [] all slot x y here there = absurd (none-some y there)
  zip-at (a ∷ xs) (b ∷ ys) all zero x y here there = subst (λ (one : A). R one y) (same_Some a x here) (subst (R a) (same_Some b y there) all.0)
  zip-at (a ∷ xs) (b ∷ ys) all (suc slot) x y here there = zip-at xs ys all.1 slot x y here there

  -- and so are those of one number
  pub zip-numbered : (xs : List A) (ys : List B) → AllZip R xs ys → (number : ℕ) (x : A) (y : B) → numbered xs number ≡ Some x → numbered ys number ≡ Some y → R x y
  zip-numbered xs ys all zero x y here there = absurd (none-some x here)
  zip-numbered xs ys all (suc slot) x y here there = zip-at xs ys all slot x y here there

  -- they are beside each other where all in one slot are related
  pub zip-from : (xs : List A) (ys : List B) → length xs ≡ length ys → ((slot : ℕ) (x : A) (y : B) → slice_get xs slot ≡ Some x → slice_get ys slot ≡ Some y → R x y) → AllZip R xs ys
  zip-from [] [] same each = tt
  zip-from [] (y ∷ ys) same each = absurd (omega (arith, same))
  zip-from (x ∷ xs) [] same each = absurd (omega (arith, same))
  zip-from (x ∷ xs) (y ∷ ys) same each = (each zero x y refl refl, zip-from xs ys (omega (arith, same)) (λ slot a b here there. each (suc slot) a b here there))

  -- others may stand behind them
  pub zip-behind : (xs : List A) (ys : List B) (more : List A) (others : List B) → AllZip R xs ys → AllZip R more others → AllZip R (xs ++ more) (ys ++ others)
  zip-behind [] [] more others all behind = behind
  zip-behind [] (y ∷ ys) more others all behind = absurd all
  zip-behind (x ∷ xs) [] more others all behind = absurd all
  zip-behind (x ∷ xs) (y ∷ ys) more others all behind = (all.0, zip-behind xs ys more others all.1 behind)

  -- and another item in the place of one
  pub zip-put : (xs : List A) (ys : List B) → AllZip R xs ys → (slot : ℕ) (x : A) (y : B) → slice_get ys slot ≡ Some y → R x y → AllZip R (set xs slot x) ys
  zip-put [] [] all slot x y there holds = tt
  zip-put [] (b ∷ ys) all slot x y there holds = absurd all
  zip-put (a ∷ xs) [] all slot x y there holds = absurd all
  zip-put (a ∷ xs) (b ∷ ys) all zero x y there holds = (subst (R x) (sym (same_Some b y there)) holds, all.1)
  zip-put (a ∷ xs) (b ∷ ys) all (suc slot) x y there holds = (all.0, zip-put xs ys all.1 slot x y there holds)
