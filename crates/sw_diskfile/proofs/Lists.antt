-- Elements of lists that are kept or mapped, and lists that ascend.
use Rattle.std.proofs.Common.{◌≡◌, ◌⊎◌, inl, inr, ⊎_elim, ◌↔◌, ℕ, zero, suc, Bool, true, false, cond, AllPairs, Contains, List, [], ◌∷◌, map, filter, Less, nat_cmp, refl, sym, ap, subst, ◌∙◌, arith}
use Rattle.std.specs.Cmp.Lexicographic.{slice_cmp}
use Rattle.std.specs.Cmp.{tied_itself}
use Rattle.std.proofs.lemmas.Cmp.{nat_list_cmp_total}
use Rattle.std.proofs.lemmas.List.Elements.{All-contains, All-contains_itself, All-filter, Contains-append_cases, Contains-append_right, Contains-push_cases, filter_passes}

module _ {X : Type 0} where
  pub Contains-none : (x : X) → Contains [] x → ⊥
  Contains-none x has = absurd (omega (arith, has.1))

  pub Contains-first : (x : X) (xs : List X) → Contains (x ∷ xs) x
  Contains-first x xs = (zero, omega arith, refl)

  pub Contains-later : (x : X) (xs : List X) (y : X) → Contains xs y → Contains (x ∷ xs) y
  Contains-later x xs y has = Contains-append_right (x ∷ []) xs y has

  pub Contains-cases : (x : X) (xs : List X) (y : X) → Contains (x ∷ xs) y → (x ≡ y) ⊎ Contains xs y
  Contains-cases x xs y has = ⊎_elim (λ first. inl (only first)) (λ later. inr later) (Contains-append_cases (x ∷ []) xs y has)
    where
      only : Contains (x ∷ []) y → x ≡ y
      only first = ⊎_elim (λ none. absurd (Contains-none y none)) (λ here. here) (Contains-push_cases [] x y first)

-- ---- what a test keeps

module _ {X : Type 0} (test : X → Bool) where
  pub kept : (xs : List X) (x : X) → Contains (filter test xs) x → Contains xs x × (test x ≡ true)
  kept xs x has = (
    All-contains (Contains xs) (filter test xs) x (All-filter test (Contains xs) xs (All-contains_itself xs)) has,
    All-contains (λ y. test y ≡ true) (filter test xs) x (filter_passes test xs) has,
  )

  either_way : (b : Bool) (x : X) (xs : List X) (y : X) → Contains xs y → Contains (cond b (x ∷ xs) xs) y
  either_way true x xs y has = Contains-later x xs y has
  either_way false x xs y has = has

  pub keeps : (xs : List X) (x : X) → Contains xs x → test x ≡ true → Contains (filter test xs) x
  keeps [] x has passes = absurd (Contains-none x has)
  keeps (y ∷ ys) x has passes = ⊎_elim
      (λ here. subst (λ b. Contains (cond b (y ∷ filter test ys) (filter test ys)) x) (sym (ap test here ∙ passes)) (subst (Contains (y ∷ filter test ys)) here (Contains-first y (filter test ys))))
      (λ later. either_way (test y) y (filter test ys) x (keeps ys x later passes))
      (Contains-cases y ys x has)

-- ---- what a function makes of elements

module _ {X Y : Type 0} (f : X → Y) where
  pub Contains-map : (xs : List X) (x : X) → Contains xs x → Contains (map f xs) (f x)
  Contains-map [] x has = absurd (Contains-none x has)
  Contains-map (y ∷ ys) x has = ⊎_elim
      (λ here. subst (Contains (f y ∷ map f ys)) (ap f here) (Contains-first (f y) (map f ys)))
      (λ later. Contains-later (f y) (map f ys) (f x) (Contains-map ys x later))
      (Contains-cases y ys x has)

  pub mapped : (xs : List X) (y : Y) → Contains (map f xs) y → (x : X) × Contains xs x × (f x ≡ y)
  mapped [] y has = absurd (Contains-none y has)
  mapped (x ∷ xs) y has = ⊎_elim
      (λ here. (x, Contains-first x xs, here))
      (λ later. let from = mapped xs y later in (from.0, Contains-later x xs from.0 from.1, from.2))
      (Contains-cases (f x) (map f xs) y has)

-- ---- lists that ascend

module _ {X : Type 0} (R : X → X → Type 0) (x : X) (xs : List X) (ascend : AllPairs R (x ∷ xs)) where
  pub first_before : (y : X) → Contains xs y → R x y
  first_before y has = subst (R x) has.2 (ascend zero (suc has.0) y (omega arith) (omega (arith, has.1)))

  pub rest_ascend : AllPairs R xs
  rest_ascend = λ i j d lt within. ascend (suc i) (suc j) d (omega arith) (omega arith)

-- by an order in which nothing is before itself
module _ {X : Type 0} (R : X → X → Type 0) (never : (x : X) → R x x → ⊥) where
  pub first_once : (x : X) (xs : List X) → AllPairs R (x ∷ xs) → Contains xs x → ⊥
  first_once x xs ascend again = never x (first_before R x xs ascend x again)

  module _ (trans : (a b c : X) → R a b → R b c → R a c) where
    one_first : (x y : X) (xs ys : List X) → AllPairs R (x ∷ xs) → AllPairs R (y ∷ ys) → Contains (y ∷ ys) x → Contains (x ∷ xs) y → x ≡ y
    one_first x y xs ys first second there back = ⊎_elim
        (λ here. sym here)
        (λ later. ⊎_elim
        (λ here. here)
        (λ also. absurd (never x (trans x y x (first_before R x xs first y also) (first_before R y ys second x later))))
        (Contains-cases x xs y back))
        (Contains-cases y ys x there)

    still_later : (x y : X) (xs ys : List X) → x ≡ y → AllPairs R (x ∷ xs) → (z : X) → (Contains (x ∷ xs) z → Contains (y ∷ ys) z) → Contains xs z → Contains ys z
    still_later x y xs ys same ascend z there has = ⊎_elim
        (λ here. absurd (first_once x xs ascend (subst (Contains xs) (sym (same ∙ here)) has)))
        (λ later. later)
        (Contains-cases y ys z (there (Contains-later x xs z has)))

    -- two of the same members are the same
    pub same_ascending : (a b : List X) → AllPairs R a → AllPairs R b → ((x : X) → Contains a x ↔ Contains b x) → a ≡ b
    same_ascending [] [] first second both = refl
    same_ascending [] (y ∷ ys) first second both = absurd (Contains-none y ((both y).1 (Contains-first y ys)))
    same_ascending (x ∷ xs) [] first second both = absurd (Contains-none x ((both x).0 (Contains-first x xs)))
    same_ascending (x ∷ xs) (y ∷ ys) first second both =
        let same = one_first x y xs ys first second ((both x).0 (Contains-first x xs)) ((both y).1 (Contains-first y ys)) in
        let rest = same_ascending xs ys (rest_ascend R x xs first) (rest_ascend R y ys second)
        (λ z. (still_later x y xs ys same first z (both z).0, still_later y x ys xs (sym same) second z (both z).1)) in
        ap (λ z. z ∷ xs) same ∙ ap (λ zs. y ∷ zs) rest

-- texts, each before the later ones
abbrev pub IsBefore : List ℕ → List ℕ → Type 0
IsBefore a b = slice_cmp nat_cmp a b ≡ Less

pub IsBefore-never : (text : List ℕ) → IsBefore text text → ⊥
IsBefore-never text less = let tied = tied_itself nat_list_cmp_total text in absurd (cc)

pub one_ascending : (a b : List (List ℕ)) → AllPairs IsBefore a → AllPairs IsBefore b → ((text : List ℕ) → Contains a text ↔ Contains b text) → a ≡ b
one_ascending = same_ascending IsBefore IsBefore-never nat_list_cmp_total.trans
