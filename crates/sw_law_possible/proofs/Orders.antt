-- Items in order: of each list there is one with the same items, each of them before the later ones.
use Rattle.std.proofs.Common.{◌≡◌, ◌⊎◌, ◌↔◌, inl, inr, ⊎_elim, ℕ, ◌<◌, AllPairs, Contains, List, [], ◌∷◌, Less, nat_cmp, refl, sym, ap, subst, ◌∙◌, arith}
use Rattle.std.specs.Cmp.Lexicographic.{slice_cmp}
use Rattle.std.specs.Ordering.{ordering_reverse}
use Rattle.std.specs.declared.cmp.Ordering.{Ordering}
use Rattle.std.specs.declared.cmp.Ordering.TheVariants.{Equal, Greater}
use Rattle.std.proofs.lemmas.Bool.{cases_eq, cases_lt}
use Rattle.std.proofs.lemmas.Cmp.{nat_list_cmp_total}
use Rattle.std.proofs.lemmas.List.Elements.{All-contains_itself, All-weaker}
use Rattle.std.proofs.lemmas.List.Kept.{AllPairs-cons}
use Rattle.std.proofs.lemmas.Map.Lookups.{exact_bytes}
use Rattle.sw_diskfile.proofs.Lists.{Contains-cases, Contains-first, Contains-later, Contains-none, IsBefore, first_before, rest_ascend}

-- of two items one is before the other, or they are the same
abbrev pub InOrder : {X : Type 0} → (X → X → Type 0) → X → X → Type 0
InOrder Before a b = (a ≡ b) ⊎ (Before a b ⊎ Before b a)

-- ---- numbers and texts

pub number_order : (a b : ℕ) → InOrder (λ x y. x < y) a b
number_order a b = ⊎_elim (λ same. inl same) (λ differ. inr (⊎_elim (λ less. inl less) (λ upto. inr (omega (arith, upto, differ))) (cases_lt a b))) (cases_eq a b)

text_by : (a b : List ℕ) (r : Ordering) → slice_cmp nat_cmp a b ≡ r → InOrder IsBefore a b
text_by a b Less is = inr (inl is)
text_by a b Equal is = inl (exact_bytes a b is)
text_by a b Greater is = inr (inr (nat_list_cmp_total.antisymm b a ∙ ap ordering_reverse is))

pub text_order : (a b : List ℕ) → InOrder IsBefore a b
text_order a b = text_by a b (slice_cmp nat_cmp a b) refl

-- ---- lists

module _ {X : Type 0} (Before : X → X → Type 0) where
  -- the same items, each before the later ones
  pub record IsAscending (items sorted : List X) : Type 0 where
    pub same : (x : X) → Contains sorted x ↔ Contains items x
    pub ascend : AllPairs Before sorted

  -- an item before all others
  lead : (x : X) (ys : List X) → ((y : X) → Contains ys y → Before x y) → AllPairs Before ys → AllPairs Before (x ∷ ys)
  lead x ys before ascend = AllPairs-cons Before x ys (All-weaker (Contains ys) (Before x) before ys (All-contains_itself ys)) ascend

  abbrev HasAscending : List X → Type 0
  HasAscending items = (sorted : List X) × IsAscending items sorted

  -- one item more: it is the first of these, or stands before it, or behind
  same_first : (x y : X) (ys : List X) → x ≡ y → AllPairs Before (y ∷ ys) → HasAscending (x ∷ y ∷ ys)
  same_first x y ys same ascend = (
    y ∷ ys,
    record {
      same = λ z. (
        λ has. Contains-later x (y ∷ ys) z has,
        λ has. ⊎_elim (λ here. subst (Contains (y ∷ ys)) (sym same ∙ here) (Contains-first y ys)) (λ later. later) (Contains-cases x (y ∷ ys) z has),
      );
      ascend = ascend;
    },
  )

  swapped : (x y : X) (ys zs : List X) → ((z : X) → Contains zs z ↔ Contains (x ∷ ys) z) → (z : X) → Contains (y ∷ zs) z ↔ Contains (x ∷ y ∷ ys) z
  swapped x y ys zs are z = (
    λ has. ⊎_elim
        (λ here. Contains-later x (y ∷ ys) z (subst (Contains (y ∷ ys)) here (Contains-first y ys)))
        (λ later. ⊎_elim
        (λ first. subst (Contains (x ∷ y ∷ ys)) first (Contains-first x (y ∷ ys)))
        (λ old. Contains-later x (y ∷ ys) z (Contains-later y ys z old))
        (Contains-cases x ys z ((are z).0 later)))
        (Contains-cases y zs z has),
    λ has. ⊎_elim
        (λ first. Contains-later y zs z ((are z).1 (subst (Contains (x ∷ ys)) first (Contains-first x ys))))
        (λ later. ⊎_elim
        (λ here. subst (Contains (y ∷ zs)) here (Contains-first y zs))
        (λ old. Contains-later y zs z ((are z).1 (Contains-later x ys z old)))
        (Contains-cases y ys z later))
        (Contains-cases x (y ∷ ys) z has),
  )

  module _ (Of : X → Type 0) (order : (a b : X) → Of a → Of b → InOrder Before a b) (trans : (a b c : X) → Before a b → Before b c → Before a c) where
    put_by : (x y : X) (ys : List X) → InOrder Before x y → AllPairs Before (y ∷ ys) → HasAscending (x ∷ ys) → HasAscending (x ∷ y ∷ ys)
    put_by x y ys (inl same) ascend rest = same_first x y ys same ascend
    put_by x y ys (inr (inl before)) ascend rest = (
      x ∷ y ∷ ys,
      record {
        same = λ z. (λ has. has, λ has. has);
        ascend = lead x (y ∷ ys) (λ z has. ⊎_elim (λ here. subst (Before x) here before) (λ later. trans x y z before (first_before Before y ys ascend z later)) (Contains-cases y ys z has)) ascend;
      },
    )
    put_by x y ys (inr (inr after)) ascend rest = (
      y ∷ rest.0,
      record {
        same = swapped x y ys rest.0 rest.1.same;
        ascend = lead y rest.0
            (λ z has. ⊎_elim (λ first. subst (Before y) first after) (λ old. first_before Before y ys ascend z old) (Contains-cases x ys z ((rest.1.same z).0 has))) rest.1.ascend;
      },
    )

    put_in : (x : X) → Of x → (ys : List X) → ((y : X) → Contains ys y → Of y) → AllPairs Before ys → HasAscending (x ∷ ys)
    put_in x of [] are ascend = (x ∷ [], record { same = λ z. (λ has. has, λ has. has); ascend = lead x [] (λ y none. absurd (Contains-none y none)) ascend })
    put_in x of (y ∷ ys) are ascend =
        put_by x y ys (order x y of (are y (Contains-first y ys))) ascend (put_in x of ys (λ z has. are z (Contains-later y ys z has)) (rest_ascend Before y ys ascend))

    more : (x : X) (xs ys zs : List X) → ((z : X) → Contains ys z ↔ Contains xs z) → ((z : X) → Contains zs z ↔ Contains (x ∷ ys) z) → (z : X) → Contains zs z ↔ Contains (x ∷ xs) z
    more x xs ys zs old are z = (
      λ has. ⊎_elim
          (λ first. subst (Contains (x ∷ xs)) first (Contains-first x xs))
          (λ later. Contains-later x xs z ((old z).0 later))
          (Contains-cases x ys z ((are z).0 has)),
      λ has. ⊎_elim
          (λ first. (are z).1 (subst (Contains (x ∷ ys)) first (Contains-first x ys)))
          (λ later. (are z).1 (Contains-later x ys z ((old z).1 later)))
          (Contains-cases x xs z has),
    )

    -- the items of each list in order
    pub ascending : (xs : List X) → ((x : X) → Contains xs x → Of x) → HasAscending xs
    ascending [] are = ([], record { same = λ z. (λ has. has, λ has. has); ascend = λ i j d less within. absurd (omega (arith, within)) })
    ascending (x ∷ xs) are =
        let rest = ascending xs (λ y has. are y (Contains-later x xs y has)) in
        let put = put_in x (are x (Contains-first x xs)) rest.0 (λ y has. are y (Contains-later x xs y ((rest.1.same y).0 has))) rest.1.ascend in
        (put.0, record { same = more x xs rest.0 put.0 rest.1.same put.1.same; ascend = put.1.ascend })

-- ---- numbers and texts in order

pub ascending_numbers : (numbers : List ℕ) → (sorted : List ℕ) × IsAscending (λ a b. a < b) numbers sorted
ascending_numbers numbers = ascending (λ a b. a < b) (λ x. x ≡ x) (λ a b first second. number_order a b) (λ a b c first second. omega (arith, first, second)) numbers (λ x has. refl)

pub ascending_texts : (texts : List (List ℕ)) → (sorted : List (List ℕ)) × IsAscending IsBefore texts sorted
ascending_texts texts = ascending IsBefore (λ x. x ≡ x) (λ a b first second. text_order a b) nat_list_cmp_total.trans texts (λ x has. refl)
