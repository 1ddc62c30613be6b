-- The place of a name among names in order: it stands behind those before it, and among those up to it.
use Rattle.std.proofs.Common.{◌≡◌, ◌⊎◌, ⊎_elim, ℕ, zero, suc, ◌+◌, ◌<◌, ◌≤◌, Bool, true, false, cond, not, List, [], ◌∷◌, length, map, get_or, count_by, slice_get, Ordering, Less, Equal, Greater, Some, None, refl, sym, ap, subst, ◌∙◌, arith}
use Rattle.std.specs.List.{Contains}
use Rattle.std.specs.List.Sorted.{IsPermutation, IsSortedBy}
use Rattle.std.specs.Cmp.{IsStrictWeakOrder}
use Rattle.std.specs.Cmp.Lexicographic.{slice_cmp}
use Rattle.std.specs.Ordering.{is_eq, is_le, is_lt, nat_cmp, ordering_reverse}
use Rattle.std.proofs.lemmas.Cmp.{nat_list_cmp_total}
use Rattle.std.proofs.lemmas.List.Elements.{Contains-get_or}
use Rattle.std.proofs.lemmas.List.Sorted.{Contains-permutation, IsPermutation-sym, ranks_by, sorted_far, sum_by-IsPermutation}
use Rattle.std.proofs.lemmas.List.Sums.{count_by-le-length, sum_by-cons}
use Rattle.std.proofs.lemmas.Map.Text.{is_eq-slice_cmp}
use Rattle.std.proofs.lemmas.Option.{slice_get-get_or, slice_get_past}
use Rattle.std.proofs.lemmas.Slice.Eq.{bytes_eq-Decides}
use Rattle.sw_disk.specs.Answers.{IsListing}

-- ---- a test that those pass which stand first

module _ {X : Type 0} (t : X → Bool) where
  count_by-cons : (x : X) (xs : List X) → count_by t (x ∷ xs) ≡ cond (t x) 1 0 + count_by t xs
  count_by-cons x xs = sum_by-cons (λ y. cond (t y) 1 0) x xs

  -- where it fails, it fails from there on
  abbrev pub StaysFalse : List X → Type 0
  StaysFalse xs = (i j : ℕ) (d : X) → i ≤ j → j < length xs → t (get_or xs i d) ≡ false → t (get_or xs j d) ≡ false

  tail : (x : X) (xs : List X) → StaysFalse (x ∷ xs) → StaysFalse xs
  tail x xs stays i j d le lt e = stays (suc i) (suc j) d (omega arith) (omega arith) e

  one_more : (x : X) (xs : List X) → t x ≡ true → count_by t (x ∷ xs) ≡ 1 + count_by t xs
  one_more x xs e = count_by-cons x xs ∙ ap (λ (b : Bool). cond b 1 0 + count_by t xs) e

  no_more : (x : X) (xs : List X) → t x ≡ false → count_by t (x ∷ xs) ≡ count_by t xs
  no_more x xs e = let same : count_by t (x ∷ xs) ≡ 0 + count_by t xs = count_by-cons x xs ∙ ap (λ (b : Bool). cond b 1 0 + count_by t xs) e in omega arith

  none_pass : (xs : List X) → ((j : ℕ) (d : X) → j < length xs → t (get_or xs j d) ≡ false) → count_by t xs ≡ 0
  none_pass [] fail = refl
  none_pass (x ∷ xs) fail = no_more x xs (fail 0 x (omega arith)) ∙ none_pass xs (λ j d lt. fail (suc j) d (omega arith))

  passes-cons : (x : X) (xs : List X) (b : Bool) → t x ≡ b → StaysFalse (x ∷ xs) → ((p : ℕ) (d : X) → p < count_by t xs → t (get_or xs p d) ≡ true)
      → (p : ℕ) (d : X) → p < count_by t (x ∷ xs) → t (get_or (x ∷ xs) p d) ≡ true
  passes-cons x xs true e stays more zero d lt = e
  passes-cons x xs true e stays more (suc p) d lt = more p d (omega (arith, one_more x xs e))
  passes-cons x xs false e stays more p d lt = absurd (omega (arith, none_pass (x ∷ xs) (λ j d lt. stays 0 j d (omega arith) lt e)))

  pub passes : (xs : List X) → StaysFalse xs → (p : ℕ) (d : X) → p < count_by t xs → t (get_or xs p d) ≡ true
  passes [] stays p d lt = absurd (omega arith)
  passes (x ∷ xs) stays p d lt = passes-cons x xs (t x) refl stays (passes xs (tail x xs stays)) p d lt

  fails-cons : (x : X) (xs : List X) (b : Bool) → t x ≡ b → StaysFalse (x ∷ xs) → ((p : ℕ) (d : X) → p < length xs → count_by t xs ≤ p → t (get_or xs p d) ≡ false)
      → (p : ℕ) (d : X) → p < length (x ∷ xs) → count_by t (x ∷ xs) ≤ p → t (get_or (x ∷ xs) p d) ≡ false
  fails-cons x xs true e stays more zero d lt le = absurd (omega (arith, one_more x xs e))
  fails-cons x xs true e stays more (suc p) d lt le = more p d (omega arith) (omega (arith, one_more x xs e))
  fails-cons x xs false e stays more p d lt le = stays 0 p d (omega arith) lt e

  pub fails : (xs : List X) → StaysFalse xs → (p : ℕ) (d : X) → p < length xs → count_by t xs ≤ p → t (get_or xs p d) ≡ false
  fails [] stays p d lt le = absurd (omega arith)
  fails (x ∷ xs) stays p d lt le = fails-cons x xs (t x) refl stays (fails xs (tail x xs stays)) p d lt le

-- ---- counts of names

abbrev pub comes_before : List ℕ → List ℕ → Bool
comes_before a b = is_lt (slice_cmp nat_cmp a b)

abbrev pub comes_up_to : List ℕ → List ℕ → Bool
comes_up_to a b = is_le (slice_cmp nat_cmp a b)

-- as many come before a name as place it there, and more come up to it
pub record StandsAt (names : List (List ℕ)) (place : ℕ) (name : List ℕ) : Type 0 where
  pub from : count_by (λ other. comes_before other name) names ≤ place
  pub to : place < count_by (λ other. comes_up_to other name) names

pub count_by-map : {X Y : Type 0} (f : X → Y) (t : Y → Bool) (xs : List X) → count_by t (map f xs) ≡ count_by (λ x. t (f x)) xs
count_by-map f t [] = refl
count_by-map f t (x ∷ xs) = count_by-cons t (f x) (map f xs) ∙ ap (λ (n : ℕ). cond (t (f x)) 1 0 + n) (count_by-map f t xs) ∙ sym (count_by-cons (λ x. t (f x)) x xs)

permuted : {X : Type 0} (t : X → Bool) (xs ys : List X) → IsPermutation xs ys → count_by t ys ≡ count_by t xs
permuted t xs ys p = sum_by-IsPermutation (λ x. cond (t x) 1 0) xs ys p

-- ---- names in order

in_order : IsStrictWeakOrder comes_before
in_order = ranks_by nat_list_cmp_total (λ (x : List ℕ). x)

not_before : (o : Ordering) → is_le (ordering_reverse o) ≡ not (is_lt o)
not_before Less = refl
not_before Equal = refl
not_before Greater = refl

up_to_is : (a b : List ℕ) → comes_up_to a b ≡ not (comes_before b a)
up_to_is a b = ap is_le (nat_list_cmp_total.antisymm a b) ∙ not_before (slice_cmp nat_cmp b a)

equal_from : (o : Ordering) → is_lt o ≡ false → is_le o ≡ true → is_eq o ≡ true
equal_from Less e f = absurd (cc)
equal_from Equal e f = refl
equal_from Greater e f = absurd (cc)

same_from : (a b : List ℕ) → comes_before a b ≡ false → comes_up_to a b ≡ true → a ≡ b
same_from a b e f = (bytes_eq-Decides a b).0 (sym (is_eq-slice_cmp a b) ∙ equal_from (slice_cmp nat_cmp a b) e f)

module _ (listing : List (List ℕ)) (up : IsSortedBy comes_before listing) (name : List ℕ) where
  before_stays : StaysFalse (λ other. comes_before other name) listing
  before_stays i j d le lt e = in_order.chain (get_or listing j d) (get_or listing i d) name (sorted_far comes_before in_order listing up i j d le lt) e

  after : (a b : List ℕ) → comes_before b a ≡ false → not (comes_before name a) ≡ false → (r : Bool) → comes_before name b ≡ r → not r ≡ false
  after a b far e true f = refl
  after a b far e false f = sym (ap not (in_order.chain name b a f far)) ∙ e

  up_to_stays : StaysFalse (λ other. comes_up_to other name) listing
  up_to_stays i j d le lt e =
      up_to_is (get_or listing j d) name
      ∙ after (get_or listing i d) (get_or listing j d) (sorted_far comes_before in_order listing up i j d le lt) (sym (up_to_is (get_or listing i d) name) ∙ e) _ refl

  pub stands_there : (place : ℕ) → StandsAt listing place name → slice_get listing place ≡ Some name
  stands_there place at =
      let within : place < length listing = let l = count_by-le-length (λ (other : List ℕ). comes_up_to other name) listing in omega (arith, l, at.to) in
      let low = fails (λ (other : List ℕ). comes_before other name) listing before_stays place name within at.from in
      let high = passes (λ (other : List ℕ). comes_up_to other name) listing up_to_stays place name at.to in
      slice_get-get_or listing place name within ∙ ap Some (same_from (get_or listing place name) name low high)

irreflexive : (a : List ℕ) → comes_before a a ≡ false
irreflexive a = split (comes_before a a) refl
  where
    split : (b : Bool) → comes_before a a ≡ b → comes_before a a ≡ false
    split true e = in_order.one_way a a e
    split false e = e

module _ (listing : List (List ℕ)) (up : IsSortedBy comes_before listing) (place : ℕ) (within : place < length listing) where
  low : place < count_by (λ other. comes_before other (get_or listing place [])) listing → ⊥
  low more =
      let name = get_or listing place [] in
      let e : comes_before name name ≡ true = passes (λ (other : List ℕ). comes_before other name) listing (before_stays listing up name) place [] more in
      let f : comes_before name name ≡ false = irreflexive name in
      absurd (cc)

  high : count_by (λ other. comes_up_to other (get_or listing place [])) listing ≤ place → ⊥
  high fewer =
      let name = get_or listing place [] in
      let e : comes_up_to name name ≡ false = fails (λ (other : List ℕ). comes_up_to other name) listing (up_to_stays listing up name) place [] within fewer in
      let f : comes_up_to name name ≡ true = up_to_is name name ∙ ap not (irreflexive name) in
      absurd (cc)

  pub stands_of : StandsAt listing place (get_or listing place [])
  stands_of = record {
    from = let l = low in omega (arith, l);
    to = let h = high in omega (arith, h);
  }

-- ---- names in any order

module _ (names listing : List (List ℕ)) (is : IsListing names listing) (place : ℕ) where
  moved_to : (name : List ℕ) → StandsAt names place name → StandsAt listing place name
  moved_to name at = record {
    from = subst (λ (n : ℕ). n ≤ place) (sym (permuted (λ (other : List ℕ). comes_before other name) names listing is.permutation)) at.from;
    to = subst (λ (n : ℕ). place < n) (sym (permuted (λ (other : List ℕ). comes_up_to other name) names listing is.permutation)) at.to;
  }

  moved_back : (name : List ℕ) → StandsAt listing place name → StandsAt names place name
  moved_back name at = record {
    from = subst (λ (n : ℕ). n ≤ place) (permuted (λ (other : List ℕ). comes_before other name) names listing is.permutation) at.from;
    to = subst (λ (n : ℕ). place < n) (permuted (λ (other : List ℕ). comes_up_to other name) names listing is.permutation) at.to;
  }

  pub is_there : (name : List ℕ) → StandsAt names place name → slice_get listing place ≡ Some name
  is_there name at = stands_there listing is.sorted name place (moved_to name at)

  -- where no name stands at the place, it is past the last
  pub is_past : ((name : List ℕ) → Contains names name → StandsAt names place name → ⊥) → slice_get listing place ≡ None
  is_past none = ⊎_elim (λ within. absurd (none_within within)) (λ past. slice_get_past listing place past) (either place (length listing))
    where
      either : (a b : ℕ) → (a < b) ⊎ (b ≤ a)
      either a b = grind arith

      none_within : place < length listing → ⊥
      none_within within =
          let name = get_or listing place [] in
          none name (Contains-permutation listing names name (IsPermutation-sym names listing is.permutation) (Contains-get_or listing place [] within)) (moved_back name (stands_of listing is.sorted place within))
