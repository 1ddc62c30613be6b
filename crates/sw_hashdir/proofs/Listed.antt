-- Elements kept of names in their order, and lists in order in which each element stands once.
use Rattle.std.proofs.Common.{◌≡◌, ◌≢◌, ◌⊎◌, inl, inr, ℕ, ◌+◌, ◌<◌, ◌≤◌, false, List, [], ◌∷◌, ◌++◌, Contains, length, get_or, take, Bor, refl, sym, ap, subst, ◌∙◌, arith}
use denote.Param.Members.{Mut}
use Rattle.std.specs.Cmp.{IsTotalOrder}
use Rattle.std.specs.Fn.{Called, ComputesKey}
use Rattle.std.specs.List.{AllPairs, swap}
use Rattle.std.specs.List.Sorted.{IsPermutation, IsSortedBy, IsSortedByKey}
use Rattle.std.specs.Ordering.{is_lt, ordering_reverse}
use Rattle.std.specs.declared.cmp.Ordering.{Ordering}
use Rattle.std.specs.declared.cmp.Ordering.TheVariants.{Less, Equal, Greater}
use Rattle.std.proofs.lemmas.Bool.{cases_eq, cases_order}
use Rattle.std.proofs.lemmas.Fn.{always_returns_same}
use Rattle.std.proofs.lemmas.List.{get_or-take, get_or_default, length-take, take_all, take_more}
use Rattle.std.proofs.lemmas.List.Edits.{Swapped, length-swap, swapped_from_swap}
use Rattle.std.proofs.lemmas.List.Elements.{Contains-append_left, Contains-get_or, Contains-push, Contains-push_cases}
use Rattle.std.proofs.lemmas.List.Quantifiers.{all_pairs_push}
use Rattle.std.proofs.lemmas.List.Sorted.{IsPermutation-keeps, ranks_by, sorted_far}
use Rattle.sw_hashpath.specs.declared.file_name.FileName.{FileName}
use Rattle.sw_hashdir.specs.Order.{Ascend, name_cmp}

-- ---- what is kept

-- each element with P whose name is among those seen, once, in the order of their names
pub record AreKept {Y : Type 0} (name_of : Y → FileName) (P : Y → Type 0) (seen : List FileName) (kept : List Y) : Type 0 where
  pub found : (y : Y) → Contains kept y → P y × Contains seen (name_of y)
  pub all : (y : Y) → P y → Contains seen (name_of y) → Contains kept y
  pub ascend : AllPairs (λ a b. name_cmp (name_of a) (name_of b) ≡ Less) kept

-- the next name gives an element
pub kept_more : {Y : Type 0} (name_of : Y → FileName) (P : Y → Type 0) → ((a b : Y) → name_of a ≡ name_of b → a ≡ b) → (seen : List FileName) (kept : List Y) (x : FileName) (y : Y) → ((name : FileName) → Contains seen name → name_cmp name x ≡ Less) → AreKept name_of P seen kept → P y → name_of y ≡ x → AreKept name_of P (seen ++ x ∷ []) (kept ++ y ∷ [])
kept_more name_of P one seen kept x y last so_far is named = record {
  found = λ other has. elim (Contains-push_cases kept y other has) [
    | inl before ↦ let both = so_far.found other before in (both.0, Contains-append_left seen (x ∷ []) (name_of other) both.1)
    | inr same ↦ (subst P same is, subst (Contains (seen ++ x ∷ [])) (sym named ∙ ap name_of same) (Contains-push seen x))
  ];
  all = λ other holds has. elim (Contains-push_cases seen x (name_of other) has) [
    | inl before ↦ Contains-append_left kept (y ∷ []) other (so_far.all other holds before)
    | inr same ↦ subst (Contains (kept ++ y ∷ [])) (one y other (named ∙ same)) (Contains-push kept y)
  ];
  ascend = all_pairs_push (λ a b. name_cmp (name_of a) (name_of b) ≡ Less) kept y so_far.ascend (λ k d within.
      subst (λ name. name_cmp (name_of (get_or kept k d)) name ≡ Less) (sym named) (last (name_of (get_or kept k d)) (so_far.found (get_or kept k d) (Contains-get_or kept k d within)).1));
}

-- the next name gives none
pub kept_same : {Y : Type 0} (name_of : Y → FileName) (P : Y → Type 0) (seen : List FileName) (kept : List Y) (x : FileName) → ((y : Y) → P y → name_of y ≡ x → ⊥) → AreKept name_of P seen kept → AreKept name_of P (seen ++ x ∷ []) kept
kept_same name_of P seen kept x none so_far = record {
  found = λ other has. let both = so_far.found other has in (both.0, Contains-append_left seen (x ∷ []) (name_of other) both.1);
  all = λ other holds has. elim (Contains-push_cases seen x (name_of other) has) [
    | inl before ↦ so_far.all other holds before
    | inr same ↦ absurd (none other holds (sym same))
  ];
  ascend = so_far.ascend;
}

-- of names in their order, one stands after each before its place
is_last : (xs : List FileName) (n : ℕ) (x : FileName) → Ascend xs → n < length xs → x ≡ get_or xs n x → (name : FileName) → Contains (take n xs) name → name_cmp name x ≡ Less
is_last xs n x up within is name has =
    let below : has.0 < n = omega (arith, has.1, length-take n xs) in
    let first : get_or xs has.0 name ≡ name = sym (get_or-take n xs has.0 name below) ∙ has.2 in
    let second : get_or xs n name ≡ x = get_or_default xs n name x within ∙ sym is in
    subst (λ a. name_cmp a x ≡ Less) first (subst (λ b. name_cmp (get_or xs has.0 name) b ≡ Less) second (up has.0 n name below within))

next_seen : (xs : List FileName) (n : ℕ) (x : FileName) → n < length xs → x ≡ get_or xs n x → take (n + 1) xs ≡ take n xs ++ x ∷ []
next_seen xs n x within is = take_more xs n x within ∙ ap (λ y. take n xs ++ y ∷ []) (sym is)

-- a step of a loop that keeps an element
pub kept_here : {Y : Type 0} (name_of : Y → FileName) (P : Y → Type 0) → ((a b : Y) → name_of a ≡ name_of b → a ≡ b) → (xs : List FileName) (n : ℕ) (kept after : List Y) (x : FileName) (y : Y) → Ascend xs → n < length xs → x ≡ get_or xs n x → AreKept name_of P (take n xs) kept → P y → name_of y ≡ x → after ≡ kept ++ y ∷ [] → AreKept name_of P (take (n + 1) xs) after
kept_here name_of P one xs n kept after x y up within is so_far holds named pushed =
    subst (AreKept name_of P (take (n + 1) xs)) (sym pushed) (subst (λ seen. AreKept name_of P seen (kept ++ y ∷ [])) (sym (next_seen xs n x within is))
    (kept_more name_of P one (take n xs) kept x y (is_last xs n x up within is) so_far holds named))

-- a step of a loop that keeps none
pub kept_past : {Y : Type 0} (name_of : Y → FileName) (P : Y → Type 0) (xs : List FileName) (n : ℕ) (kept : List Y) (x : FileName) → n < length xs → x ≡ get_or xs n x → ((y : Y) → P y → name_of y ≡ x → ⊥) → AreKept name_of P (take n xs) kept → AreKept name_of P (take (n + 1) xs) kept
kept_past name_of P xs n kept x within is none so_far =
    subst (λ seen. AreKept name_of P seen kept) (sym (next_seen xs n x within is)) (kept_same name_of P (take n xs) kept x none so_far)

-- and its end
pub kept_whole : {Y : Type 0} (name_of : Y → FileName) (P : Y → Type 0) (xs : List FileName) (n : ℕ) (kept : List Y) → length xs ≤ n → AreKept name_of P (take n xs) kept → AreKept name_of P xs kept
kept_whole name_of P xs n kept past so_far = subst (λ seen. AreKept name_of P seen kept) (take_all n xs past) so_far

-- ---- order

-- different elements are at different places
apart : {X : Type 0} (xs : List X) (i j : ℕ) (d : X) → AllPairs (λ a b. a ≢ b) xs → i < length xs → j < length xs → i ≢ j → get_or xs i d ≢ get_or xs j d
apart xs i j d different first second differ same = elim (cases_order i j) [
  | inl equal ↦ differ equal
  | inr (inl below) ↦ different i j d below second same
  | inr (inr above) ↦ different j i d above first (sym same)
]

-- where an element stood before an exchange
record Source {X : Type 0} (xs ys : List X) (i j k : ℕ) (d : X) : Type 0 where
  from : ℕ
  within : from < length xs
  is : get_or ys k d ≡ get_or xs from d
  place : ((k ≡ i) × (from ≡ j)) ⊎ (((k ≡ j) × (from ≡ i)) ⊎ ((k ≢ i) × (k ≢ j) × (from ≡ k)))

source : {X : Type 0} (xs ys : List X) (i j k : ℕ) (d : X) → Swapped (λ m. get_or xs m d) (λ m. get_or ys m d) i j → i < length xs → j < length xs → k < length xs → Source xs ys i j k d
source xs ys i j k d moved first second within = elim (cases_eq k i) [
  | inl at_first ↦ record { from = j; within = second; is = ap (λ m. get_or ys m d) at_first ∙ moved.0; place = inl (at_first, refl) }
  | inr off_first ↦ elim (cases_eq k j) [
    | inl at_second ↦ record { from = i; within = first; is = ap (λ m. get_or ys m d) at_second ∙ moved.1; place = inr (inl (at_second, refl)) }
    | inr off_second ↦ record { from = k; within = within; is = moved.2 k off_first off_second; place = inr (inr (off_first, off_second, refl)) }
  ]
]

sources_differ : {X : Type 0} (xs ys : List X) (i j p q : ℕ) (d : X) (a : Source xs ys i j p d) (b : Source xs ys i j q d) → p < q → a.from ≢ b.from
sources_differ xs ys i j p q d a b lt same =
    let left = a.place in
    let right = b.place in
    absurd (omega arith)

swap_distinct : {X : Type 0} (xs : List X) (i j : ℕ) → i < length xs → j < length xs → AllPairs (λ a b. a ≢ b) xs → AllPairs (λ a b. a ≢ b) (swap xs i j)
swap_distinct xs i j first second different p q d lt within same =
    let short : q < length xs = subst (λ n. q < n) (length-swap xs i j) within in
    let moved = swapped_from_swap xs (swap xs i j) i j d first second refl in
    let a = source xs (swap xs i j) i j p d moved first second (omega arith) in
    let b = source xs (swap xs i j) i j q d moved first second short in
    apart xs a.from b.from d different a.within b.within (sources_differ xs (swap xs i j) i j p q d a b lt) (sym a.is ∙ same ∙ b.is)

pub distinct_permuted : {X : Type 0} (xs ys : List X) → IsPermutation xs ys → AllPairs (λ a b. a ≢ b) xs → AllPairs (λ a b. a ≢ b) ys
distinct_permuted xs ys moved different = IsPermutation-keeps xs (AllPairs (λ a b. a ≢ b)) different swap_distinct ys moved

less_from : (o p : Ordering) → o ≡ ordering_reverse p → is_lt p ≡ false → (o ≡ Equal → ⊥) → o ≡ Less
less_from Less p same up differ = refl
less_from Equal p same up differ = absurd (differ refl)
less_from Greater Less same up differ = absurd (cc)
less_from Greater Equal same up differ = absurd (cc)
less_from Greater Greater same up differ = absurd (cc)

-- a list in order in which only equal elements tie, each once, ascends
pub strictly : {X : Type 0} {R : X → X → Ordering} → IsTotalOrder R → (xs : List X) → IsSortedBy (λ a b. is_lt (R a b)) xs → AllPairs (λ a b. a ≢ b) xs → ((a b : X) → Contains xs a → Contains xs b → R a b ≡ Equal → a ≡ b) → AllPairs (λ a b. R a b ≡ Less) xs
strictly {R = R} order xs up different ties i j d lt within =
    let first : i < length xs = omega arith in
    let a = get_or xs i d in
    let b = get_or xs j d in
    less_from (R a b) (R b a) (order.antisymm a b) (sorted_far (λ a b. is_lt (R a b)) (ranks_by order (λ x. x)) xs up i j d (omega arith) within)
    (λ tie. different i j d lt within (ties a b (Contains-get_or xs i d first) (Contains-get_or xs j d within) tie))

-- what a sort by a key gives
pub sorted_by_key : {X K F : Type 0} (key : X → K) (R : K → K → Ordering) {g : Mut F (Bor X × Unit {0}) K} {f : F} (xs : List X) → ((k : X → K) → ComputesKey g k f → IsSortedByKey k R xs) → ((a : Bor X × Unit {0}) (r : K) (f' : F) → Called g f a r f' → (r ≡ key a.0.now) × (f' ≡ f)) → IsSortedBy (λ a b. is_lt (R (key a) (key b))) xs
sorted_by_key key R {g = g} {f = f} xs up calls = up key (always_returns_same g (λ a r. r ≡ key a.0.now) f calls)
