-- Lists of choices, with one more element.
use Rattle.std.proofs.Common.{◌≡◌, ℕ, ◌+◌, ◌<◌, Bool, true, false, cond, not, List, [], ◌∷◌, ◌++◌, length, get_or, take, drop, map, filter, Option, Some, None, refl, sym, ap, ◌∙◌, inl, inr, add-one, arith}
use Rattle.std.specs.Prelude.{◌&&◌, ◌||◌, flat_map, find}
use Rattle.std.specs.List.{list_any}
use Rattle.std.specs.Option.{option_or}
use Rattle.std.proofs.Math.Seq.{drop-cons}
use Rattle.std.proofs.lemmas.Bool.{cases_Bool}
use Rattle.std.proofs.lemmas.Bool.Decides.{nat_tests}
use Rattle.std.proofs.lemmas.List.{append-nil, map-append, take-append-drop, take_more}
use Rattle.std.proofs.lemmas.List.Concat.{flat_map-append}
use Rattle.std.proofs.lemmas.List.Elements.{filter-append, filter_more}
use Rattle.std.proofs.lemmas.List.Folds.{find-append}
use Rattle.sw_hashdir.specs.Listing.{ListingModel}
use Rattle.sw_hashdir.specs.declared.entry.Entry.{Entry}
use Rattle.sw_hashdir.specs.declared.floor.Floor.{Floor}
use Rattle.sw_message.proofs.FloorLaws.{highest_from-append}
use Rattle.sw_message.specs.Floors.{floors_in, highest_from}
use Rattle.sw_message.specs.declared.target.Target.{Target}
use Rattle.sw_gather.specs.Choices.{entry_target, firsts, has_index, is_listed, listed_at}

-- ---- filters

pub filter_yes : {X : Type 0} (p : X → Bool) (xs : List X) (i : ℕ) (x d : X) → i < length xs → x ≡ get_or xs i d → p x ≡ true → filter p (take (i + 1) xs) ≡ filter p (take i xs) ++ x ∷ []
filter_yes p xs i x d within is passes =
    filter_more p xs i d within ∙ ap (λ y. filter p (take i xs) ++ cond (p y) (y ∷ []) []) (sym is) ∙ ap (λ b. filter p (take i xs) ++ cond b (x ∷ []) []) passes

pub filter_no : {X : Type 0} (p : X → Bool) (xs : List X) (i : ℕ) (x d : X) → i < length xs → x ≡ get_or xs i d → p x ≡ false → filter p (take (i + 1) xs) ≡ filter p (take i xs)
filter_no p xs i x d within is fails =
    filter_more p xs i d within ∙ ap (λ y. filter p (take i xs) ++ cond (p y) (y ∷ []) []) (sym is) ∙ ap (λ b. filter p (take i xs) ++ cond b (x ∷ []) []) fails
    ∙ append-nil (filter p (take i xs))

any_both : {X : Type 0} (a b : Bool) (p : X → Bool) (x : X) (kept : List X) (rest : Bool) → p x ≡ a → list_any p kept ≡ rest → list_any p (cond b (x ∷ kept) kept) ≡ ((a && b) || rest)
any_both true true p x kept rest is same = ap (λ a. a || list_any p kept) is
any_both false true p x kept rest is same = ap (λ a. a || list_any p kept) is ∙ same
any_both true false p x kept rest is same = same
any_both false false p x kept rest is same = same

pub any_filtered : {X : Type 0} (p q : X → Bool) (xs : List X) → list_any p (filter q xs) ≡ list_any (λ x. p x && q x) xs
any_filtered p q [] = refl
any_filtered p q (x ∷ xs) = any_both (p x) (q x) p x (filter q xs) (list_any (λ x. p x && q x) xs) refl (any_filtered p q xs)

-- ---- listings

pub listed_yes : (total stamp device : ℕ) (entries : List Entry) (i : ℕ) (entry : Entry) → i < length entries → entry ≡ get_or entries i entry → is_listed total stamp entry ≡ true
    → map (entry_target device) (filter (is_listed total stamp) (take (i + 1) entries)) ≡ map (entry_target device) (filter (is_listed total stamp) (take i entries)) ++ entry_target device entry ∷ []
listed_yes total stamp device entries i entry within is passes =
    ap (map (entry_target device)) (filter_yes (is_listed total stamp) entries i entry entry within is passes)
    ∙ map-append (entry_target device) (filter (is_listed total stamp) (take i entries)) (entry ∷ [])

one_more : {X A : Type 0} (f : X → List A) (xs : List X) (i : ℕ) (x : X) → i < length xs → x ≡ get_or xs i x → flat_map f (take (i + 1) xs) ≡ flat_map f (take i xs) ++ f x
one_more f xs i x within is =
    ap (flat_map f) (take_more xs i x within ∙ ap (λ y. take i xs ++ y ∷ []) (sym is)) ∙ flat_map-append f (take i xs) (x ∷ []) ∙ ap (λ ys. flat_map f (take i xs) ++ ys) (append-nil (f x))

pub lists_more : (total stamp : ℕ) (lists : List (ℕ × ListingModel)) (i : ℕ) (one : ℕ × ListingModel) → i < length lists → one ≡ get_or lists i one
    → flat_map (listed_at total stamp) (take (i + 1) lists) ≡ flat_map (listed_at total stamp) (take i lists) ++ listed_at total stamp one
lists_more total stamp = one_more (listed_at total stamp)

abbrev pub floors_of : ℕ × ListingModel → List Floor
floors_of one = floors_in one.1

pub floors_more : (from : Option Floor) (lists : List (ℕ × ListingModel)) (i : ℕ) (one : ℕ × ListingModel) → i < length lists → one ≡ get_or lists i one
    → highest_from from (flat_map floors_of (take (i + 1) lists)) ≡ highest_from (highest_from from (flat_map floors_of (take i lists))) (floors_of one)
floors_more from lists i one within is =
    ap (highest_from from) (one_more floors_of lists i one within is) ∙ highest_from-append from (flat_map floors_of (take i lists)) (floors_of one)

-- ---- the first of each index

others : Target → Target → Bool
others target other = not (has_index target.index other)

one_kept : (p : Target → Bool) (target : Target) (b : Bool) → p target ≡ b → filter p (target ∷ []) ≡ cond b (target ∷ []) []
one_kept p target b is = ap (λ b. cond b (target ∷ []) []) is

no_side : (a b : Bool) → (a || b) ≡ false → (a ≡ false) × (b ≡ false)
no_side true b is = absurd (cc)
no_side false b is = (refl, is)

one_side : (a b : Bool) → (a || b) ≡ true → b ≡ false → a ≡ true
one_side true b is none = refl
one_side false b is none = absurd (cc)

other_index : (x target : Target) → has_index target.index x ≡ false → not (has_index x.index target) ≡ true
other_index x target is = grind (arith, nat_tests)

same_index : (x target : Target) → has_index target.index x ≡ true → not (has_index x.index target) ≡ false
same_index x target is = grind (arith, nat_tests)

pub firsts_new : (xs : List Target) (target : Target) → list_any (has_index target.index) xs ≡ false → firsts (xs ++ target ∷ []) ≡ firsts xs ++ target ∷ []
firsts_new [] target none = refl
firsts_new (x ∷ xs) target none =
    let is = no_side (has_index target.index x) (list_any (has_index target.index) xs) none in
    let keeps = λ (other : Target). not (has_index x.index other) in
    ap (λ rest. x ∷ filter keeps rest) (firsts_new xs target is.1)
    ∙ ap (λ rest. x ∷ rest) (filter-append keeps (firsts xs) (target ∷ []) ∙ ap (λ rest. filter keeps (firsts xs) ++ rest) (one_kept keeps target true (other_index x target is.0)))

pub firsts_known : (xs : List Target) (target : Target) → list_any (has_index target.index) xs ≡ true → firsts (xs ++ target ∷ []) ≡ firsts xs
firsts_known [] target is = absurd (cc)
firsts_known (x ∷ xs) target is =
    let keeps = λ (other : Target). not (has_index x.index other) in
    elim (cases_Bool (list_any (has_index target.index) xs)) [
      | inl later ↦ ap (λ rest. x ∷ filter keeps rest) (firsts_known xs target later)
      | inr none ↦
          let here = same_index x target (one_side (has_index target.index x) (list_any (has_index target.index) xs) is none) in
          ap (λ rest. x ∷ filter keeps rest) (firsts_new xs target none)
          ∙ ap (λ rest. x ∷ rest) (filter-append keeps (firsts xs) (target ∷ []) ∙ ap (λ rest. filter keeps (firsts xs) ++ rest) (one_kept keeps target false here) ∙ append-nil (filter keeps (firsts xs)))
    ]

apart : (i : ℕ) (x other : Target) → has_index i x ≡ false → has_index i other ≡ true → not (has_index x.index other) ≡ true
apart i x other here there = grind (arith, nat_tests)

any_kept : (a b : Bool) (p : Target → Bool) (x : Target) (kept : List Target) (rest : Bool) → p x ≡ a → list_any p kept ≡ rest → (a ≡ true → b ≡ true) → list_any p (cond b (x ∷ kept) kept) ≡ (a || rest)
any_kept true true p x kept rest is same implies = ap (λ a. a || list_any p kept) is
any_kept false true p x kept rest is same implies = ap (λ a. a || list_any p kept) is ∙ same
any_kept true false p x kept rest is same implies = absurd (let never = implies refl in cc)
any_kept false false p x kept rest is same implies = same

any_others : (p q : Target → Bool) (xs : List Target) → ((x : Target) → p x ≡ true → q x ≡ true) → list_any p (filter q xs) ≡ list_any p xs
any_others p q [] implies = refl
any_others p q (x ∷ xs) implies = any_kept (p x) (q x) p x (filter q xs) (list_any p xs) refl (any_others p q xs implies) (implies x)

pub any_firsts : (i : ℕ) (xs : List Target) → list_any (has_index i) (firsts xs) ≡ list_any (has_index i) xs
any_firsts i [] = refl
any_firsts i (x ∷ xs) =
    let keeps = λ (other : Target). not (has_index x.index other) in
    elim (cases_Bool (has_index i x)) [
      | inl here ↦ ap (λ b. b || list_any (has_index i) (filter keeps (firsts xs))) here ∙ sym (ap (λ b. b || list_any (has_index i) xs) here)
      | inr there ↦ ap (λ rest. has_index i x || rest) (any_others (has_index i) keeps (firsts xs) (λ other is. apart i x other there is) ∙ any_firsts i xs)
    ]

module _ (xs : List Target) (i : ℕ) (x d : Target) (found : List Target) (within : i < length xs) (is : x ≡ get_or xs i d) (so_far : found ≡ firsts (take i xs)) where
  grown : take (i + 1) xs ≡ take i xs ++ x ∷ []
  grown = take_more xs i d within ∙ ap (λ y. take i xs ++ y ∷ []) (sym is)

  tested : list_any (has_index x.index) found ≡ list_any (has_index x.index) (take i xs)
  tested = ap (list_any (has_index x.index)) so_far ∙ any_firsts x.index (take i xs)

  pub first_added : list_any (has_index x.index) found ≡ false → found ++ x ∷ [] ≡ firsts (take (i + 1) xs)
  first_added none = ap (λ found. found ++ x ∷ []) so_far ∙ sym (ap firsts grown ∙ firsts_new (take i xs) x (sym tested ∙ none))

  pub first_there : list_any (has_index x.index) found ≡ true → found ≡ firsts (take (i + 1) xs)
  first_there one = so_far ∙ sym (ap firsts grown ∙ firsts_known (take i xs) x (sym tested ∙ one))

-- ---- the first that passes

module _ {X : Type 0} (p : X → Bool) (xs : List X) (i : ℕ) (d : X) (within : i < length xs) (none : find p (take i xs) ≡ None) where
  pub none_more : p (get_or xs i d) ≡ false → find p (take (i + 1) xs) ≡ None
  none_more fails =
      ap (find p) (take_more xs i d within) ∙ find-append p (take i xs) (get_or xs i d ∷ []) ∙ ap (λ o. option_or o (find p (get_or xs i d ∷ []))) none
      ∙ ap (λ b. cond b (Some (get_or xs i d)) None) fails

  pub found_here : p (get_or xs i d) ≡ true → Some (get_or xs i d) ≡ find p xs
  found_here passes = sym (
      sym (ap (find p) (take-append-drop i xs)) ∙ find-append p (take i xs) (drop i xs) ∙ ap (λ o. option_or o (find p (drop i xs))) none
      ∙ ap (find p) (drop-cons xs i d within ∙ ap (λ n. get_or xs i d ∷ drop n xs) (sym (add-one i))) ∙ ap (λ b. cond b (Some (get_or xs i d)) (find p (drop (i + 1) xs))) passes)
