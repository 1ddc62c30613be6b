-- One of each number among some things, the first in the list.
use Rattle.std.proofs.Common.{◌≡◌, ◌≢◌, ⊎_elim, ℕ, ◌==◌, Bool, true, false, cond, not, Contains, List, [], ◌∷◌, ◌++◌, map, filter, sym, ap, subst}
use Rattle.std.specs.List.{AllPairs}
use Rattle.std.proofs.lemmas.Bool.{cases_eq, eq-eqb, ne_eqb}
use Rattle.std.proofs.lemmas.List.Elements.{All-contains_itself, All-weaker, Contains-append_cases, Contains-append_left, Contains-append_right}
use Rattle.std.proofs.lemmas.List.Kept.{AllPairs-cons}
use Rattle.sw_diskfile.proofs.Lists.{Contains-cases, Contains-first, Contains-later, Contains-map, first_before, keeps, kept, mapped, rest_ascend}
use Rattle.sw_local.specs.Link.{firsts}

not-true : (b : Bool) → b ≡ true → not b ≡ true → ⊥
not-true true is other = absurd (cc)
not-true false is other = absurd (cc)

module _ {T : Type 0} (number_of : T → ℕ) where
  -- whether a thing has another number than one
  abbrev is_apart : T → T → Bool
  is_apart one other = not (number_of other == number_of one)

  apart-true : (one other : T) → is_apart one other ≡ true → number_of other ≢ number_of one
  apart-true one other test = λ same. not-true (number_of other == number_of one) (eq-eqb (number_of other) (number_of one) same) test

  true-apart : (one other : T) → number_of other ≢ number_of one → is_apart one other ≡ true
  true-apart one other differs = ap not (ne_eqb (number_of other) (number_of one) differs)

  -- ---- what is among them

  -- the list has it
  pub firsts-has : (items : List T) (x : T) → Contains (firsts number_of items) x → Contains items x
  firsts-has [] x has = has
  firsts-has (one ∷ others) x has = ⊎_elim
      (λ here. subst (Contains (one ∷ others)) here (Contains-first one others))
      (λ later. Contains-later one others x (firsts-has others x (kept (is_apart one) (firsts number_of others) x later).0))
      (Contains-cases one (filter (is_apart one) (firsts number_of others)) x has)

  -- where two of one number are one, all that the list has is
  pub firsts-all : (items : List T) → ((a b : T) → Contains items a → Contains items b → number_of a ≡ number_of b → a ≡ b) → (x : T) → Contains items x → Contains (firsts number_of items) x
  firsts-all [] one_each x has = has
  firsts-all (one ∷ others) one_each x has = ⊎_elim
      (λ here. subst (Contains (firsts number_of (one ∷ others))) here (Contains-first one (filter (is_apart one) (firsts number_of others))))
      (λ later. ⊎_elim
      (λ same. subst (Contains (firsts number_of (one ∷ others))) (sym (one_each x one has (Contains-first one others) same)) (Contains-first one (filter (is_apart one) (firsts number_of others))))
      (λ differs. Contains-later one (filter (is_apart one) (firsts number_of others)) x
      (keeps (is_apart one) (firsts number_of others) x
      (firsts-all others (λ a b first second. one_each a b (Contains-later one others a first) (Contains-later one others b second)) x later) (true-apart one x differs)))
      (cases_eq (number_of x) (number_of one)))
      (Contains-cases one others x has)

  -- ---- their numbers

  abbrev Differ : List ℕ → Type 0
  Differ numbers = AllPairs (λ n m. n ≢ m) numbers

  -- one more that differs from all
  differ_more : (n : ℕ) (numbers : List ℕ) → ((m : ℕ) → Contains numbers m → n ≢ m) → Differ numbers → Differ (n ∷ numbers)
  differ_more n numbers differs are = AllPairs-cons (λ n m. n ≢ m) n numbers (All-weaker (Contains numbers) (λ m. n ≢ m) differs numbers (All-contains_itself numbers)) are

  -- a number among those of some things and others
  either_number : (P : ℕ → Type 0) (items : List T) (after : List ℕ) → ((x : T) → Contains items x → P (number_of x)) → ((n : ℕ) → Contains after n → P n) → (n : ℕ) → Contains (map number_of items ++ after) n → P n
  either_number P items after of_items of_after n has = ⊎_elim
      (λ left. let from = mapped number_of items n left in subst P from.2 (of_items from.0 from.1))
      (of_after n)
      (Contains-append_cases (map number_of items) after n has)

  -- those that a test keeps differ too
  kept_one : (b : Bool) (x : T) (xs : List T) (after : List ℕ) → ((m : ℕ) → Contains (map number_of xs ++ after) m → number_of x ≢ m) → Differ (map number_of xs ++ after) → Differ (map number_of (cond b (x ∷ xs) xs) ++ after)
  kept_one true x xs after before rest = differ_more (number_of x) (map number_of xs ++ after) before rest
  kept_one false x xs after before rest = rest

  kept_differ : (test : T → Bool) (items : List T) (after : List ℕ) → Differ (map number_of items ++ after) → Differ (map number_of (filter test items) ++ after)
  kept_differ test [] after are = are
  kept_differ test (x ∷ xs) after are =
      let before = first_before (λ n m. n ≢ m) (number_of x) (map number_of xs ++ after) are in
      kept_one (test x) x (filter test xs) after
      (either_number (λ m. number_of x ≢ m) (filter test xs) after
      (λ y has. before (number_of y) (Contains-append_left (map number_of xs) after (number_of y) (Contains-map number_of xs y (kept test xs y has).0)))
      (λ n has. before n (Contains-append_right (map number_of xs) after n has)))
      (kept_differ test xs after (rest_ascend (λ n m. n ≢ m) (number_of x) (map number_of xs ++ after) are))

  -- no two of them are equal, nor equal to others that no thing has
  pub firsts-differ : (items : List T) (after : List ℕ) → Differ after → ((x : T) → Contains items x → (n : ℕ) → Contains after n → number_of x ≢ n) → Differ (map number_of (firsts number_of items) ++ after)
  firsts-differ [] after are apart = are
  firsts-differ (one ∷ others) after are apart = differ_more (number_of one) (map number_of (filter (is_apart one) (firsts number_of others)) ++ after)
      (either_number (λ m. number_of one ≢ m) (filter (is_apart one) (firsts number_of others)) after
      (λ x has. λ same. apart-true one x (kept (is_apart one) (firsts number_of others) x has).1 (sym same))
      (apart one (Contains-first one others)))
      (kept_differ (is_apart one) (firsts number_of others) after (firsts-differ others after are (λ x has. apart x (Contains-later one others x has))))
