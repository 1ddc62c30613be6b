-- Numbers no two of which are equal.
use Rattle.std.proofs.Common.{◌≡◌, ◌≢◌, ⊎_elim, ℕ, suc, ◌==◌, ◌&&◌, Bool, true, false, not, Contains, List, [], ◌∷◌, ◌++◌, map, refl, sym, ap, subst, ◌∙◌, eq-eqb, eqb-true, arith}
use Rattle.std.specs.List.{AllPairs, list_all}
use Rattle.std.proofs.lemmas.Bool.{and_parts}
use Rattle.std.proofs.lemmas.List.Elements.{Contains-append_cases, Contains-append_left, Contains-append_right}
use Rattle.sw_diskfile.proofs.Lists.{Contains-cases, Contains-first, Contains-later, Contains-map, Contains-none}
use Rattle.sw_message.specs.Soundly.{are_distinct, is_other}

pub all_of : (a b : Bool) → a ≡ true → b ≡ true → (a && b) ≡ true
all_of true b first second = second
all_of false b first second = absurd (cc)

module _ {A : Type 0} (test : A → Bool) where
  pub all_contained : (items : List A) → list_all test items ≡ true → (one : A) → Contains items one → test one ≡ true
  all_contained [] all one has = absurd (Contains-none one has)
  all_contained (first ∷ items) all one has =
      let parts = and_parts (test first) (list_all test items) all in
      ⊎_elim (λ here. subst (λ (it : A). test it ≡ true) here parts.0) (λ later. all_contained items parts.1 one later) (Contains-cases first items one has)

  pub contained_all : (items : List A) → ((one : A) → Contains items one → test one ≡ true) → list_all test items ≡ true
  contained_all [] each = refl
  contained_all (first ∷ items) each = all_of _ _ (each first (Contains-first first items)) (contained_all items (λ one has. each one (Contains-later first items one has)))

other-true : (n m : ℕ) → is_other n m ≡ true → m ≢ n
other-true n m test = λ same. by_test (m == n) (eq-eqb m n same) test
  where
    by_test : (b : Bool) → b ≡ true → not b ≡ true → ⊥
    by_test true is other = absurd (cc)
    by_test false is other = absurd (cc)

true-other : (n m : ℕ) → m ≢ n → is_other n m ≡ true
true-other n m differs = by_test (m == n) refl
  where
    by_test : (b : Bool) → (m == n) ≡ b → not b ≡ true
    by_test true is = absurd (differs (eqb-true m n is))
    by_test false is = refl

-- the first differs from all behind it
distinct-first : (n : ℕ) (numbers : List ℕ) → are_distinct (n ∷ numbers) ≡ true → (m : ℕ) → Contains numbers m → m ≢ n
distinct-first n numbers distinct m has = other-true n m (all_contained (is_other n) numbers (and_parts (list_all (is_other n) numbers) (are_distinct numbers) distinct).0 m has)

distinct-tail : (n : ℕ) (numbers : List ℕ) → are_distinct (n ∷ numbers) ≡ true → are_distinct numbers ≡ true
distinct-tail n numbers distinct = (and_parts (list_all (is_other n) numbers) (are_distinct numbers) distinct).1

distinct-cons : (n : ℕ) (numbers : List ℕ) → ((m : ℕ) → Contains numbers m → m ≢ n) → are_distinct numbers ≡ true → are_distinct (n ∷ numbers) ≡ true
distinct-cons n numbers differ distinct = all_of _ _ (contained_all (is_other n) numbers (λ m has. true-other n m (differ m has))) distinct

pub distinct-right : (before after : List ℕ) → are_distinct (before ++ after) ≡ true → are_distinct after ≡ true
distinct-right [] after distinct = distinct
distinct-right (n ∷ before) after distinct = distinct-right before after (distinct-tail n (before ++ after) distinct)

-- what stands before differs from what stands after
pub distinct-apart : (before after : List ℕ) → are_distinct (before ++ after) ≡ true → (n m : ℕ) → Contains before n → Contains after m → n ≢ m
distinct-apart [] after distinct n m has also = absurd (Contains-none n has)
distinct-apart (first ∷ before) after distinct n m has also = λ same. ⊎_elim
    (λ here. distinct-first first (before ++ after) distinct m (Contains-append_right before after m also) (sym same ∙ sym here))
    (λ later. distinct-apart before after (distinct-tail first (before ++ after) distinct) n m later also same) (Contains-cases first before n has)

-- of things whose numbers are distinct, two with one number are one
pub distinct-one : {A : Type 0} (number_of : A → ℕ) (items : List A) (after : List ℕ) → are_distinct (map number_of items ++ after) ≡ true → (a b : A) → Contains items a → Contains items b → number_of a ≡ number_of b → a ≡ b
distinct-one number_of [] after distinct a b has also same = absurd (Contains-none a has)
distinct-one {A} number_of (first ∷ items) after distinct a b has also same = ⊎_elim
    (λ here. ⊎_elim (λ too. sym here ∙ too) (λ later. absurd (other b later (sym same ∙ ap number_of (sym here)))) (Contains-cases first items b also))
    (λ later. ⊎_elim (λ too. absurd (other a later (same ∙ ap number_of (sym too)))) (λ also_later. distinct-one number_of items after (distinct-tail (number_of first) rest distinct) a b later also_later same) (Contains-cases first items b also))
    (Contains-cases first items a has)
  where
    rest : List ℕ
    rest = map number_of items ++ after

    other : (c : A) → Contains items c → number_of c ≢ number_of first
    other c there = distinct-first (number_of first) rest distinct (number_of c) (Contains-append_left (map number_of items) after (number_of c) (Contains-map number_of items c there))

-- with one more, that is not there, they are distinct still
pub distinct-more : (before after : List ℕ) (n : ℕ) → are_distinct (before ++ after) ≡ true → ((m : ℕ) → Contains (before ++ after) m → m ≢ n) → are_distinct (before ++ n ∷ after) ≡ true
distinct-more [] after n distinct differ = distinct-cons n after differ distinct
distinct-more (first ∷ before) after n distinct differ = distinct-cons first (before ++ n ∷ after) others
    (distinct-more before after n (distinct-tail first (before ++ after) distinct) (λ m has. differ m (Contains-later first (before ++ after) m has)))
  where
    behind : (m : ℕ) → Contains (before ++ after) m → m ≢ first
    behind = distinct-first first (before ++ after) distinct

    others : (m : ℕ) → Contains (before ++ n ∷ after) m → m ≢ first
    others m has = ⊎_elim (λ left. behind m (Contains-append_left before after m left))
        (λ right. ⊎_elim (λ here. λ same. differ first (Contains-first first (before ++ after)) (sym same ∙ sym here)) (λ later. behind m (Contains-append_right before after m later)) (Contains-cases n after m right))
        (Contains-append_cases before (n ∷ after) m has)

-- numbers of which no two are equal, by their places
pub pairs-distinct : (numbers : List ℕ) → AllPairs (λ n m. n ≢ m) numbers → are_distinct numbers ≡ true
pairs-distinct [] pairs = refl
pairs-distinct (n ∷ numbers) pairs = distinct-cons n numbers
    (λ m has. λ same. pairs 0 (suc has.0) m (omega arith) (omega (arith, has.1)) (sym (has.2 ∙ same)))
    (pairs-distinct numbers (λ i j d before within. pairs (suc i) (suc j) d (omega (arith, before)) (omega (arith, within))))
