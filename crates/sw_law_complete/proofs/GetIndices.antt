-- How often an index is among targets, and that fewer indices than k don't have k different ones.
use Rattle.std.proofs.Common.{◌≡◌, ◌≢◌, ⊎_elim, ℕ, zero, suc, ◌+◌, ◌==◌, ◌≤◌, Bool, true, false, not, ◌++◌, Contains, List, [], ◌∷◌, length, take, AllPairs, refl, sym, ap, subst, arith}
use Rattle.std.specs.Prelude.{if◌then◌else◌}
use Rattle.std.specs.List.{All, filter}
use Rattle.std.proofs.lemmas.Bool.{cases_eq, cond-false, eq-eqb, ne_eqb}
use Rattle.std.proofs.lemmas.List.Elements.{All-cons, All-head, All-nil, All-tail}
use Rattle.sw_diskfile.proofs.Lists.{Contains-cases, Contains-first, Contains-later, Contains-none, first_before, keeps, rest_ascend}
use Rattle.sw_message.specs.declared.target.Target.{Target}

-- ---- how often

-- as a number
abbrev pub one_if : Bool → ℕ
one_if b = if b then 1 else 0

-- how often an index is among targets
abbrev pub index_count : ℕ → List Target → ℕ
index_count n [] = 0
index_count n (target ∷ targets) = index_count n targets + one_if (target.index == n)

-- of a number that is the same it is one
pub one_if_same : (a b : ℕ) → a ≡ b → one_if (a == b) ≡ 1
one_if_same a b same = ap one_if (eq-eqb a b same)

-- among targets behind others
pub count-append : (n : ℕ) (targets others : List Target) → index_count n (targets ++ others) ≡ index_count n targets + index_count n others
count-append n [] others = omega arith
count-append n (target ∷ targets) others = omega (arith, count-append n targets others)

-- where it is not once, each has another index
pub none_counted : (n : ℕ) (targets : List Target) → index_count n targets ≡ 0 → All (λ target. target.index ≢ n) targets
none_counted n [] none = All-nil (λ (target : Target). target.index ≢ n)
none_counted n (target ∷ targets) none =
    All-cons (λ (one : Target). one.index ≢ n) target targets (λ same. absurd (omega (arith, none, one_if_same target.index n same))) (none_counted n targets (omega (arith, none)))

others_none : (n : ℕ) (targets : List Target) → All (λ target. n ≢ target.index) targets → index_count n targets ≡ 0
others_none n [] all = refl
others_none n (target ∷ targets) all =
    let apart = All-head (λ (one : Target). n ≢ one.index) target targets all in
    let other : one_if (target.index == n) ≡ 0 = ap one_if (ne_eqb target.index n (λ same. apart (sym same))) in
    omega (arith, other, others_none n targets (All-tail (λ (one : Target). n ≢ one.index) target targets all))

few : (b : Bool) → one_if b ≤ 1
few true = omega arith
few false = omega arith

-- where no two have one index, it is there once at most
pub once : (n : ℕ) (targets : List Target) → AllPairs (λ (a b : Target). a.index ≢ b.index) targets → index_count n targets ≤ 1
once n [] apart = omega arith
once n (target ∷ targets) apart = ⊎_elim
    (λ same.
    let rest : All (λ (one : Target). target.index ≢ one.index) targets = λ i d within. apart zero (suc i) d (omega arith) (omega arith) in
    let none = subst (λ m. index_count m targets ≡ 0) same (others_none target.index targets rest) in
    omega (arith, none, few (target.index == n)))
    (λ other.
    let not_this : one_if (target.index == n) ≡ 0 = ap one_if (ne_eqb target.index n other) in
    omega (arith, not_this, once n targets (λ i j d less within. apart (suc i) (suc j) d (omega arith) (omega arith))))
    (cases_eq target.index n)

-- and no more often among the first of them
pub count-take : (n m : ℕ) (targets : List Target) → index_count n (take m targets) ≤ index_count n targets
count-take n zero targets = omega arith
count-take n (suc m) [] = omega arith
count-take n (suc m) (target ∷ targets) = omega (arith, count-take n m targets)

-- ---- different ones among few

abbrev other_than : ℕ → ℕ → Bool
other_than n m = not (m == n)

without_few : (n : ℕ) (b : Bool) (m : ℕ) (numbers : List ℕ) → length (if b then m ∷ numbers else numbers) ≤ length numbers + 1
without_few n true m numbers = omega arith
without_few n false m numbers = omega arith

filtered_few : (n : ℕ) (numbers : List ℕ) → length (filter (other_than n) numbers) ≤ length numbers
filtered_few n [] = omega arith
filtered_few n (m ∷ numbers) = omega (arith, without_few n (other_than n m) m (filter (other_than n) numbers), filtered_few n numbers)

without_one : (n : ℕ) (numbers : List ℕ) → Contains numbers n → length (filter (other_than n) numbers) + 1 ≤ length numbers
without_one n [] has = absurd (Contains-none n has)
without_one n (m ∷ numbers) has = ⊎_elim
    (λ same.
    let dropped : filter (other_than n) (m ∷ numbers) ≡ filter (other_than n) numbers = cond-false (other_than n m) (m ∷ filter (other_than n) numbers) (filter (other_than n) numbers) (ap not (eq-eqb m n same)) in
    omega (arith, ap length dropped, filtered_few n numbers))
    (λ later. omega (arith, without_few n (other_than n m) m (filter (other_than n) numbers), without_one n numbers later))
    (Contains-cases m numbers n has)

-- numbers that are all different and all among others are no more than these
pub few_among : (numbers others : List ℕ) → AllPairs (λ (a b : ℕ). a ≢ b) numbers → ((n : ℕ) → Contains numbers n → Contains others n) → length numbers ≤ length others
few_among [] others apart among = omega arith
few_among (n ∷ numbers) others apart among =
    let rest = few_among numbers (filter (other_than n) others) (rest_ascend (λ (a b : ℕ). a ≢ b) n numbers apart)
    (λ m has. keeps (other_than n) others m (among m (Contains-later n numbers m has)) (ap not (ne_eqb m n (λ same. first_before (λ (a b : ℕ). a ≢ b) n numbers apart m has (sym same))))) in
    omega (arith, rest, without_one n others (among n (Contains-first n numbers)))
