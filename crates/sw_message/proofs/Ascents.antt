-- Targets in order: of the lists of the same targets, one alone ascends.
use Rattle.std.proofs.Common.{◌≡◌, inl, inr, ℕ, zero, suc, ◌+◌, Bool, true, false, cond, List, [], ◌∷◌, get_or, nat_cmp, is_lt, refl, sym, ap, ◌∙◌, le_of_eq, arith}
use Rattle.std.specs.Cmp.{IsStrictWeakOrder}
use Rattle.std.specs.List.{All, AllPairs, sum_by}
use Rattle.std.specs.List.Sorted.{IsPermutation, IsSortedBy}
use Rattle.std.specs.Ordering.{ordering_then}
use Rattle.std.proofs.lemmas.Bool.{cases_Bool, cond_both}
use Rattle.std.proofs.lemmas.Bool.Decides.{nat_tests}
use Rattle.std.proofs.lemmas.Cmp.{nat_cmp_total, on_total, then_total}
use Rattle.std.proofs.lemmas.List.Elements.{All-cons, All-head, All-nil, All-tail}
use Rattle.std.proofs.lemmas.List.Kept.{AllPairs-cons}
use Rattle.std.proofs.lemmas.List.Sorted.{ranks_by, sorted_far, sum_by-IsPermutation}
use Rattle.std.proofs.lemmas.List.Sums.{sum_by-cons, sum_by-le}
use Rattle.sw_diskfile.proofs.Lists.{rest_ascend}
use Rattle.sw_message.specs.Targets.{ascending, is_before, with_target}
use Rattle.sw_message.specs.declared.target.Target.{Target}

-- ---- the order of targets

abbrev comes_first : Target → Target → Bool
comes_first a b = is_lt (ordering_then (nat_cmp a.index b.index) (nat_cmp a.device b.device))

tells : (a b : Target) → comes_first a b ≡ is_before a b
tells a b = grind (arith, nat_tests)

order : IsStrictWeakOrder comes_first
order = ranks_by (then_total (on_total (λ (target : Target). target.index) nat_cmp_total) (on_total (λ (target : Target). target.device) nat_cmp_total)) (λ target. target)

-- a target does not come after another
abbrev IsUpTo : Target → Target → Type 0
IsUpTo a b = is_before b a ≡ false

up_to_itself : (a : Target) → IsUpTo a a
up_to_itself a = grind (arith, nat_tests)

before : (a b : Target) → is_before a b ≡ true → IsUpTo a b
before a b is = sym (tells b a) ∙ order.one_way a b (tells a b ∙ is)

up_to_later : (a b c : Target) → IsUpTo a b → IsUpTo b c → IsUpTo a c
up_to_later a b c first second = sym (tells c a) ∙ order.chain c b a (tells c b ∙ second) (tells b a ∙ first)

of_parts : (a b : Target) → a.index ≡ b.index → a.device ≡ b.device → a ≡ b
of_parts a b index device = ap (λ i. record { index = i; device = a.device }) index ∙ ap (λ d. record { index = b.index; device = d }) device

one_target : (a b : Target) → IsUpTo a b → IsUpTo b a → a ≡ b
one_target a b first second = of_parts a b (grind (arith, nat_tests)) (grind (arith, nat_tests))

-- ---- of the lists of the same targets, one alone ascends

abbrev Ascends : List Target → Type 0
Ascends targets = AllPairs IsUpTo targets

-- however they are counted
abbrev AreSame : List Target → List Target → Type 0
AreSame a b = (f : Target → ℕ) → sum_by f a ≡ sum_by f b

earlier : Target → Target → ℕ
earlier than target = cond (is_before target than) 1 0

first_of : (target : Target) (targets : List Target) → Ascends (target ∷ targets) → All (IsUpTo target) targets
first_of target targets up k d within = up zero (suc k) d (omega arith) (omega arith)

none_earlier : (target : Target) (targets : List Target) → All (IsUpTo target) targets → sum_by (earlier target) targets ≡ 0
unfolding earlier
none_earlier target targets all = omega (arith, sum_by-le (earlier target) 0 targets (λ k d within. le_of_eq (ap (λ b. cond b 1 0) (all k d within))))

first_up_to : (x y : Target) (xs ys : List Target) → Ascends (y ∷ ys) → AreSame (x ∷ xs) (y ∷ ys) → IsUpTo y x
unfolding earlier
first_up_to x y xs ys up same = elim (cases_Bool (is_before x y)) [
  | inl is ↦
      let one : earlier y x ≡ 1 = ap (λ b. cond b 1 0) is in
      let none = none_earlier y (y ∷ ys) (All-cons (IsUpTo y) y ys (up_to_itself y) (first_of y ys up)) in
      absurd (omega (arith, one, none, same (earlier y), sum_by-cons (earlier y) x xs))
  | inr is ↦ is
]

one_ascends : (a b : List Target) → Ascends a → Ascends b → AreSame a b → a ≡ b
one_ascends [] [] first second same = refl
one_ascends [] (y ∷ ys) first second same = absurd (omega (arith, same (λ _. 1), sum_by-cons (λ _. 1) y ys))
one_ascends (x ∷ xs) [] first second same = absurd (omega (arith, same (λ _. 1), sum_by-cons (λ _. 1) x xs))
one_ascends (x ∷ xs) (y ∷ ys) first second same =
    let head : x ≡ y = one_target x y (first_up_to y x ys xs first (λ f. sym (same f))) (first_up_to x y xs ys second same) in
    let tail : xs ≡ ys = one_ascends xs ys (rest_ascend IsUpTo x xs first) (rest_ascend IsUpTo y ys second)
    (λ f. omega (arith, same f, ap f head, sum_by-cons f x xs, sum_by-cons f y ys)) in
    ap (λ target. target ∷ xs) head ∙ ap (λ targets. y ∷ targets) tail

-- ---- targets, ascending

all_with : (P : Target → Type 0) (target : Target) (targets : List Target) → P target → All P targets → All P (with_target target targets)
all_with P target [] is all = All-cons P target [] is all
all_with P target (other ∷ others) is all = cond_both (is_before target other) (target ∷ other ∷ others) (other ∷ with_target target others) (All P)
    (λ _. All-cons P target (other ∷ others) is all)
    (λ _. All-cons P other (with_target target others) (All-head P other others all) (all_with P target others is (All-tail P other others all)))

pub all_ascending : (P : Target → Type 0) (targets : List Target) → All P targets → All P (ascending targets)
all_ascending P [] all = all
all_ascending P (target ∷ targets) all = all_with P target (ascending targets) (All-head P target targets all) (all_ascending P targets (All-tail P target targets all))

ascends_with : (target : Target) (targets : List Target) → Ascends targets → Ascends (with_target target targets)
ascends_with target [] up = AllPairs-cons IsUpTo target [] (All-nil (IsUpTo target)) up
ascends_with target (other ∷ others) up = cond_both (is_before target other) (target ∷ other ∷ others) (other ∷ with_target target others) Ascends
    (λ is. let first = before target other is in AllPairs-cons IsUpTo target (other ∷ others) (All-cons (IsUpTo target) other others first (λ k d within. up_to_later target other _ first (first_of other others up k d within))) up)
    (λ is. AllPairs-cons IsUpTo other (with_target target others) (all_with (IsUpTo other) target others is (first_of other others up)) (ascends_with target others (rest_ascend IsUpTo other others up)))

sum_with : (f : Target → ℕ) (target : Target) (targets : List Target) → sum_by f (with_target target targets) ≡ f target + sum_by f targets
sum_with f target [] = sum_by-cons f target []
sum_with f target (other ∷ others) = cond_both (is_before target other) (target ∷ other ∷ others) (other ∷ with_target target others) (λ targets. sum_by f targets ≡ f target + sum_by f (other ∷ others))
    (λ _. sum_by-cons f target (other ∷ others))
    (λ _. omega (arith, sum_by-cons f other (with_target target others), sum_by-cons f other others, sum_with f target others))

ascends : (targets : List Target) → Ascends (ascending targets)
ascends [] = λ i j d below within. absurd (omega arith)
ascends (target ∷ targets) = ascends_with target (ascending targets) (ascends targets)

-- however they are counted, nothing is lost
pub sum_ascending : (f : Target → ℕ) (targets : List Target) → sum_by f (ascending targets) ≡ sum_by f targets
sum_ascending f [] = refl
sum_ascending f (target ∷ targets) = omega (arith, sum_with f target (ascending targets), sum_by-cons f target targets, sum_ascending f targets)

pub sorted_ascending : (targets sorted : List Target) → IsPermutation targets sorted → IsSortedBy comes_first sorted → sorted ≡ ascending targets
sorted_ascending targets sorted moved up = one_ascends sorted (ascending targets)
    (λ i j d below within. sym (tells (get_or sorted j d) (get_or sorted i d)) ∙ sorted_far comes_first order sorted up i j d (omega arith) within)
    (ascends targets) (λ f. sum_by-IsPermutation f targets sorted moved ∙ sym (sum_ascending f targets))
