-- Going over the pairs of a head.
use Rattle.std.proofs.Common.{◌≡◌, ℕ, ◌+◌, ◌<◌, false, true, List, [], ◌∷◌, ◌++◌, length, take, drop, get_or, nat_eq, Some, refl, sym, ap, ◌∙◌}
use Rattle.std.specs.List.{list_any}
use Rattle.std.specs.Cmp.Lexicographic.{pointwise}
use Rattle.std.proofs.lemmas.List.{take_more, drop_more}
use Rattle.std.proofs.lemmas.List.Sums.{sum_by_push}
use Rattle.sw_types.specs.Head.{Pair, overall, repeat_after}

pub overall_step : (pairs : List Pair) (i : ℕ) (pair : Pair) → i < length pairs → pair ≡ get_or pairs i pair → overall (take (i + 1) pairs) ≡ overall (take i pairs) + (length pair.0 + length pair.1)
overall_step pairs i pair lt is =
    let e : take (i + 1) pairs ≡ take i pairs ++ pair ∷ [] = take_more pairs i pair lt ∙ ap (λ (p : Pair). take i pairs ++ p ∷ []) (sym is) in
    ap overall e ∙ sum_by_push _ (take i pairs) pair

pub repeat_step : (pairs : List Pair) (i : ℕ) (pair : Pair) → i < length pairs → pair ≡ get_or pairs i pair → list_any (λ other. pointwise nat_eq other.0 pair.0) (take i pairs) ≡ false
    → repeat_after (take (i + 1) pairs) (i + 1) (drop (i + 1) pairs) ≡ repeat_after (take i pairs) i (drop i pairs)
repeat_step pairs i pair lt is none =
    let e : take (i + 1) pairs ≡ take i pairs ++ pair ∷ [] = take_more pairs i pair lt ∙ ap (λ (p : Pair). take i pairs ++ p ∷ []) (sym is) in
    let d : drop i pairs ≡ pair ∷ drop (i + 1) pairs = drop_more pairs i pair lt ∙ ap (λ (p : Pair). p ∷ drop (i + 1) pairs) (sym is) in
    let one : repeat_after (take i pairs) i (pair ∷ drop (i + 1) pairs) ≡ repeat_after (take i pairs ++ pair ∷ []) (i + 1) (drop (i + 1) pairs) = rw none refl in
    ap (λ (t : List Pair). repeat_after t (i + 1) (drop (i + 1) pairs)) e ∙ sym one ∙ ap (repeat_after (take i pairs) i) (sym d)

pub repeat_found : (pairs : List Pair) (i : ℕ) (pair : Pair) → i < length pairs → pair ≡ get_or pairs i pair → list_any (λ other. pointwise nat_eq other.0 pair.0) (take i pairs) ≡ true
    → repeat_after (take i pairs) i (drop i pairs) ≡ Some i
repeat_found pairs i pair lt is here =
    let d : drop i pairs ≡ pair ∷ drop (i + 1) pairs = drop_more pairs i pair lt ∙ ap (λ (p : Pair). p ∷ drop (i + 1) pairs) (sym is) in
    rw (d, here) refl
