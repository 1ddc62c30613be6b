-- Pairs that break no rule, one more at a time.
use Rattle.std.proofs.Common.{◌≡◌, ◌≤◌, ℕ, ◌+◌, ◌&&◌, Bool, true, false, cond, not, nat_lt, nat_eq, List, [], ◌∷◌, ◌++◌, length, length-append, append_assoc, Option, Some, None, refl, sym, ap, ap₂, ◌∙◌, arith, position}
use Rattle.std.specs.Cmp.Lexicographic.{pointwise}
use Rattle.std.specs.List.{AllByRecursion, list_any, position_from}
use Rattle.std.specs.Option.{option_or}
use Rattle.std.specs.Prelude.{option_map}
use Rattle.std.proofs.lemmas.Bool.{and_parts, le-ltb, ltb-false, not-false}
use Rattle.std.proofs.lemmas.List.{append-nil}
use Rattle.std.proofs.lemmas.List.Sums.{sum_by-cons}
use Rattle.std.proofs.lemmas.Iterator.Adapters.{position_from-zero}
use Rattle.sw_words.proofs.Rules.{kept, neither, passed}
use Rattle.sw_types.specs.Head.{FitsBehind, Pair, greatest_overall, greatest_pairs, is_pair_name, is_pair_value, overall, pairs_fault, repeat_after}
use Rattle.sw_types.specs.declared.head.HeadFault.TheVariants.{TooManyPairs, PairName, PairValue, Overall, Twice}

-- an earlier pair has this name
abbrev has_name : List Pair → List ℕ → Bool
has_name pairs name = list_any (λ other. pointwise nat_eq other.0 name) pairs

-- ---- what pairs without a fault are like

record AreKept (pairs : List Pair) : Type 0 where
  few : length pairs ≤ greatest_pairs
  names : AllByRecursion (λ pair. not (is_pair_name pair.0) ≡ false) pairs
  values : AllByRecursion (λ pair. not (is_pair_value pair.1) ≡ false) pairs
  small : overall pairs ≤ greatest_overall
  differ : repeat_after [] 0 pairs ≡ None

mapped : {A B : Type 0} (fault : A → B) (found : Option A) → option_map fault found ≡ None → found ≡ None
mapped fault None e = refl
mapped fault (Some position) e = absurd (cc)

module _ (odd : Pair → Bool) where
  none_from : (at : ℕ) (pairs : List Pair) → position_from odd at pairs ≡ None → AllByRecursion (λ pair. odd pair ≡ false) pairs
  none_from at [] e = tt
  none_from at (pair ∷ pairs) e = let first = kept (odd pair) at _ e in (first.0, none_from (at + 1) pairs first.1)

  from_none : (at : ℕ) (pairs : List Pair) → AllByRecursion (λ pair. odd pair ≡ false) pairs → position_from odd at pairs ≡ None
  from_none at [] all = refl
  from_none at (pair ∷ pairs) all = passed (odd pair) at _ all.0 (from_none (at + 1) pairs all.1)

  none_odd : (pairs : List Pair) → position odd pairs ≡ None → AllByRecursion (λ pair. odd pair ≡ false) pairs
  none_odd pairs e = none_from 0 pairs (sym (position_from-zero odd pairs) ∙ e)

  odd_none : (pairs : List Pair) → AllByRecursion (λ pair. odd pair ≡ false) pairs → position odd pairs ≡ None
  odd_none pairs all = position_from-zero odd pairs ∙ from_none 0 pairs all

are_kept : (pairs : List Pair) → pairs_fault pairs ≡ None → AreKept pairs
unfolding pairs_fault
are_kept pairs e =
    let count = neither (cond (nat_lt greatest_pairs (length pairs)) (Some TooManyPairs) None) _ e in
    let names = neither (option_map PairName (position (λ (pair : Pair). not (is_pair_name pair.0)) pairs)) _ count.1 in
    let values = neither (option_map PairValue (position (λ (pair : Pair). not (is_pair_value pair.1)) pairs)) _ names.1 in
    let all = neither (cond (nat_lt greatest_overall (overall pairs)) (Some Overall) None) _ values.1 in
    record {
      few = ltb-false _ _ (kept (nat_lt greatest_pairs (length pairs)) TooManyPairs None count.0).0;
      names = none_odd (λ (pair : Pair). not (is_pair_name pair.0)) pairs (mapped PairName _ names.0);
      values = none_odd (λ (pair : Pair). not (is_pair_value pair.1)) pairs (mapped PairValue _ values.0);
      small = ltb-false _ _ (kept (nat_lt greatest_overall (overall pairs)) Overall None all.0).0;
      differ = mapped Twice _ all.1;
    }

both_none : {A : Type 0} (first later : Option A) → first ≡ None → later ≡ None → option_or first later ≡ None
both_none first later e f = ap (λ o. option_or o later) e ∙ f

kept_pairs : (pairs : List Pair) → AreKept pairs → pairs_fault pairs ≡ None
unfolding pairs_fault
kept_pairs pairs are =
    both_none (cond (nat_lt greatest_pairs (length pairs)) (Some TooManyPairs) None) _ (passed (nat_lt greatest_pairs (length pairs)) TooManyPairs None (le-ltb _ _ are.few) refl)
    (both_none (option_map PairName (position (λ (pair : Pair). not (is_pair_name pair.0)) pairs)) _ (ap (option_map PairName) (odd_none (λ (pair : Pair). not (is_pair_name pair.0)) pairs are.names))
    (both_none (option_map PairValue (position (λ (pair : Pair). not (is_pair_value pair.1)) pairs)) _ (ap (option_map PairValue) (odd_none (λ (pair : Pair). not (is_pair_value pair.1)) pairs are.values))
    (both_none (cond (nat_lt greatest_overall (overall pairs)) (Some Overall) None) _ (passed (nat_lt greatest_overall (overall pairs)) Overall None (le-ltb _ _ are.small) refl)
    (ap (option_map Twice) are.differ))))

-- ---- a pair behind others

module _ (P : Pair → Type 0) where
  all_parts : (a b : List Pair) → AllByRecursion P (a ++ b) → AllByRecursion P a × AllByRecursion P b
  all_parts [] b all = (tt, all)
  all_parts (p ∷ a) b all = let rest = all_parts a b all.1 in ((all.0, rest.0), rest.1)

  all_joined : (a b : List Pair) → AllByRecursion P a → AllByRecursion P b → AllByRecursion P (a ++ b)
  all_joined [] b front back = back
  all_joined (p ∷ a) b front back = (front.0, all_joined a b front.1 back)

repeat_parts : (earlier : List Pair) (at : ℕ) (a b : List Pair) → repeat_after earlier at (a ++ b) ≡ None
    → (repeat_after earlier at a ≡ None) × (repeat_after (earlier ++ a) (at + length a) b ≡ None)
repeat_parts earlier at [] b e =
    let same : at + 0 ≡ at = omega arith in
    (refl, ap₂ (λ (x : List Pair) (n : ℕ). repeat_after x n b) (append-nil earlier) same ∙ e)
repeat_parts earlier at (p ∷ a) b e =
    let first = kept (has_name earlier p.0) at _ e in
    let rest = repeat_parts (earlier ++ p ∷ []) (at + 1) a b first.1 in
    let same : at + length (p ∷ a) ≡ at + 1 + length a = omega arith in (
      passed (has_name earlier p.0) at _ first.0 rest.0,
      ap₂ (λ (x : List Pair) (n : ℕ). repeat_after x n b) (sym (append_assoc earlier (p ∷ []) a)) same ∙ rest.1,
    )

repeat_joined : (earlier : List Pair) (at : ℕ) (a b : List Pair) → repeat_after earlier at a ≡ None → repeat_after (earlier ++ a) (at + length a) b ≡ None
    → repeat_after earlier at (a ++ b) ≡ None
repeat_joined earlier at [] b front back =
    let same : at ≡ at + 0 = omega arith in
    ap₂ (λ (x : List Pair) (n : ℕ). repeat_after x n b) (sym (append-nil earlier)) same ∙ back
repeat_joined earlier at (p ∷ a) b front back =
    let first = kept (has_name earlier p.0) at _ front in
    let same : at + 1 + length a ≡ at + length (p ∷ a) = omega arith in
    passed (has_name earlier p.0) at _ first.0
    (repeat_joined (earlier ++ p ∷ []) (at + 1) a b first.1
    (ap₂ (λ (x : List Pair) (n : ℕ). repeat_after x n b) (append_assoc earlier (p ∷ []) a) same ∙ back))

overall-cons : (pair : Pair) (pairs : List Pair) → overall (pair ∷ pairs) ≡ (length pair.0 + length pair.1) + overall pairs
overall-cons pair pairs = sum_by-cons (λ (p : Pair). length p.0 + length p.1) pair pairs

overall-append : (a b : List Pair) → overall (a ++ b) ≡ overall a + overall b
overall-append [] b = omega arith
overall-append (p ∷ a) b =
    omega (arith, overall-cons p (a ++ b), overall-cons p a, overall-append a b)

pub overall_push : (pairs : List Pair) (pair : Pair) → overall (pairs ++ pair ∷ []) ≡ overall pairs + (length pair.0 + length pair.1)
overall_push pairs pair = omega (arith, overall-append pairs (pair ∷ []), overall-cons pair [])

both_true : (a b : Bool) → not a ≡ false → not b ≡ false → (a && b) ≡ true
both_true a b x y = rw (not-false a x, not-false b y) refl

negated : (a : Bool) → a ≡ true → not a ≡ false
negated a e = ap not e

-- of pairs without a fault each may stand behind those before it
pub pair_fits : (earlier : List Pair) (pair : Pair) (later : List Pair) → pairs_fault (earlier ++ pair ∷ later) ≡ None → FitsBehind earlier pair
pair_fits earlier pair later e =
    let are = are_kept (earlier ++ pair ∷ later) e in
    let count = length-append earlier (pair ∷ later) in
    let sum = overall-append earlier (pair ∷ later) in
    let own = overall-cons pair later in
    let names = all_parts (λ pair. not (is_pair_name pair.0) ≡ false) earlier (pair ∷ later) are.names in
    let values = all_parts (λ pair. not (is_pair_value pair.1) ≡ false) earlier (pair ∷ later) are.values in
    record {
      few = omega (arith, are.few, count);
      form = both_true (is_pair_name pair.0) (is_pair_value pair.1) names.1.0 values.1.0;
      small = omega (arith, are.small, sum, own);
      new = (kept (has_name earlier pair.0) (0 + length earlier) _ (repeat_parts [] 0 earlier (pair ∷ later) are.differ).1).0;
    }

-- a pair that may stand behind pairs without a fault gives them none
pub kept_behind : (earlier : List Pair) (pair : Pair) → pairs_fault earlier ≡ None → FitsBehind earlier pair → pairs_fault (earlier ++ pair ∷ []) ≡ None
kept_behind earlier pair e fits =
    let are = are_kept earlier e in
    let count = length-append earlier (pair ∷ []) in
    let sum = overall-append earlier (pair ∷ []) in
    let own = overall-cons pair [] in
    let form = and_parts (is_pair_name pair.0) (is_pair_value pair.1) fits.form in
    kept_pairs (earlier ++ pair ∷ []) (record {
      few = omega (arith, fits.few, count);
      names = all_joined (λ pair. not (is_pair_name pair.0) ≡ false) earlier (pair ∷ []) are.names (negated (is_pair_name pair.0) form.0, tt);
      values = all_joined (λ pair. not (is_pair_value pair.1) ≡ false) earlier (pair ∷ []) are.values (negated (is_pair_value pair.1) form.1, tt);
      small = omega (arith, fits.small, sum, own);
      differ = repeat_joined [] 0 earlier (pair ∷ []) are.differ (passed (has_name earlier pair.0) (0 + length earlier) _ fits.new refl);
    })
