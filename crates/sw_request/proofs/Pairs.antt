-- Pairs of metadata, one field after the other.
use Rattle.std.proofs.Common.{◌≡◌, ◌≤◌, ◌<◌, ◌+◌, ℕ, suc, min, Bool, true, false, cond, not, nat_lt, ltb, ltb-true, ltb-false, if◌then◌else◌, List, [], ◌∷◌, ◌++◌, length, take, drop, get_or, set, fold, filter_map, position, codes, Option, Some, None, refl, sym, ap, ◌∙◌, arith, one-add}
use Rattle.std.specs.List.{position_or_len}
use Rattle.std.specs.Str.{bytes_eq, str_eq_ignore_ascii_case, str_to_ascii_lowercase}
use Rattle.std.proofs.lemmas.List.{drop_min, take_min, take_more}
use Rattle.std.proofs.lemmas.List.Elements.{filter_map-append}
use Rattle.std.proofs.lemmas.List.Sums.{fold-append}
use Rattle.sw_types.specs.Head.{Pair}
use Rattle.sw_request.specs.Fields.{Field}
use Rattle.sw_request.specs.Metadata.{pair_of, prefix, set_pair}

-- ---- a pair that a field tells

pub other_field : (field : Field) (front : List ℕ) → front ≡ take (min 14 (length field.0)) field.0 → str_eq_ignore_ascii_case front prefix ≡ false → None ≡ pair_of field
other_field field front is other =
    sym (ap (λ (b : Bool). if b then Some (str_to_ascii_lowercase (drop 14 field.0), field.1) else None) (ap (λ (t : List ℕ). str_eq_ignore_ascii_case t prefix) (sym (is ∙ take_min 14 field.0)) ∙ other))

-- ---- the pairs of some fields

pub pairs_more : (fields : List Field) (i : ℕ) (field : Field) (pairs more : List Pair) → i < length fields → field ≡ get_or fields i field → pairs ≡ fold set_pair [] (filter_map pair_of (take i fields))
    → more ≡ fold set_pair pairs (filter_map pair_of (field ∷ [])) → more ≡ fold set_pair [] (filter_map pair_of (take (i + 1) fields))
pairs_more fields i field pairs more within is before next =
    let front : List Field = take i fields in
    let step : take (i + 1) fields ≡ front ++ field ∷ [] = take_more fields i field within ∙ ap (λ (f : Field). take i fields ++ f ∷ []) (sym is) in
    next ∙ ap (λ (p : List Pair). fold set_pair p (filter_map pair_of (field ∷ []))) before
    ∙ sym (fold-append set_pair [] (filter_map pair_of (take i fields)) (filter_map pair_of (field ∷ [])))
    ∙ ap (fold set_pair []) (sym (filter_map-append pair_of (take i fields) (field ∷ [])) ∙ ap (filter_map pair_of) (sym step))

-- ---- a pair in the place of one with its name, or behind all

abbrev pub has_name : List ℕ → Pair → Bool
has_name name pair = bytes_eq pair.0 name

abbrev place : List ℕ → List Pair → ℕ
place name pairs = position_or_len (has_name name) pairs

there_step : (test : Bool) (first pair : Pair) (pairs rest : List Pair) (n : ℕ) → (n < length pairs → rest ≡ set pairs n pair) → cond (not test) (1 + n) 0 < suc (length pairs)
    → (if test then pair ∷ pairs else first ∷ rest) ≡ set (first ∷ pairs) (cond (not test) (1 + n) 0) pair
there_step true first pair pairs rest n more within = refl
there_step false first pair pairs rest n more within = rw one-add (ap (λ (l : List Pair). first ∷ l) (more (omega (arith, within))))

there : (pairs : List Pair) (pair : Pair) → place pair.0 pairs < length pairs → set_pair pairs pair ≡ set pairs (place pair.0 pairs) pair
there [] pair within = absurd (omega (arith, within))
there (first ∷ pairs) pair within = there_step (has_name pair.0 first) first pair pairs (set_pair pairs pair) (place pair.0 pairs) (there pairs pair) within

new_step : (test : Bool) (first pair : Pair) (pairs rest : List Pair) (n : ℕ) → (length pairs ≤ n → rest ≡ pairs ++ pair ∷ []) → suc (length pairs) ≤ cond (not test) (1 + n) 0
    → (if test then pair ∷ pairs else first ∷ rest) ≡ (first ∷ pairs) ++ pair ∷ []
new_step true first pair pairs rest n more past = absurd (omega (arith, past))
new_step false first pair pairs rest n more past = ap (λ (l : List Pair). first ∷ l) (more (omega (arith, past)))

new : (pairs : List Pair) (pair : Pair) → length pairs ≤ place pair.0 pairs → set_pair pairs pair ≡ pairs ++ pair ∷ []
new [] pair past = refl
new (first ∷ pairs) pair past = new_step (has_name pair.0 first) first pair pairs (set_pair pairs pair) (place pair.0 pairs) (new pairs pair) past

found_at : (n long at : ℕ) (test : Bool) → ltb n long ≡ test → cond test (Some n) None ≡ Some at → (n < long) × (n ≡ at)
found_at n long at true is found = (ltb-true n long is, cc)
found_at n long at false is found = absurd (cc)

found_none : (n long : ℕ) (test : Bool) → ltb n long ≡ test → cond test (Some n) None ≡ None → long ≤ n
found_none n long true is none = absurd (cc)
found_none n long false is none = ltb-false n long is

pub set_at_place : (pairs : List Pair) (pair : Pair) (at : ℕ) → position (has_name pair.0) pairs ≡ Some at → set_pair pairs pair ≡ set pairs at pair
set_at_place pairs pair at found =
    let here = found_at (place pair.0 pairs) (length pairs) at (ltb (place pair.0 pairs) (length pairs)) refl found in
    there pairs pair here.0 ∙ ap (λ (n : ℕ). set pairs n pair) here.1

pub set_behind : (pairs : List Pair) (pair : Pair) → position (has_name pair.0) pairs ≡ None → set_pair pairs pair ≡ pairs ++ pair ∷ []
set_behind pairs pair none = new pairs pair (found_none (place pair.0 pairs) (length pairs) (ltb (place pair.0 pairs) (length pairs)) refl none)
