-- Bytes are pairs that may stand in a head, or not.
use Rattle.std.proofs.Common.{◌≡◌, ◌≤◌, ◌<◌, ◌^◌, ℕ, ◌+◌, ◌-◌, ◌==◌, ◌&&◌, not, nat_eq, Bool, MatchBool, eq-eqb, eqb-true, get_or, true, false, cond, List, [], ◌∷◌, ◌++◌, length, take, drop, slice_index, append_assoc, Some, None, refl, sym, ap, ap₂, subst, ◌∙◌, arith, drop_at, take_at}
use Rattle.std.specs.Int.{w16, to_be_bytes, from_be_bytes}
use Rattle.std.specs.Cmp.Lexicographic.{pointwise}
use Rattle.std.specs.List.{flat_map, list_any}
use Rattle.std.specs.Option.{option_or}
use Rattle.std.proofs.lemmas.List.{append-nil, drop_more, length_push}
use Rattle.std.proofs.lemmas.List.Elements.{All-from_recursion}
use Rattle.std.proofs.lemmas.Nat.{from_be_bytes-to_be_bytes_2}
use Rattle.sw_words.proofs.Rules.{neither}
use Rattle.sw_types.specs.Head.{FitsBehind, HeadModel, Pair, greatest_overall, greatest_pairs, head_fault, is_content_type, is_pair_name, is_pair_value, pairs_fault}
use Rattle.sw_types.specs.declared.head.HeadFault.TheVariants.{ContentType}
use Rattle.sw_types.proofs.HeadForms.{kept_behind, overall_push, pair_fits}
use Rattle.sw_archive.specs.Pairs.{AreAtFront, AreFaultless, ArePairs, IsHeadText, behind_name, behind_pair, first_pair, pairs_in, value_length}
use Rattle.sw_archive.specs.Parts.{AreShort, IsHead, pair_bytes}
use Rattle.sw_archive.proofs.Heads.{behind_content, head_rest, no_pairs, one_pair, pairs_push, same_pairs, small, wanted}

abbrev head_of : List ℕ → List Pair → HeadModel
head_of content_type pairs = record { content_type = content_type; pairs = pairs }

-- ---- the pairs that bytes spell

module _ (pair : Pair) (rest : List ℕ) (short : length pair.1 < 2 ^ 16) where
  regrouped : pair_bytes pair ++ rest ≡ length pair.0 ∷ (pair.0 ++ (to_be_bytes w16 (length pair.1) ++ (pair.1 ++ rest)))
  regrouped = simp append_assoc

  name_at : take (slice_index (pair_bytes pair ++ rest) 0) (drop 1 (pair_bytes pair ++ rest)) ≡ pair.0
  name_at = ap (λ (t : List ℕ). take (slice_index t 0) (drop 1 t)) regrouped ∙ take_at pair.0 _ (length pair.0) refl

  value_behind : behind_name (pair_bytes pair ++ rest) ≡ to_be_bytes w16 (length pair.1) ++ (pair.1 ++ rest)
  value_behind = ap behind_name regrouped ∙ drop_at pair.0 _ (length pair.0) refl

  value_long : value_length (pair_bytes pair ++ rest) ≡ length pair.1
  value_long =
      ap (λ (t : List ℕ). from_be_bytes w16 (take 2 t)) value_behind
      ∙ ap (from_be_bytes w16) (take_at (to_be_bytes w16 (length pair.1)) (pair.1 ++ rest) 2 refl) ∙ from_be_bytes-to_be_bytes_2 (length pair.1) short

  after_length : drop 2 (behind_name (pair_bytes pair ++ rest)) ≡ pair.1 ++ rest
  after_length = ap (drop 2) value_behind ∙ drop_at (to_be_bytes w16 (length pair.1)) (pair.1 ++ rest) 2 refl

  first_is : first_pair (pair_bytes pair ++ rest) ≡ pair
  unfolding first_pair
  first_is =
      ap₂ (λ (name value : List ℕ). (name, value)) name_at
      (ap₂ (λ (n : ℕ) (t : List ℕ). take n t) value_long after_length ∙ take_at pair.1 rest (length pair.1) refl)

  behind_is : behind_pair (pair_bytes pair ++ rest) ≡ rest
  unfolding behind_pair
  behind_is = ap₂ (λ (n : ℕ) (t : List ℕ). drop n t) value_long after_length ∙ drop_at pair.1 rest (length pair.1) refl

pairs_spelled : (pairs : List Pair) (rest : List ℕ) → AreShort pairs → pairs_in (length pairs) (flat_map pair_bytes pairs ++ rest) ≡ pairs
unfolding pairs_in
pairs_spelled [] rest short = refl
pairs_spelled (pair ∷ pairs) rest short =
    let split : flat_map pair_bytes (pair ∷ pairs) ++ rest ≡ pair_bytes pair ++ (flat_map pair_bytes pairs ++ rest) = append_assoc (pair_bytes pair) (flat_map pair_bytes pairs) rest in
    ap (λ (t : List ℕ). first_pair t ∷ pairs_in (length pairs) (behind_pair t)) split
    ∙ ap₂ (λ (first : Pair) (t : List ℕ). first ∷ pairs_in (length pairs) t) (first_is pair (flat_map pair_bytes pairs ++ rest) short.0) (behind_is pair (flat_map pair_bytes pairs ++ rest) short.0)
    ∙ ap (λ (others : List Pair). pair ∷ others) (pairs_spelled pairs rest short.1)

pub pairs_at_front : (bytes : List ℕ) (count : ℕ) (pairs : List Pair) (rest : List ℕ) → bytes ≡ flat_map pair_bytes pairs ++ rest → length pairs ≡ count → AreShort pairs → pairs_in count bytes ≡ pairs
pairs_at_front bytes count pairs rest e counted short =
    ap₂ (λ (n : ℕ) (t : List ℕ). pairs_in n t) (sym counted) e ∙ pairs_spelled pairs rest short

-- ---- pairs without a fault

pub head_rules : (head : HeadModel) → is_content_type head.content_type ≡ true → pairs_fault head.pairs ≡ None → head_fault head ≡ None
head_rules head content rules = ap (λ (b : Bool). option_or (cond b None (Some ContentType)) (pairs_fault head.pairs)) content ∙ rules

-- their values' lengths fit two bytes
faultless_short : (pairs : List Pair) → pairs_fault pairs ≡ None → AreShort pairs
faultless_short pairs rules =
    let head : HeadModel = record { content_type = 97 ∷ []; pairs = pairs } in
    (small head (head_rules head refl rules)).short

pub whole : (bytes : List ℕ) (count : ℕ) (pairs : List Pair) → ArePairs bytes count pairs → ArePairs bytes count (pairs_in count bytes)
whole bytes count pairs are =
    subst (ArePairs bytes count) (sym (pairs_at_front bytes count pairs [] (are.spelled ∙ sym (append-nil _)) are.counted (faultless_short pairs are.rules))) are

-- none yet
pub faultless_none : (bytes : List ℕ) → AreFaultless bytes 0 greatest_overall [] bytes
unfolding pairs_fault
faultless_none bytes = record { split = refl; counted = refl; left = refl; rules = refl }

-- one more
pub faultless_more : (bytes : List ℕ) (count room : ℕ) (pairs : List Pair) (rest : List ℕ) (pair : Pair) (after : List ℕ) → AreFaultless bytes count room pairs rest
    → rest ≡ pair_bytes pair ++ after → FitsBehind pairs pair → (left : ℕ) → left + (length pair.0 + length pair.1) ≡ room → AreFaultless bytes (count + 1) left (pairs ++ pair ∷ []) after
faultless_more bytes count room pairs rest pair after are e fits left room_is = record {
  split = pairs_push pairs pair bytes rest after are.split e;
  counted = length_push pairs pair ∙ omega (arith, are.counted);
  left = omega (arith, overall_push pairs pair, are.left, room_is);
  rules = kept_behind pairs pair are.rules fits;
}

-- the room for one that fits
pub fits_room : (bytes : List ℕ) (count room : ℕ) (pairs : List Pair) (rest : List ℕ) (pair : Pair) → AreFaultless bytes count room pairs rest → FitsBehind pairs pair → length pair.0 + length pair.1 ≤ room
fits_room bytes count room pairs rest pair are fits = omega (arith, are.left, fits.small)

not-true : (b : Bool) → not b ≡ true → b ≡ false
not-true true e = absurd (cc)
not-true false e = refl

-- a pair in form for which there is room fits where its name is new
pub fits_where_new : (old : Bool) (bytes : List ℕ) (count room : ℕ) (pairs : List Pair) (rest : List ℕ) (pair : Pair) → AreFaultless bytes count room pairs rest → count < greatest_pairs
    → length pair.0 ≤ room → length pair.1 ≤ room - length pair.0 → (is_pair_name pair.0 && is_pair_value pair.1) ≡ true → old ≡ list_any (λ other. pointwise nat_eq other.0 pair.0) pairs
    → (not old ≡ true → FitsBehind pairs pair) × (FitsBehind pairs pair → not old ≡ true)
fits_where_new old bytes count room pairs rest pair are few name_small value_small form is = (
  λ new. record { few = omega (arith, are.counted, few); form = form; small = omega (arith, are.left, name_small, value_small); new = sym is ∙ not-true old new },
  λ fits. ap not (is ∙ fits.new),
)

-- where there is no further pair, there are no more
pub none_further : (bytes : List ℕ) (total count room : ℕ) (got : List Pair) (rest : List ℕ) (pairs : List Pair) → AreFaultless bytes count room got rest → count < total
    → ((pair : Pair) (after : List ℕ) → length pair.1 < 2 ^ 16 → rest ≡ pair_bytes pair ++ after → ⊥) → ArePairs bytes total pairs → ⊥
none_further bytes total count room got rest pairs are below none is =
    no_pairs got pairs bytes rest [] are.split (faultless_short got are.rules) (omega (arith, are.counted, is.counted, below)) (faultless_short pairs is.rules) (is.spelled ∙ sym (append-nil _)) none

-- the pair behind those that were read is the next
next : (got pairs : List Pair) (bytes rest tail : List ℕ) (pair : Pair) (after : List ℕ) → bytes ≡ flat_map pair_bytes got ++ rest → AreShort got → rest ≡ pair_bytes pair ++ after → length pair.1 < 2 ^ 16
    → length got < length pairs → AreShort pairs → bytes ≡ flat_map pair_bytes pairs ++ tail → (later : List Pair) × (pairs ≡ got ++ pair ∷ later)
next got [] bytes rest tail pair after e got_short is pair_short fewer short whole = absurd (omega (arith, fewer))
next [] (p ∷ ps) bytes rest tail pair after e got_short is pair_short fewer short whole =
    let both : pair_bytes pair ++ after ≡ pair_bytes p ++ (flat_map pair_bytes ps ++ tail) = sym is ∙ sym e ∙ whole ∙ append_assoc (pair_bytes p) (flat_map pair_bytes ps) tail in
    (ps, ap (λ (x : Pair). x ∷ ps) (sym (one_pair pair p after _ pair_short short.0 both).0))
next (g ∷ gs) (p ∷ ps) bytes rest tail pair after e got_short is pair_short fewer short whole =
    let both : pair_bytes g ++ (flat_map pair_bytes gs ++ rest) ≡ pair_bytes p ++ (flat_map pair_bytes ps ++ tail) =
    sym (append_assoc (pair_bytes g) (flat_map pair_bytes gs) rest) ∙ sym e ∙ whole ∙ append_assoc (pair_bytes p) (flat_map pair_bytes ps) tail in
    let heads = one_pair g p _ _ got_short.0 short.0 both in
    let others = next gs ps (flat_map pair_bytes gs ++ rest) rest tail pair after refl got_short.1 is pair_short (omega (arith, fewer)) short.1 heads.1 in
    (others.0, ap₂ (λ (x : Pair) (xs : List Pair). x ∷ xs) (sym heads.0) others.1)

-- it fits behind them
pub next_fits : (bytes : List ℕ) (total count room : ℕ) (got : List Pair) (rest : List ℕ) (pairs : List Pair) (pair : Pair) (after : List ℕ) → AreFaultless bytes count room got rest → count < total
    → rest ≡ pair_bytes pair ++ after → length pair.1 < 2 ^ 16 → ArePairs bytes total pairs → FitsBehind got pair
next_fits bytes total count room got rest pairs pair after are below e pair_short is =
    let found = next got pairs bytes rest [] pair after are.split (faultless_short got are.rules) e pair_short (omega (arith, are.counted, is.counted, below)) (faultless_short pairs is.rules) (is.spelled ∙ sym (append-nil _)) in
    pair_fits got pair found.0 (ap pairs_fault (sym found.1) ∙ is.rules)

-- where all are read, nothing is left
pub all_read : (bytes : List ℕ) (count room : ℕ) (got : List Pair) (rest : List ℕ) (pairs : List Pair) → AreFaultless bytes count room got rest → ArePairs bytes count pairs → rest ≡ []
all_read bytes count room got rest pairs are is =
    (same_pairs got pairs rest [] (are.counted ∙ sym is.counted) (faultless_short got are.rules) (faultless_short pairs is.rules) (sym are.split ∙ is.spelled ∙ sym (append-nil _))).1

pub all_are : (bytes : List ℕ) (count room : ℕ) (got : List Pair) (rest : List ℕ) → AreFaultless bytes count room got rest → rest ≡ [] → ArePairs bytes count (pairs_in count bytes)
all_are bytes count room got rest are none =
    whole bytes count got (record { spelled = are.split ∙ ap (λ (t : List ℕ). flat_map pair_bytes got ++ t) none ∙ append-nil _; counted = are.counted; rules = are.rules })

pub at_front : (bytes : List ℕ) (count room : ℕ) (got : List Pair) (rest : List ℕ) → AreFaultless bytes count room got rest → AreAtFront bytes got rest
at_front bytes count room got rest are = record { split = are.split; short = faultless_short got are.rules }

empty : (xs : List ℕ) → length xs ≡ 0 → xs ≡ []
empty [] e = refl
empty (x ∷ xs) e = absurd (omega (arith, e))

-- what is left behind all of them decides
pub all_or_none : (is_empty : Bool) (bytes : List ℕ) (count room : ℕ) (got : List Pair) (rest : List ℕ) → AreFaultless bytes count room got rest → is_empty ≡ (length rest == 0)
    → MatchBool is_empty (ArePairs bytes count (pairs_in count bytes)) ((pairs : List Pair) → ArePairs bytes count pairs → ⊥)
all_or_none true bytes count room got rest are e = all_are bytes count room got rest are (empty rest (eqb-true (length rest) 0 (sym e)))
all_or_none false bytes count room got rest are e =
    λ pairs is. let none : (length rest == 0) ≡ true = eq-eqb (length rest) 0 (ap length (all_read bytes count room got rest pairs are is)) in absurd (cc (e, none))

-- ---- one pair after another

module _ (pairs : List Pair) (tail rest : List ℕ) (at : ℕ) (short : AreShort pairs) (below : at < length pairs) (spelled : rest ≡ flat_map pair_bytes (drop at pairs) ++ tail) where
  here_is : drop at pairs ≡ get_or pairs at ([], []) ∷ drop (at + 1) pairs
  here_is = drop_more pairs at ([], []) below

  here_short : length (get_or pairs at ([], [])).1 < 2 ^ 16
  here_short = All-from_recursion (λ (pair : Pair). length pair.1 < 2 ^ 16) pairs short at ([], []) below

  here_spelled : rest ≡ pair_bytes (get_or pairs at ([], [])) ++ (flat_map pair_bytes (drop (at + 1) pairs) ++ tail)
  here_spelled =
      spelled ∙ ap (λ (ps : List Pair). flat_map pair_bytes ps ++ tail) here_is ∙ append_assoc (pair_bytes (get_or pairs at ([], []))) (flat_map pair_bytes (drop (at + 1) pairs)) tail

  -- there is a further one
  pub is_further : ((pair : Pair) (after : List ℕ) → length pair.1 < 2 ^ 16 → rest ≡ pair_bytes pair ++ after → ⊥) → ⊥
  is_further none = none (get_or pairs at ([], [])) _ here_short here_spelled

  -- and what is read is that
  pub is_next : (pair : Pair) (after : List ℕ) → rest ≡ pair_bytes pair ++ after → length pair.1 < 2 ^ 16
      → (drop at pairs ≡ pair ∷ drop (at + 1) pairs) × (after ≡ flat_map pair_bytes (drop (at + 1) pairs) ++ tail)
  is_next pair after read pair_short =
      let one = one_pair pair (get_or pairs at ([], [])) after _ pair_short here_short (sym read ∙ here_spelled) in
      (here_is ∙ ap (λ (p : Pair). p ∷ drop (at + 1) pairs) (sym one.0), one.1)

-- ---- a head's bytes

rules_of : (head : HeadModel) → head_fault head ≡ None → (is_content_type head.content_type ≡ true) × (pairs_fault head.pairs ≡ None)
rules_of head e =
    let both = neither (cond (is_content_type head.content_type) None (Some ContentType)) (pairs_fault head.pairs) e in
    (wanted (is_content_type head.content_type) ContentType both.0, both.1)

-- bytes that are a head's have a content type and its pairs
pub head_parts : (bytes content_type tail : List ℕ) (count : ℕ) (pairs : List ℕ) (head : HeadModel) → bytes ≡ to_be_bytes w16 (length content_type) ++ (content_type ++ tail)
    → length content_type < 2 ^ 16 → tail ≡ count ∷ pairs → IsHead bytes head → (is_content_type content_type ≡ true) × ArePairs pairs count head.pairs
head_parts bytes content_type tail count pairs head e short counted is =
    let rest = head_rest bytes content_type tail count pairs head e short counted is in
    let rules = rules_of head is.rules in
    (ap is_content_type rest.content ∙ rules.0, record { spelled = rest.pairs ∙ append-nil _; counted = rest.number; rules = rules.1 })

-- and bytes that have these are a head's
pub parts_head : (bytes content_type tail : List ℕ) (count : ℕ) (pairs : List ℕ) → bytes ≡ to_be_bytes w16 (length content_type) ++ (content_type ++ tail) → tail ≡ count ∷ pairs
    → is_content_type content_type ≡ true → ArePairs pairs count (pairs_in count pairs) → IsHead bytes (record { content_type = content_type; pairs = pairs_in count pairs })
parts_head bytes content_type tail count pairs e counted content are =
    let head : HeadModel = record { content_type = content_type; pairs = pairs_in count pairs } in
    record {
      rules = head_rules head content are.rules;
      spelled = e ∙ ap (λ (t : List ℕ). to_be_bytes w16 (length content_type) ++ (content_type ++ t)) (counted ∙ ap₂ (λ (n : ℕ) (t : List ℕ). n ∷ t) (sym are.counted) are.spelled) ∙ sym (behind_content head);
    }

-- the head of a text
pub head_kept : (content_type : List ℕ) (count : ℕ) (bytes : List ℕ) → IsHeadText content_type count bytes → head_fault (record { content_type = content_type; pairs = pairs_in count bytes }) ≡ None
head_kept content_type count bytes is = head_rules (record { content_type = content_type; pairs = pairs_in count bytes }) is.content is.pairs.rules

-- its pairs can be read
pub pairs_there : (content_type : List ℕ) (count : ℕ) (bytes : List ℕ) → IsHeadText content_type count bytes
    → ((pairs : List Pair) (rest : List ℕ) → length pairs ≡ count → AreShort pairs → bytes ≡ flat_map pair_bytes pairs ++ rest → ⊥) → ⊥
pairs_there content_type count bytes is none = none (pairs_in count bytes) [] is.pairs.counted (faultless_short _ is.pairs.rules) (is.pairs.spelled ∙ sym (append-nil _))

-- a copy of it
pub same_head : (content_type : List ℕ) (count : ℕ) (bytes text : List ℕ) (pairs : List Pair) (rest : List ℕ) → text ≡ content_type → bytes ≡ flat_map pair_bytes pairs ++ rest → length pairs ≡ count → AreShort pairs
    → head_of text pairs ≡ head_of content_type (pairs_in count bytes)
same_head content_type count bytes text pairs rest copied e counted short = ap₂ head_of copied (sym (pairs_at_front bytes count pairs rest e counted short))
