-- Bytes are those of one head, or of none.
use Rattle.std.proofs.Common.{◌≡◌, ◌≤◌, ◌<◌, ◌^◌, ℕ, ◌+◌, ◌*◌, ◌&&◌, ◌⊎◌, Bool, true, false, cond, not, nat_lt, nat_le, List, [], ◌∷◌, ◌++◌, length, length-append, append_assoc, Option, Some, None, zero, suc, refl, sym, ap, ap₂, subst, ◌∙◌, inl, inr, arith, position}
use Rattle.std.specs.Int.{w16, to_be_bytes}
use Rattle.std.specs.List.{All, AllByRecursion, flat_map, list_all, position_from}
use Rattle.std.specs.Prelude.{option_map}
use Rattle.std.proofs.lemmas.Bool.{and_parts, cases_lt, ltb-false, not-false}
use Rattle.std.proofs.lemmas.List.{append-nil}
use Rattle.std.proofs.lemmas.List.Elements.{All-from_recursion}
use Rattle.std.proofs.lemmas.List.Sums.{sum_by-cons}
use Rattle.std.proofs.lemmas.Iterator.Adapters.{position_from-zero}
use Rattle.sw_words.specs.Bytes.{IsBytes}
use Rattle.sw_words.proofs.Rules.{kept, neither}
use Rattle.sw_types.specs.Head.{Pair, HeadModel, greatest_overall, greatest_pair_name, greatest_pairs, greatest_text, head_fault, is_content_type, is_name_byte, is_pair_name, is_pair_value, is_plain, overall, pairs_fault}
use Rattle.sw_types.specs.declared.head.HeadFault.TheVariants.{ContentType, TooManyPairs, PairName, PairValue, Overall}
use Rattle.sw_archive.specs.Parts.{AreShort, IsHead, head_bytes, pair_bytes}
use Rattle.sw_archive.proofs.Cuts.{cut, cut_16, front_of, number_16}
use Rattle.sw_archive.proofs.Paths.{none_or_some}

-- ---- what a head without a fault is like

no_position : {A B : Type 0} (fault : A → B) (found : Option A) → option_map fault found ≡ None → found ≡ None
no_position fault None e = refl
no_position fault (Some position) e = absurd (cc)

pub wanted : {A : Type 0} (keeps : Bool) (fault : A) → cond keeps None (Some fault) ≡ None → keeps ≡ true
wanted true fault e = refl
wanted false fault e = absurd (cc)

-- pairs of which none is odd
none_odd : (odd : Pair → Bool) (Fits : Pair → Type 0) → ((pair : Pair) → odd pair ≡ false → Fits pair) → (position : ℕ) (pairs : List Pair)
    → position_from odd position pairs ≡ None → AllByRecursion Fits pairs
none_odd odd Fits fits position [] e = tt
none_odd odd Fits fits position (pair ∷ pairs) e =
    let first = kept (odd pair) position _ e in (fits pair first.0, none_odd odd Fits fits (position + 1) pairs first.1)

name_short : (pair : Pair) → not (is_pair_name pair.0) ≡ false → length pair.0 < 2 ^ 8
name_short pair kept =
    let parts = and_parts (nat_lt 0 (length pair.0) && nat_le (length pair.0) greatest_pair_name) (list_all is_name_byte pair.0) (not-false _ kept) in
    let bounds = and_parts (nat_lt 0 (length pair.0)) (nat_le (length pair.0) greatest_pair_name) parts.0 in
    grind (arith, bounds.1)

value_short : (pair : Pair) → not (is_pair_value pair.1) ≡ false → length pair.1 < 2 ^ 16
value_short pair kept = let parts = and_parts (nat_le (length pair.1) greatest_text) (is_plain pair.1) (not-false _ kept) in grind (arith, parts.0)

pub record IsSmall (head : HeadModel) : Type 0 where
  pub content_type : length head.content_type ≤ greatest_text
  pub count : length head.pairs ≤ greatest_pairs
  pub names : AllByRecursion (λ pair. length pair.0 < 2 ^ 8) head.pairs
  pub short : AreShort head.pairs
  pub overall : overall head.pairs ≤ greatest_overall

pub small : (head : HeadModel) → head_fault head ≡ None → IsSmall head
unfolding pairs_fault
small head e =
    let first = neither (cond (is_content_type head.content_type) None (Some ContentType)) (pairs_fault head.pairs) e in
    let count = neither (cond (nat_lt greatest_pairs (length head.pairs)) (Some TooManyPairs) None) _ first.1 in
    let names = neither (option_map PairName (position (λ (pair : Pair). not (is_pair_name pair.0)) head.pairs)) _ count.1 in
    let values = neither (option_map PairValue (position (λ (pair : Pair). not (is_pair_value pair.1)) head.pairs)) _ names.1 in
    let all = neither (cond (nat_lt greatest_overall (overall head.pairs)) (Some Overall) None) _ values.1 in
    let content = and_parts (nat_lt 0 (length head.content_type) && nat_le (length head.content_type) greatest_text) (is_plain head.content_type) (wanted (is_content_type head.content_type) ContentType first.0) in
    let bounds = and_parts (nat_lt 0 (length head.content_type)) (nat_le (length head.content_type) greatest_text) content.0 in
    record {
      content_type = grind (arith, bounds.1);
      count = ltb-false _ _ (kept (nat_lt greatest_pairs (length head.pairs)) TooManyPairs None count.0).0;
      names = none_odd (λ (pair : Pair). not (is_pair_name pair.0)) (λ pair. length pair.0 < 2 ^ 8) name_short 0 head.pairs
          (sym (position_from-zero (λ (pair : Pair). not (is_pair_name pair.0)) head.pairs) ∙ no_position PairName _ names.0);
      short = none_odd (λ (pair : Pair). not (is_pair_value pair.1)) (λ pair. length pair.1 < 2 ^ 16) value_short 0 head.pairs
          (sym (position_from-zero (λ (pair : Pair). not (is_pair_value pair.1)) head.pairs) ∙ no_position PairValue _ values.0);
      overall = ltb-false _ _ (kept (nat_lt greatest_overall (overall head.pairs)) Overall None all.0).0;
    }

-- its pairs' lengths fit their bytes
pub pairs_fit : (head : HeadModel) → head_fault head ≡ None → All (λ (pair : Pair). (length pair.0 < 2 ^ 8) × (length pair.1 < 2 ^ 16)) head.pairs
pairs_fit head e =
    let s = small head e in
    let names = All-from_recursion (λ (pair : Pair). length pair.0 < 2 ^ 8) head.pairs s.names in
    let values = All-from_recursion (λ (pair : Pair). length pair.1 < 2 ^ 16) head.pairs s.short in
    λ position d below. (names position d below, values position d below)

-- ---- how long its bytes are

length-pairs : (pairs : List Pair) → length (flat_map pair_bytes pairs) ≡ 3 * length pairs + overall pairs
length-pairs [] = refl
length-pairs (pair ∷ pairs) =
    let sum : overall (pair ∷ pairs) ≡ (length pair.0 + length pair.1) + overall pairs = sum_by-cons _ pair pairs in
    let bytes : length (flat_map pair_bytes (pair ∷ pairs)) ≡ (3 + length pair.0 + length pair.1) + length (flat_map pair_bytes pairs) = simp length-append (omega arith) in
    omega (arith, sum, bytes, length-pairs pairs)

pub length-head : (head : HeadModel) → head_fault head ≡ None → length (head_bytes head) < 2 ^ 16
length-head head e = let s = small head e in simp length-append (omega (arith, s.content_type, s.count, s.overall, length-pairs head.pairs))

-- ---- bytes that begin with pairs

pub same_pair : (a b : Pair) → a.0 ≡ b.0 → a.1 ≡ b.1 → a ≡ b
same_pair a b name value = ap (λ (text : List ℕ). (text, a.1)) name ∙ ap (λ (text : List ℕ). (b.0, text)) value

pub one_pair : (a b : Pair) (x y : List ℕ) → length a.1 < 2 ^ 16 → length b.1 < 2 ^ 16 → pair_bytes a ++ x ≡ pair_bytes b ++ y → (a ≡ b) × (x ≡ y)
one_pair a b x y a_short b_short e =
    let whole : length a.0 ∷ (a.0 ++ (to_be_bytes w16 (length a.1) ++ (a.1 ++ x))) ≡ length b.0 ∷ (b.0 ++ (to_be_bytes w16 (length b.1) ++ (b.1 ++ y))) = simp append_assoc at e in
    let count : length a.0 ≡ length b.0 = cc in
    let rest : a.0 ++ (to_be_bytes w16 (length a.1) ++ (a.1 ++ x)) ≡ b.0 ++ (to_be_bytes w16 (length b.1) ++ (b.1 ++ y)) = cc in
    let name = cut a.0 b.0 _ _ count rest in
    let number = cut_16 (length a.1) (length b.1) _ _ a_short b_short name.1 in
    let value = cut a.1 b.1 x y number.0 number.1 in
    (same_pair a b name.0 value.0, value.1)

-- as many pairs
pub same_pairs : (a b : List Pair) (x y : List ℕ) → length a ≡ length b → AreShort a → AreShort b → flat_map pair_bytes a ++ x ≡ flat_map pair_bytes b ++ y → (a ≡ b) × (x ≡ y)
same_pairs [] [] x y count a_short b_short e = (refl, e)
same_pairs [] (q ∷ qs) x y count a_short b_short e = absurd (omega (arith, count))
same_pairs (p ∷ ps) [] x y count a_short b_short e = absurd (omega (arith, count))
same_pairs (p ∷ ps) (q ∷ qs) x y count a_short b_short e =
    let whole : pair_bytes p ++ (flat_map pair_bytes ps ++ x) ≡ pair_bytes q ++ (flat_map pair_bytes qs ++ y) = sym (append_assoc (pair_bytes p) (flat_map pair_bytes ps) x) ∙ e ∙ append_assoc (pair_bytes q) (flat_map pair_bytes qs) y in
    let heads = one_pair p q _ _ a_short.0 b_short.0 whole in
    let tails = same_pairs ps qs x y (omega (arith, count)) a_short.1 b_short.1 heads.1 in
    let first : p ≡ q = heads.0 in
    let others : ps ≡ qs = tails.0 in
    (cc, tails.1)

-- ---- a pair is read

pub no_pair : (bytes name rest : List ℕ) (pair : Pair) (tail : List ℕ) → bytes ≡ length name ∷ (name ++ rest)
    → ((text after : List ℕ) → length text < 2 ^ 16 → rest ≡ to_be_bytes w16 (length text) ++ (text ++ after) → ⊥)
    → length pair.1 < 2 ^ 16 → bytes ≡ pair_bytes pair ++ tail → ⊥
no_pair bytes name rest pair tail e none short is =
    let regrouped : pair_bytes pair ++ tail ≡ length pair.0 ∷ (pair.0 ++ (to_be_bytes w16 (length pair.1) ++ (pair.1 ++ tail))) = simp append_assoc in
    let whole : length name ∷ (name ++ rest) ≡ length pair.0 ∷ (pair.0 ++ (to_be_bytes w16 (length pair.1) ++ (pair.1 ++ tail))) = sym e ∙ is ∙ regrouped in
    let count : length name ≡ length pair.0 = cc in
    let after : name ++ rest ≡ pair.0 ++ (to_be_bytes w16 (length pair.1) ++ (pair.1 ++ tail)) = cc in
    none pair.1 tail short (cut name pair.0 rest _ count after).1

-- where there is no further pair, there are no more than were read
pub no_pairs : (got pairs : List Pair) (bytes rest tail : List ℕ) → bytes ≡ flat_map pair_bytes got ++ rest → AreShort got → length got < length pairs → AreShort pairs
    → bytes ≡ flat_map pair_bytes pairs ++ tail → ((pair : Pair) (after : List ℕ) → length pair.1 < 2 ^ 16 → rest ≡ pair_bytes pair ++ after → ⊥) → ⊥
no_pairs got [] bytes rest tail e got_short fewer short is none = absurd (omega (arith, fewer))
no_pairs [] (p ∷ ps) bytes rest tail e got_short fewer short is none = none p (flat_map pair_bytes ps ++ tail) short.0 (sym e ∙ is ∙ append_assoc (pair_bytes p) (flat_map pair_bytes ps) tail)
no_pairs (g ∷ gs) (p ∷ ps) bytes rest tail e got_short fewer short is none =
    let whole : pair_bytes g ++ (flat_map pair_bytes gs ++ rest) ≡ pair_bytes p ++ (flat_map pair_bytes ps ++ tail) = sym (append_assoc (pair_bytes g) (flat_map pair_bytes gs) rest) ∙ sym e ∙ is ∙ append_assoc (pair_bytes p) (flat_map pair_bytes ps) tail in
    let heads = one_pair g p _ _ got_short.0 short.0 whole in
    no_pairs gs ps (flat_map pair_bytes gs ++ rest) rest tail refl got_short.1 (omega (arith, fewer)) short.1 heads.1 none

-- one pair more
pub AreShort-push : (pairs : List Pair) (pair : Pair) → AreShort pairs → length pair.1 < 2 ^ 16 → AreShort (pairs ++ pair ∷ [])
AreShort-push [] pair short one = (one, tt)
AreShort-push (p ∷ pairs) pair short one = (short.0, AreShort-push pairs pair short.1 one)

pub pairs_push : (pairs : List Pair) (pair : Pair) (bytes rest after : List ℕ) → bytes ≡ flat_map pair_bytes pairs ++ rest → rest ≡ pair_bytes pair ++ after
    → bytes ≡ flat_map pair_bytes (pairs ++ pair ∷ []) ++ after
pairs_push [] pair bytes rest after e is = e ∙ is ∙ ap (λ (t : List ℕ). t ++ after) (sym (append-nil (pair_bytes pair)))
pairs_push (p ∷ pairs) pair bytes rest after e is =
    e ∙ append_assoc (pair_bytes p) (flat_map pair_bytes pairs) rest
    ∙ ap (λ (t : List ℕ). pair_bytes p ++ t) (pairs_push pairs pair (flat_map pair_bytes pairs ++ rest) rest after refl is)
    ∙ sym (append_assoc (pair_bytes p) (flat_map pair_bytes (pairs ++ pair ∷ [])) after)

-- ---- a head is read

-- what a content type and a count leave of a head's bytes
pub record HeadRest (head : HeadModel) (content_type : List ℕ) (count : ℕ) (rest : List ℕ) : Type 0 where
  pub content : content_type ≡ head.content_type
  pub number : length head.pairs ≡ count
  pub pairs : rest ≡ flat_map pair_bytes head.pairs ++ []
  pub short : AreShort head.pairs

pub head_rest : (bytes content_type tail : List ℕ) (count : ℕ) (rest : List ℕ) (head : HeadModel) → bytes ≡ to_be_bytes w16 (length content_type) ++ (content_type ++ tail)
    → length content_type < 2 ^ 16 → tail ≡ count ∷ rest → IsHead bytes head → HeadRest head content_type count rest
head_rest bytes content_type tail count rest head e short counted is =
    let s = small head is.rules in
    let whole : to_be_bytes w16 (length content_type) ++ (content_type ++ tail) ≡ to_be_bytes w16 (length head.content_type) ++ (head.content_type ++ (length head.pairs ∷ (flat_map pair_bytes head.pairs ++ []))) =
    sym e ∙ is.spelled ∙ simp (append_assoc, append-nil) in
    let number = cut_16 (length content_type) (length head.content_type) _ _ short (omega (arith, s.content_type)) whole in
    let content = cut content_type head.content_type _ _ number.0 number.1 in
    let behind : count ∷ rest ≡ length head.pairs ∷ (flat_map pair_bytes head.pairs ++ []) = sym counted ∙ content.1 in
    record { content = content.0; number = cc; pairs = cc; short = s.short }

pub head_only : (content_type : List ℕ) (got : List Pair) (count : ℕ) (rest after : List ℕ) (head : HeadModel) → HeadRest head content_type count rest
    → rest ≡ flat_map pair_bytes got ++ after → length got ≡ count → AreShort got → (head ≡ record { content_type = content_type; pairs = got }) × (after ≡ [])
head_only content_type got count rest after head h e counted short =
    let pairs = same_pairs got head.pairs after [] (counted ∙ sym h.number) short h.short (sym e ∙ h.pairs) in
    (ap (λ (x : List ℕ). record { content_type = x; pairs = head.pairs }) (sym h.content) ∙ ap (λ (x : List Pair). record { content_type = content_type; pairs = x }) (sym pairs.0), pairs.1)

-- heads that have one spelling are equal
pub one_head : (a b : HeadModel) → head_fault a ≡ None → head_fault b ≡ None → head_bytes a ≡ head_bytes b → a ≡ b
one_head a b a_rules b_rules e =
    let s = small b b_rules in
    let spelled : head_bytes a ≡ to_be_bytes w16 (length b.content_type) ++ (b.content_type ++ (length b.pairs ∷ flat_map pair_bytes b.pairs)) = e ∙ append_assoc (to_be_bytes w16 (length b.content_type)) b.content_type _ in
    let rest = head_rest (head_bytes a) b.content_type _ (length b.pairs) (flat_map pair_bytes b.pairs) a spelled (omega (arith, s.content_type)) refl (record { rules = a_rules; spelled = refl }) in
    (head_only b.content_type b.pairs (length b.pairs) (flat_map pair_bytes b.pairs) [] a rest (sym (append-nil (flat_map pair_bytes b.pairs))) refl s.short).0

-- ---- whether bytes are a head's

-- a text behind its length in two bytes
record Text (bytes : List ℕ) : Type 0 where
  text : List ℕ
  rest : List ℕ
  split : bytes ≡ to_be_bytes w16 (length text) ++ (text ++ rest)
  short : length text < 2 ^ 16
  rest_bytes : IsBytes rest

text_or_none : (bytes : List ℕ) → IsBytes bytes → Text bytes ⊎ ((text rest : List ℕ) → length text < 2 ^ 16 → bytes ≡ to_be_bytes w16 (length text) ++ (text ++ rest) → ⊥)
text_or_none bytes are = elim (cases_lt (length bytes) 2) [
  | inl few ↦ inr (λ text rest short e.
      let two : length (to_be_bytes w16 (length text)) ≡ 2 = refl in
      omega (arith, few, ap length e, length-append (to_be_bytes w16 (length text)) (text ++ rest), two))
  | inr enough ↦
      let count = number_16 bytes enough are in
      elim (cases_lt (length count.rest) count.number) [
        | inl few ↦ inr (λ text rest short e.
            let same = cut_16 count.number (length text) count.rest (text ++ rest) count.fits short (sym count.split ∙ e) in
            omega (arith, few, same.0, ap length same.1, length-append text rest))
        | inr long ↦
            let taken = front_of count.number count.rest long count.rest_bytes in
            inl (record {
              text = taken.front;
              rest = taken.rest;
              split = count.split ∙ ap (λ n. to_be_bytes w16 n ++ count.rest) (sym taken.long) ∙ ap (λ t. to_be_bytes w16 (length taken.front) ++ t) taken.split;
              short = omega (arith, taken.long, count.fits);
              rest_bytes = taken.rest_bytes;
            })
      ]
]

-- a text behind its length in one
record ShortText (bytes : List ℕ) : Type 0 where
  text : List ℕ
  rest : List ℕ
  split : bytes ≡ length text ∷ (text ++ rest)
  rest_bytes : IsBytes rest

short_text_or_none : (bytes : List ℕ) → IsBytes bytes → ShortText bytes ⊎ ((text rest : List ℕ) → bytes ≡ length text ∷ (text ++ rest) → ⊥)
short_text_or_none [] are = inr (λ text rest e. absurd (cc))
short_text_or_none (count ∷ bytes) are = elim (cases_lt (length bytes) count) [
  | inl few ↦ inr (λ text rest e.
      let number : count ≡ length text = cc in
      let behind : bytes ≡ text ++ rest = cc in
      omega (arith, few, number, ap length behind, length-append text rest))
  | inr long ↦
      let taken = front_of count bytes long (λ position. are (suc position)) in
      inl (record { text = taken.front; rest = taken.rest; split = ap₂ (λ n t. n ∷ t) (sym taken.long) taken.split; rest_bytes = taken.rest_bytes })
]

-- a pair at the front of bytes
record FrontPair (bytes : List ℕ) : Type 0 where
  pair : Pair
  rest : List ℕ
  split : bytes ≡ pair_bytes pair ++ rest
  short : length pair.1 < 2 ^ 16
  rest_bytes : IsBytes rest

pair_or_none : (bytes : List ℕ) → IsBytes bytes → FrontPair bytes ⊎ ((pair : Pair) (rest : List ℕ) → length pair.1 < 2 ^ 16 → bytes ≡ pair_bytes pair ++ rest → ⊥)
pair_or_none bytes are = elim (short_text_or_none bytes are) [
  | inr none ↦ inr (λ pair rest short e. none pair.0 (to_be_bytes w16 (length pair.1) ++ (pair.1 ++ rest)) (e ∙ simp append_assoc))
  | inl name ↦ elim (text_or_none name.rest name.rest_bytes) [
    | inr none ↦ inr (λ pair rest short e. no_pair bytes name.text name.rest pair rest name.split none short e)
    | inl value ↦ inl (record {
      pair = (name.text, value.text);
      rest = value.rest;
      split = name.split ∙ ap (λ t. length name.text ∷ (name.text ++ t)) value.split ∙ simp append_assoc;
      short = value.short;
      rest_bytes = value.rest_bytes;
    })
  ]
]

-- so many pairs at the front of bytes
record FrontPairs (count : ℕ) (bytes : List ℕ) : Type 0 where
  pairs : List Pair
  rest : List ℕ
  split : bytes ≡ flat_map pair_bytes pairs ++ rest
  counted : length pairs ≡ count
  short : AreShort pairs

abbrev NoPairs : ℕ → List ℕ → Type 0
NoPairs count bytes = (pairs : List Pair) (rest : List ℕ) → length pairs ≡ count → AreShort pairs → bytes ≡ flat_map pair_bytes pairs ++ rest → ⊥

no_first_pair : (count : ℕ) (bytes : List ℕ) → ((pair : Pair) (rest : List ℕ) → length pair.1 < 2 ^ 16 → bytes ≡ pair_bytes pair ++ rest → ⊥) → NoPairs (suc count) bytes
no_first_pair count bytes none [] rest counted short e = absurd (omega (arith, counted))
no_first_pair count bytes none (p ∷ ps) rest counted short e = none p (flat_map pair_bytes ps ++ rest) short.0 (e ∙ append_assoc (pair_bytes p) (flat_map pair_bytes ps) rest)

no_other_pairs : (count : ℕ) (bytes : List ℕ) (first : FrontPair bytes) → NoPairs count first.rest → NoPairs (suc count) bytes
no_other_pairs count bytes first none [] rest counted short e = absurd (omega (arith, counted))
no_other_pairs count bytes first none (p ∷ ps) rest counted short e =
    none ps rest (omega (arith, counted)) short.1 (one_pair first.pair p first.rest (flat_map pair_bytes ps ++ rest) first.short short.0 (sym first.split ∙ e ∙ append_assoc (pair_bytes p) (flat_map pair_bytes ps) rest)).1

pairs_or_none : (count : ℕ) (bytes : List ℕ) → IsBytes bytes → FrontPairs count bytes ⊎ NoPairs count bytes
pairs_or_none zero bytes are = inl (record { pairs = []; rest = bytes; split = refl; counted = refl; short = tt })
pairs_or_none (suc count) bytes are = elim (pair_or_none bytes are) [
  | inr none ↦ inr (no_first_pair count bytes none)
  | inl first ↦ elim (pairs_or_none count first.rest first.rest_bytes) [
    | inr none ↦ inr (no_other_pairs count bytes first none)
    | inl others ↦ inl (record {
      pairs = first.pair ∷ others.pairs;
      rest = others.rest;
      split = first.split ∙ ap (λ t. pair_bytes first.pair ++ t) others.split ∙ sym (append_assoc (pair_bytes first.pair) (flat_map pair_bytes others.pairs) others.rest);
      counted = ap suc others.counted;
      short = (first.short, others.short);
    })
  ]
]

abbrev IsHeadOrNone : List ℕ → Type 0
IsHeadOrNone bytes = ((head : HeadModel) × IsHead bytes head) ⊎ ((head : HeadModel) → IsHead bytes head → ⊥)

-- the bytes of a head, regrouped behind its content type
pub behind_content : (head : HeadModel) → head_bytes head ≡ to_be_bytes w16 (length head.content_type) ++ (head.content_type ++ (length head.pairs ∷ flat_map pair_bytes head.pairs))
behind_content head = append_assoc (to_be_bytes w16 (length head.content_type)) head.content_type (length head.pairs ∷ flat_map pair_bytes head.pairs)

-- of a content type and as many pairs as are counted
of_pairs : (bytes : List ℕ) (content : Text bytes) (count : ℕ) (behind : List ℕ) (got : List Pair) (rest : List ℕ) → content.rest ≡ count ∷ behind → behind ≡ flat_map pair_bytes got ++ rest → length got ≡ count → AreShort got → IsHeadOrNone bytes
of_pairs bytes content count behind got (x ∷ xs) counted e many short =
    inr (λ head is.
    let h = head_rest bytes content.text content.rest count behind head content.split content.short counted is in
    let none : x ∷ xs ≡ [] = (head_only content.text got count behind (x ∷ xs) head h e many short).1 in
    absurd (cc))
of_pairs bytes content count behind got [] counted e many short =
    let candidate : HeadModel = record { content_type = content.text; pairs = got } in
    elim (none_or_some (head_fault candidate)) [
      | inl rules ↦ inl (
        candidate,
        record {
          rules = rules;
          spelled = content.split ∙ ap (λ t. to_be_bytes w16 (length content.text) ++ (content.text ++ t)) (counted ∙ ap₂ (λ n t. n ∷ t) (sym many) (e ∙ append-nil (flat_map pair_bytes got))) ∙ sym (behind_content candidate);
        },
      )
      | inr broken ↦ inr (λ head is.
          let h = head_rest bytes content.text content.rest count behind head content.split content.short counted is in
          let same : head ≡ candidate = (head_only content.text got count behind [] head h e many short).0 in
          let rules : head_fault candidate ≡ None = subst (λ (a : HeadModel). head_fault a ≡ None) same is.rules in
          absurd (cc (rules, broken.1)))
    ]

-- of a content type and what is behind it
of_content : (bytes : List ℕ) (content : Text bytes) (rest : List ℕ) → content.rest ≡ rest → IsBytes rest → IsHeadOrNone bytes
of_content bytes content [] is_rest are =
    inr (λ head is.
    let s = small head is.rules in
    let whole = sym content.split ∙ is.spelled ∙ behind_content head in
    let number = cut_16 (length content.text) (length head.content_type) _ _ content.short (omega (arith, s.content_type)) whole in
    let behind : [] ≡ length head.pairs ∷ flat_map pair_bytes head.pairs = sym is_rest ∙ (cut content.text head.content_type _ _ number.0 number.1).1 in
    absurd (cc))
of_content bytes content (count ∷ behind) is_rest are = elim (pairs_or_none count behind (λ position. are (suc position))) [
  | inl got ↦ of_pairs bytes content count behind got.pairs got.rest is_rest got.split got.counted got.short
  | inr none ↦ inr (λ head is.
      let h = head_rest bytes content.text content.rest count behind head content.split content.short is_rest is in
      none head.pairs [] h.number h.short h.pairs)
]

pub head_or_none : (bytes : List ℕ) → IsBytes bytes → ((head : HeadModel) × IsHead bytes head) ⊎ ((head : HeadModel) → IsHead bytes head → ⊥)
head_or_none bytes are = elim (text_or_none bytes are) [
  | inl content ↦ of_content bytes content content.rest refl content.rest_bytes
  | inr none ↦ inr (λ head is.
      let s = small head is.rules in
      none head.content_type (length head.pairs ∷ flat_map pair_bytes head.pairs) (omega (arith, s.content_type)) (is.spelled ∙ behind_content head))
]
