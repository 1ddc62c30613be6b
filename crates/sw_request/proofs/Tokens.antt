-- Tokens in lists, as they are defined and as they are looked for.
use Rattle.std.proofs.Common.{◌≡◌, ◌≢◌, ◌⊎◌, ◌↔◌, ℕ, suc, ◌+◌, ◌<◌, Bool, true, false, not, cond, ◌&&◌, ◌||◌, ◌==◌, IsTrue, List, [], ◌∷◌, ◌++◌, length, map, take, drop, get_or, Contains, codes, refl, sym, ap, subst, ◌∙◌, inl, inr, ⊎_elim, arith, append_assoc, take-append-drop, take_at, drop_at, eqb-true, eq-eqb, ne_eqb}
use Rattle.std.specs.Char.{to_ascii_lowercase}
use Rattle.std.specs.List.{All, AllPass, AllByRecursion, list_all, list_any, slice_split}
use Rattle.std.specs.Str.{bytes_eq, str_eq_ignore_ascii_case, str_to_ascii_lowercase}
use Rattle.std.proofs.lemmas.Bool.{and_from, and_parts, cases_Bool, false≢true, not_from_false, not-true, or_cases}
use Rattle.std.proofs.lemmas.List.{length-map}
use Rattle.std.proofs.lemmas.List.Elements.{All-cons, All-from_recursion, All-nil, All-weaker, recursion_from_All}
use Rattle.std.proofs.lemmas.List.Folds.{Any-from_list_any, list_any_at}
use Rattle.std.proofs.lemmas.List.Sums.{AllPass-from_list_all, list_all-from_AllPass}
use Rattle.std.proofs.lemmas.Slice.Eq.{bytes_eq-Decides}
use Rattle.sw_httpread.specs.Request.{RequestHeadModel}
use Rattle.sw_request.specs.Closing.{has_token, is_space, is_token, trimmed}
use Rattle.sw_request.specs.Fields.{AsksToClose, Field, IsSpace, IsToken, Lists, is_current, values_of}

-- ---- white space

space_is : (byte : ℕ) → is_space byte ≡ true → IsSpace byte
space_is byte passes = ⊎_elim (λ space. inl (eqb-true byte 32 space)) (λ tab. inr (eqb-true byte 9 tab)) (or_cases (byte == 32) (byte == 9) passes)

is_space_from : (byte : ℕ) → IsSpace byte → is_space byte ≡ true
is_space_from byte (inl space) = rw space refl
is_space_from byte (inr tab) = rw tab refl

record IsFront (part : List ℕ) : Type 0 where
  before : List ℕ
  spelled : part ≡ before ++ trimmed part
  spaces : All IsSpace before

front_of : (test : Bool) (byte : ℕ) (rest : List ℕ) → is_space byte ≡ test → IsFront rest → IsFront (byte ∷ rest)
front_of true byte rest is front = record {
  before = byte ∷ front.before;
  spelled = ap (λ bytes. byte ∷ bytes) front.spelled ∙ ap (λ (b : Bool). (byte ∷ front.before) ++ cond b (trimmed rest) (byte ∷ rest)) (sym is);
  spaces = All-cons IsSpace byte front.before (space_is byte is) front.spaces;
}
front_of false byte rest is front = record {
  before = [];
  spelled = ap (λ (b : Bool). cond b (trimmed rest) (byte ∷ rest)) (sym is);
  spaces = All-nil IsSpace;
}

front : (part : List ℕ) → IsFront part
front [] = record { before = []; spelled = refl; spaces = All-nil IsSpace }
front (byte ∷ rest) = front_of (is_space byte) byte rest refl (front rest)

-- white space at the front goes
trimmed-spaces : (before rest : List ℕ) → AllByRecursion IsSpace before → trimmed (before ++ rest) ≡ trimmed rest
trimmed-spaces [] rest all = refl
trimmed-spaces (byte ∷ before) rest all = ap (λ (b : Bool). cond b (trimmed (before ++ rest)) (byte ∷ (before ++ rest))) (is_space_from byte all.0) ∙ trimmed-spaces before rest all.1

-- ---- parts that are a token

same_text : (text other : List ℕ) → str_eq_ignore_ascii_case text other ≡ true → str_to_ascii_lowercase text ≡ str_to_ascii_lowercase other
same_text text other same = (bytes_eq-Decides (str_to_ascii_lowercase text) (str_to_ascii_lowercase other)).0 same

token_is : (token part : List ℕ) → is_token token part ≡ true → IsToken token part
token_is token part passes =
    let parts = and_parts (str_eq_ignore_ascii_case (take (length token) (trimmed part)) token) (list_all is_space (drop (length token) (trimmed part))) passes in
    let f = front part in
    record {
      before = f.before;
      word = take (length token) (trimmed part);
      after = drop (length token) (trimmed part);
      spelled = f.spelled ∙ ap (λ rest. f.before ++ rest) (sym (take-append-drop (length token) (trimmed part))) ∙ sym (append_assoc f.before (take (length token) (trimmed part)) (drop (length token) (trimmed part)));
      spaces_before = f.spaces;
      spaces_after = All-weaker (λ byte. is_space byte ≡ true) IsSpace space_is (drop (length token) (trimmed part)) (AllPass-from_list_all is_space (drop (length token) (trimmed part)) parts.1);
      same = parts.0;
    }

-- a letter is no white space
letter : (byte : ℕ) → to_ascii_lowercase byte ≡ 99 → is_space byte ≡ false
letter byte lower = ⊎_elim (λ passes. ⊎_elim (λ (space : byte ≡ 32). absurd (let bad : 32 ≡ 99 = sym (ap to_ascii_lowercase space) ∙ lower in omega (arith, bad))) (λ (tab : byte ≡ 9). absurd (let bad : 9 ≡ 99 = sym (ap to_ascii_lowercase tab) ∙ lower in omega (arith, bad))) (space_is byte passes)) (λ fails. fails) (cases_Bool (is_space byte))

word_stays : (word after : List ℕ) → str_to_ascii_lowercase word ≡ codes "close" → trimmed (word ++ after) ≡ word ++ after
word_stays [] after lower = absurd (cc)
word_stays (byte ∷ word) after lower =
    let first : to_ascii_lowercase byte ≡ 99 = ap (λ bytes. get_or bytes 0 0) lower in
    ap (λ (b : Bool). cond b (trimmed (word ++ after)) (byte ∷ (word ++ after))) (letter byte first)

is_token-close : (part : List ℕ) → IsToken (codes "close") part → is_token (codes "close") part ≡ true
is_token-close part is =
    let lower : str_to_ascii_lowercase is.word ≡ codes "close" = same_text is.word (codes "close") is.same in
    let five : length is.word ≡ 5 = sym (length-map is.word to_ascii_lowercase) ∙ ap length lower in
    let rest : trimmed part ≡ is.word ++ is.after =
    ap trimmed (is.spelled ∙ append_assoc is.before is.word is.after)
    ∙ trimmed-spaces is.before (is.word ++ is.after) (recursion_from_All IsSpace is.before is.spaces_before) ∙ word_stays is.word is.after lower in
    let word : take 5 (trimmed part) ≡ is.word = ap (take 5) rest ∙ take_at is.word is.after 5 five in
    let after : drop 5 (trimmed part) ≡ is.after = ap (drop 5) rest ∙ drop_at is.word is.after 5 five in
    and_from _ _ (ap (λ text. str_eq_ignore_ascii_case text (codes "close")) word ∙ is.same)
    (ap (list_all is_space) after ∙ list_all-from_AllPass is_space is.after (All-weaker IsSpace (λ byte. is_space byte ≡ true) is_space_from is.after is.spaces_after))

-- ---- lists with a token

record Found (test : List ℕ → Bool) (texts : List (List ℕ)) : Type 0 where
  text : List ℕ
  there : Contains texts text
  passes : test text ≡ true

found : (test : List ℕ → Bool) (texts : List (List ℕ)) → list_any test texts ≡ true → Found test texts
found test texts passes =
    let any = Any-from_list_any test texts passes in
    record { text = any.1; there = (any.0, any.2, any.3); passes = any.4 }

passes_at : (test : List ℕ → Bool) (texts : List (List ℕ)) (text : List ℕ) → Contains texts text → test text ≡ true → list_any test texts ≡ true
passes_at test texts text there passes = list_any_at test texts there.0 text there.1 (ap test there.2 ∙ passes)

abbrev lists_close : List Field → Bool
lists_close fields = list_any (has_token (codes "close")) (values_of (codes "connection") fields)

lists_is : (fields : List Field) → lists_close fields ≡ true → Lists (codes "connection") (codes "close") fields
lists_is fields passes =
    let value = found (has_token (codes "close")) (values_of (codes "connection") fields) passes in
    let part = found (is_token (codes "close")) (slice_split (λ byte. byte == 44) value.text) value.passes in
    (value.text, part.text, value.there, part.there, token_is (codes "close") part.text part.passes)

lists_from : (fields : List Field) → Lists (codes "connection") (codes "close") fields → lists_close fields ≡ true
lists_from fields (value, part, there, within, is) =
    passes_at (has_token (codes "close")) (values_of (codes "connection") fields) value there
    (passes_at (is_token (codes "close")) (slice_split (λ byte. byte == 44) value) part within (is_token-close part is))

-- ---- heads that ask to close

or_true : (b : Bool) → (b || true) ≡ true
or_true true = refl
or_true false = refl

asking : (head : RequestHeadModel) → AsksToClose head → (not (is_current head) || lists_close head.fields) ≡ true
asking head (inl older) = ap (λ (b : Bool). not b || lists_close head.fields) (ne_eqb head.minor 1 older)
asking head (inr lists) = ap (λ (b : Bool). not (is_current head) || b) (lists_from head.fields lists) ∙ or_true (not (is_current head))

asked : (head : RequestHeadModel) → (not (is_current head) || lists_close head.fields) ≡ true → AsksToClose head
asked head passes = ⊎_elim
    (λ older. inl (λ (one : head.minor ≡ 1). false≢true (sym (not-true (is_current head) older) ∙ eq-eqb head.minor 1 one)))
    (λ listed. inr (lists_is head.fields listed))
    (or_cases (not (is_current head)) (lists_close head.fields) passes)

pub closing : (head : RequestHeadModel) (result : Bool) → result ≡ (not (is_current head) || lists_close head.fields) → IsTrue result ↔ AsksToClose head
closing head result is = (λ closes. asked head (sym is ∙ closes), λ asks. is ∙ asking head asks)
