-- Names in the order of their texts.
use Rattle.std.proofs.Common.{◌≡◌, ◌≢◌, ◌↔◌, ℕ, ◌+◌, ◌<◌, List, [], ◌∷◌, Contains, Global, String, get_or, length, map, string_bytes, sym, ap, subst, ◌∙◌, arith}
use Rattle.std.specs.Cmp.{IsTotalOrder}
use Rattle.std.specs.Cmp.Lexicographic.{slice_cmp}
use Rattle.std.specs.List.{All, AllPairs}
use Rattle.std.specs.List.Sorted.{IsPermutation, IsSortedBy}
use Rattle.std.specs.Ordering.{is_lt, nat_cmp}
use Rattle.std.specs.String.{string_cmp}
use Rattle.std.specs.declared.cmp.Ordering.{Ordering}
use Rattle.std.proofs.lemmas.Cmp.{nat_list_cmp_total, on_total}
use Rattle.std.proofs.lemmas.List.{get_or-map, length-map}
use Rattle.std.proofs.lemmas.List.Sorted.{All-permutation, Contains-permutation, IsPermutation-map, IsPermutation-sym}
use Rattle.std.proofs.lemmas.Map.Lookups.{exact_bytes}
use Rattle.sw_hashpath.specs.FileName.{IsFileName, file_name_text}
use Rattle.sw_hashpath.specs.declared.file_name.FileName.{FileName}
use Rattle.sw_hashdir.specs.Listing.{IsTextBefore}
use Rattle.sw_hashdir.proofs.Listed.{distinct_permuted, strictly}
use Rattle.sw_hashdir.proofs.Texts.{one_text}

-- a name with its text
abbrev pub Printed : Type 0
Printed = String Global × FileName

abbrev pub IsPrinted : Printed → Type 0
IsPrinted text = string_bytes text.0 ≡ file_name_text text.1

abbrev pub name_in : Printed → FileName
name_in text = text.1

abbrev pub text_cmp : FileName → FileName → Ordering
text_cmp a b = slice_cmp nat_cmp (file_name_text a) (file_name_text b)

text_order : IsTotalOrder text_cmp
text_order = on_total file_name_text nat_list_cmp_total

text_lt : (a b : Printed) → IsPrinted a → IsPrinted b → is_lt (text_cmp (name_in a) (name_in b)) ≡ is_lt (string_cmp a.0 b.0)
text_lt a b first second =
    ap (λ (t : List ℕ). is_lt (slice_cmp nat_cmp t (file_name_text b.1))) (sym first) ∙ ap (λ (t : List ℕ). is_lt (slice_cmp nat_cmp (string_bytes a.0) t)) (sym second)

-- names whose texts are in order
sorted_names : (texts : List Printed) → All IsPrinted texts → IsSortedBy (λ (a b : Printed). is_lt (string_cmp a.0 b.0)) texts → IsSortedBy (λ a b. is_lt (text_cmp a b)) (map name_in texts)
sorted_names [] all up k d low lt = absurd (omega arith)
sorted_names (text ∷ texts) all up k d low lt =
    let short : k + 1 < length (text ∷ texts) = subst (λ (n : ℕ). k + 1 < n) (length-map (text ∷ texts) name_in) lt in
    let later : get_or (map name_in (text ∷ texts)) (k + 1) d ≡ name_in (get_or (text ∷ texts) (k + 1) text) = get_or-map name_in (text ∷ texts) (k + 1) text d short in
    let former : get_or (map name_in (text ∷ texts)) k d ≡ name_in (get_or (text ∷ texts) k text) = get_or-map name_in (text ∷ texts) k text d (omega arith) in
    ap (λ (name : FileName). is_lt (text_cmp name (get_or (map name_in (text ∷ texts)) k d))) later
    ∙ ap (λ (name : FileName). is_lt (text_cmp (name_in (get_or (text ∷ texts) (k + 1) text)) name)) former
    ∙ text_lt (get_or (text ∷ texts) (k + 1) text) (get_or (text ∷ texts) k text) (all (k + 1) text short) (all k text (omega arith))
    ∙ up k text low short

-- different names, once their texts were sorted
pub record AreOrdered (names sorted : List FileName) : Type 0 where
  pub same : (name : FileName) → Contains sorted name ↔ Contains names name
  pub ascend : AllPairs IsTextBefore sorted

pub ordered : (names : List FileName) (texts sorted : List Printed) → AllPairs (λ a b. a ≢ b) names → ((name : FileName) → Contains names name → IsFileName name) → map name_in texts ≡ names → All IsPrinted texts → IsPermutation texts sorted → IsSortedBy (λ (a b : Printed). is_lt (string_cmp a.0 b.0)) sorted → AreOrdered names (map name_in sorted)
ordered names texts sorted different named is printed moved up =
    let shuffled : IsPermutation names (map name_in sorted) = subst (λ ns. IsPermutation ns (map name_in sorted)) is (IsPermutation-map name_in texts sorted moved) in
    let back = IsPermutation-sym names (map name_in sorted) shuffled in
    let there = λ (name : FileName) (has : Contains (map name_in sorted) name). Contains-permutation (map name_in sorted) names name back has in
    record {
      same = λ name. (there name, Contains-permutation names (map name_in sorted) name shuffled);
      ascend = strictly text_order (map name_in sorted) (sorted_names sorted (All-permutation IsPrinted texts sorted moved printed) up) (distinct_permuted names (map name_in sorted) shuffled different)
          (λ a b first second tie. one_text a b (named a (there a first)) (named b (there b second)) (exact_bytes (file_name_text a) (file_name_text b) tie));
    }
