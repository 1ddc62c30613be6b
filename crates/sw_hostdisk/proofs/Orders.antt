-- Texts in order are in the order of their bytes.
use Rattle.std.proofs.Common.{◌≡◌, ◌<◌, ◌+◌, ℕ, List, [], ◌∷◌, length, get_or, String, Global, string_bytes, ap, subst, ◌∙◌, arith}
use Rattle.std.specs.Cmp.Lexicographic.{slice_cmp}
use Rattle.std.specs.List.Sorted.{IsSorted}
use Rattle.std.specs.Ordering.{is_lt, nat_cmp}
use Rattle.std.specs.String.{string_cmp}
use Rattle.std.proofs.lemmas.List.{get_or-map, length-map}
use Rattle.sw_disk.specs.Answers.{texts_of}

pub in_order : (texts : List (String Global)) → IsSorted string_cmp texts → IsSorted (slice_cmp nat_cmp) (texts_of texts)
in_order [] up k d low lt = absurd (omega arith)
in_order (text ∷ texts) up k d low lt =
    let short : k + 1 < length (text ∷ texts) = subst (λ (n : ℕ). k + 1 < n) (length-map (text ∷ texts) string_bytes) lt in
    let later : get_or (texts_of (text ∷ texts)) (k + 1) d ≡ string_bytes (get_or (text ∷ texts) (k + 1) text) = get_or-map string_bytes (text ∷ texts) (k + 1) text d short in
    let former : get_or (texts_of (text ∷ texts)) k d ≡ string_bytes (get_or (text ∷ texts) k text) = get_or-map string_bytes (text ∷ texts) k text d (omega arith) in
    ap (λ (t : List ℕ). is_lt (slice_cmp nat_cmp t (get_or (texts_of (text ∷ texts)) k d))) later
    ∙ ap (λ (t : List ℕ). is_lt (slice_cmp nat_cmp (string_bytes (get_or (text ∷ texts) (k + 1) text)) t)) former
    ∙ up k text low short
