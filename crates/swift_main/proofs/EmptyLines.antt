-- The first empty line of a text, by the place of the first two line feeds in a row.
use Rattle.std.proofs.Common.{◌≡◌, ℕ, zero, suc, ◌+◌, ◌-◌, ◌<◌, ◌==◌, ◌&&◌, nat_eq, true, false, List, [], ◌∷◌, length, take, drop, refl, sym, ◌∙◌, ap, arith, length-drop}
use Rattle.std.specs.Cmp.Lexicographic.{pointwise, other_text}
use Rattle.std.proofs.Math.ListN.{drop_of_length-le}
use Rattle.std.proofs.Math.Seq.{take-length}
use Rattle.std.proofs.lemmas.Bool.Decides.{nat_tests}
use Rattle.std.proofs.lemmas.List.{take_all, take_rest, length-take}
use Rattle.memchr.specs.Find.{OccursAt, Nowhere}
use Rattle.memchr.proofs.lemmas.MatchLemmas.{OccursAt-part, OccursAt-from_part}
use Rattle.swift_main.specs.Input.{before_empty, after_empty}

-- two line feeds in a row
abbrev pub two_feeds : List ℕ
two_feeds = 10 ∷ 10 ∷ []

-- they stand at a place
abbrev FeedsAt : List ℕ → ℕ → Type 0
FeedsAt text place = take 2 (drop place text) ≡ two_feeds

-- a text doesn't begin with a line feed
abbrev pub BeginsOtherwise : List ℕ → Type 0
BeginsOtherwise text = pointwise nat_eq (take 1 text) (10 ∷ []) ≡ false

-- where they stand, they occur as a needle
feeds_occur : (text : List ℕ) (place : ℕ) → FeedsAt text place → OccursAt text two_feeds place
feeds_occur text place at = OccursAt-from_part text two_feeds place (omega (arith, ap length at, length-take 2 (drop place text), length-drop place text)) at

-- they stand no earlier where a line feed comes before the text
none_earlier : (text : List ℕ) (place : ℕ) → BeginsOtherwise text → Nowhere (OccursAt text two_feeds) 0 place → (k : ℕ) → k < suc place → ¬ FeedsAt (10 ∷ text) k
none_earlier text place other none zero low at = other_text (take 1 text) (10 ∷ []) (sym other) (cc)
none_earlier text place other none (suc k) low at = none k (omega arith) (omega arith) (feeds_occur text k at)

-- what comes after a byte is cut where the two first stand, counted from that byte, or nowhere
cut_after : (last : ℕ) (text : List ℕ) (place : ℕ) → ((k : ℕ) → k < place → ¬ FeedsAt (last ∷ text) k) → (place < length text → FeedsAt (last ∷ text) place)
    → (before_empty (last == 10) text ≡ take place text) × (after_empty (last == 10) text ≡ drop (suc place) text)
cut_after last [] place none here = (sym (take_all place [] (omega arith)), refl)
cut_after last (byte ∷ bytes) zero none here =
    let at : last ∷ byte ∷ [] ≡ two_feeds = here (omega arith) in
    let first : last ≡ 10 = cc in
    let second : byte ≡ 10 = cc in
    rw (first, second) (refl, refl)
cut_after last (byte ∷ bytes) (suc place) none here =
    let apart : ¬ (last ∷ byte ∷ [] ≡ two_feeds) = none 0 (omega arith) in
    let goes_on : ((last == 10) && (byte == 10)) ≡ false = grind (arith, nat_tests) in
    let rest = cut_after byte bytes place (λ k low. none (suc k) (omega arith)) (λ low. here (omega arith)) in
    rw goes_on (ap (λ before. byte ∷ before) rest.0, rest.1)

-- a text is cut at the first two
pub cut_at_feeds : (text : List ℕ) (place : ℕ) → BeginsOtherwise text → Nowhere (OccursAt text two_feeds) 0 place → OccursAt text two_feeds place
    → (take (place + 1) text ≡ before_empty true text) × (take (length text - (place + 2)) (drop (place + 2) text) ≡ after_empty true text)
cut_at_feeds text place other none at =
    let cut = cut_after 10 text (suc place) (none_earlier text place other none) (λ low. OccursAt-part text two_feeds place at) in
    let one : place + 1 ≡ suc place = omega arith in
    let two : place + 2 ≡ suc (suc place) = omega arith in
    rw (take_rest text (place + 2), one, two) (sym cut.0, sym cut.1)

-- no cut
pub no_feeds : (text : List ℕ) → BeginsOtherwise text → Nowhere (OccursAt text two_feeds) 0 (length text + 1) → (text ≡ before_empty true text) × ([] ≡ after_empty true text)
no_feeds text other none =
    let cut = cut_after 10 text (length text) (λ k low. none_earlier text (length text + 1) other none k (omega arith)) (λ low. absurd (omega arith)) in
    (sym (cut.0 ∙ take-length text), sym (cut.1 ∙ drop_of_length-le text {i = suc (length text)} (omega arith)))
