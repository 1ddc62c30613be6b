-- Lines and sections at the front of bytes.
use Rattle.std.proofs.Common.{◌≡◌, ◌-◌, ℕ, List, [], ◌∷◌, ◌++◌, length, take, refl, sym, ap, ◌∙◌, arith, append_assoc, length-append}
use Rattle.std.specs.List.{AllByRecursion}
use Rattle.std.proofs.lemmas.List.{append-nil, take_at, same_from_push, nil_from_length}
use Rattle.sw_httpread.specs.Lines.{joined, IsLine, IsEmptyLine, IsFullLine, IsWholeLine, IsWholeSection}
use Rattle.sw_httpread.specs.Ends.{HasNoWhole, HasWhole}
use Rattle.sw_httpread.proofs.Heads.{line_same, lines_front, full_has, full_lines, both_lines, empty_is_line, all_push, joined_push, split_end}

-- ---- one line

pub one_line : (a b rest : List ℕ) → IsWholeLine a → IsWholeLine b → a ≡ b ++ rest → rest ≡ []
one_line a b rest v w e =
    let both : v.0 ++ 10 ∷ [] ≡ w.0 ++ 10 ∷ rest = sym v.2 ∙ e ∙ ap (λ (t : List ℕ). t ++ rest) w.2 ∙ append_assoc w.0 (10 ∷ []) rest in
    sym (line_same v.0 w.0 [] rest v.1 w.1 both).1

-- ---- a section

-- what was scanned: lines that aren't empty, and a rest
pub record IsScannedSection (bytes rest : List ℕ) : Type 0 where
  pub lines : List (List ℕ)
  pub each_line : AllByRecursion IsFullLine lines
  pub split : bytes ≡ joined lines ++ rest

pub section_start : (bytes : List ℕ) → IsScannedSection bytes bytes
section_start bytes = record { lines = []; each_line = tt; split = refl }

pub section_more : (bytes rest line tail : List ℕ) → IsScannedSection bytes rest → rest ≡ line ++ 10 ∷ tail → IsLine line → (¬ IsEmptyLine line) → IsScannedSection bytes tail
section_more bytes rest line tail s e is full = record {
  lines = s.lines ++ line ∷ [];
  each_line = all_push IsFullLine s.lines line s.each_line (is, full);
  split = s.split ∙ ap (λ (t : List ℕ). joined s.lines ++ t) e ∙ sym (joined_push s.lines line tail);
}

pub section_end : (bytes rest line tail : List ℕ) → IsScannedSection bytes rest → rest ≡ line ++ 10 ∷ tail → IsEmptyLine line → HasWhole IsWholeSection bytes (length bytes - length tail)
section_end bytes rest line tail s e empty =
    let whole : bytes ≡ joined (s.lines ++ line ∷ []) ++ tail = s.split ∙ ap (λ (t : List ℕ). joined s.lines ++ t) e ∙ sym (joined_push s.lines line tail) in
    let n : length (joined (s.lines ++ line ∷ [])) ≡ length bytes - length tail = omega (arith, ap length whole, length-append (joined (s.lines ++ line ∷ [])) tail) in
    let front : take (length bytes - length tail) bytes ≡ joined (s.lines ++ line ∷ []) = ap (take (length bytes - length tail)) whole ∙ take_at (joined (s.lines ++ line ∷ [])) tail (length bytes - length tail) n in
    (omega arith, record { lines = s.lines; last = line; each_line = s.each_line; last_empty = empty; spelled = front })

section_lines : (bytes : List ℕ) (w : IsWholeSection bytes) → AllByRecursion IsLine (w.lines ++ w.last ∷ [])
section_lines bytes w = both_lines w.lines (w.last ∷ []) (full_lines w.lines w.each_line) (empty_is_line w.last w.last_empty, tt)

pub no_section : (bytes rest : List ℕ) → IsScannedSection bytes rest → IsLine rest → HasNoWhole IsWholeSection bytes
no_section bytes rest s none front tail e w =
    let both : joined s.lines ++ rest ≡ joined (w.lines ++ w.last ∷ []) ++ tail = sym s.split ∙ e ∙ ap (λ (t : List ℕ). t ++ tail) w.spelled in
    let r = lines_front s.lines (w.lines ++ w.last ∷ []) rest tail (full_lines s.lines s.each_line) (section_lines front w) none both in
    full_has w.lines w.last r.0 s.lines s.each_line (r.1 ∙ append_assoc w.lines (w.last ∷ []) r.0) w.last_empty

no_more : (lines others : List (List ℕ)) (last final : List ℕ) (more : List (List ℕ)) → AllByRecursion IsFullLine lines → IsEmptyLine last → lines ++ final ∷ [] ≡ (others ++ last ∷ []) ++ more → more ≡ []
no_more lines others last final [] p empty e = refl
no_more lines others last final (m ∷ ms) p empty e =
    let r = split_end m ms in
    let regrouped : lines ++ final ∷ [] ≡ ((others ++ last ∷ []) ++ r.0) ++ r.1 ∷ [] =
    e ∙ ap (λ (t : List (List ℕ)). (others ++ last ∷ []) ++ t) r.2 ∙ sym (append_assoc (others ++ last ∷ []) r.0 (r.1 ∷ [])) in
    let front : lines ≡ (others ++ last ∷ []) ++ r.0 = (same_from_push lines ((others ++ last ∷ []) ++ r.0) final r.1 regrouped).0 in
    absurd (full_has others last r.0 lines p (front ∙ append_assoc others (last ∷ []) r.0) empty)

pub one_section : (a b rest : List ℕ) → IsWholeSection a → IsWholeSection b → a ≡ b ++ rest → rest ≡ []
one_section a b rest v w e =
    let both : joined (v.lines ++ v.last ∷ []) ++ [] ≡ joined (w.lines ++ w.last ∷ []) ++ rest =
    append-nil (joined (v.lines ++ v.last ∷ [])) ∙ sym v.spelled ∙ e ∙ ap (λ (t : List ℕ). t ++ rest) w.spelled in
    let r = lines_front (v.lines ++ v.last ∷ []) (w.lines ++ w.last ∷ []) [] rest (section_lines a v) (section_lines b w) refl both in
    let none : r.0 ≡ [] = no_more v.lines w.lines w.last v.last r.0 v.each_line w.last_empty r.1 in
    let same : v.lines ++ v.last ∷ [] ≡ w.lines ++ w.last ∷ [] = r.1 ∙ ap (λ (t : List (List ℕ)). (w.lines ++ w.last ∷ []) ++ t) none ∙ append-nil (w.lines ++ w.last ∷ []) in
    let equal : a ≡ b = v.spelled ∙ ap joined same ∙ sym w.spelled in
    nil_from_length rest (omega (arith, ap length e, ap length equal, length-append b rest))
