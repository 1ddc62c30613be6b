-- What stands at a place among bytes.
use Rattle.std.proofs.Common.{◌≡◌, ◌≤◌, inl, inr, ℕ, suc, ◌+◌, ◌*◌, List, [], ◌∷◌, ◌++◌, length, get_or, take, drop, refl, sym, ap, ◌∙◌, subst, arith, length-append, length-take-le, length-drop, drop-cons, take-append-drop}
use Rattle.std.specs.List.{flat_map}
use Rattle.std.proofs.lemmas.List.{drop-drop, drop_all}
use Rattle.httparse.specs.Grammar.{Field, LineEnd, ReadsSection, print_field, print_section, print_end}
use Rattle.httparse.specs.Spans.{IsSectionAt}
use Rattle.httparse.specs.declared.spans.HeaderSpan.{HeaderSpan}
use Rattle.httparse.proofs.GrammarLemmas.{section_unique}
use Rattle.sw_httpread.specs.Lines.{IsWholeSection}
use Rattle.sw_httpread.specs.Ends.{greatest_length, HasWhole}
use Rattle.sw_httpread.specs.Chunks.{AChunk, TheLast, OutOfForm, IsDataAt, IsTrailer, IsTrailerAt}
use Rattle.sw_httpread.proofs.Ends.{ends_at}
use Rattle.sw_httpread.proofs.Parses.{fields_bound}

-- ---- data and the end of a chunk

data_split : (rest : List ℕ) (n : ℕ) → n + 2 ≤ length rest → rest ≡ take n rest ++ get_or rest n 0 ∷ get_or rest (n + 1) 0 ∷ drop (n + 2) rest
data_split rest n le =
    let first : drop n rest ≡ get_or rest n 0 ∷ drop (suc n) rest = drop-cons rest n 0 (omega (arith, le)) in
    let second : drop (suc n) rest ≡ get_or rest (suc n) 0 ∷ drop (suc (suc n)) rest = drop-cons rest (suc n) 0 (omega (arith, le)) in
    let one : suc n ≡ n + 1 = omega arith in
    let two : suc (suc n) ≡ n + 2 = omega arith in
    let both : drop n rest ≡ get_or rest n 0 ∷ get_or rest (n + 1) 0 ∷ drop (n + 2) rest = cc (first, second, one, two) in
    sym (take-append-drop n rest) ∙ ap (λ (t : List ℕ). take n rest ++ t) both

behind : (bytes : List ℕ) (start n : ℕ) → drop (n + 2) (drop start bytes) ≡ drop (start + n + 2) bytes
behind bytes start n = drop-drop (n + 2) start bytes ∙ ap (λ (k : ℕ). drop k bytes) (omega arith)

abbrev IsCrLf : ℕ → ℕ → Type 0
IsCrLf first second = (first ≡ 13) × (second ≡ 10)

pub data_whole : (bytes : List ℕ) (start n : ℕ) → start ≤ length bytes → n + 2 ≤ length (drop start bytes) → get_or (drop start bytes) n 0 ≡ 13 → get_or (drop start bytes) (n + 1) 0 ≡ 10
    → (start + n + 2 ≤ length bytes) × IsDataAt n (drop start bytes) (AChunk (take n (drop start bytes)) (drop (start + n + 2) bytes))
data_whole bytes start n within le first second =
    let rest : List ℕ = drop start bytes in (
      omega (arith, le, within, length-drop start bytes),
      inr (
        take n rest,
        get_or rest n 0,
        get_or rest (n + 1) 0,
        drop (n + 2) rest,
        data_split rest n le,
        length-take-le n rest (omega (arith, le)),
        inl (first, second, ap (λ (t : List ℕ). AChunk (take n rest) t) (sym (behind bytes start n))),
      ),
    )

pub data_bad : (rest : List ℕ) (n : ℕ) → n + 2 ≤ length rest → (¬ IsCrLf (get_or rest n 0) (get_or rest (n + 1) 0)) → IsDataAt n rest OutOfForm
data_bad rest n le other =
    inr (take n rest, get_or rest n 0, get_or rest (n + 1) 0, drop (n + 2) rest, data_split rest n le, length-take-le n rest (omega (arith, le)), inr (other, refl))

-- ---- the trailer section

pub last_whole : (bytes : List ℕ) (start n : ℕ) → start ≤ length bytes → HasWhole IsWholeSection (drop start bytes) n → n ≤ greatest_length → IsTrailer (take n (drop start bytes))
    → (start + n ≤ length bytes) × IsTrailerAt (drop start bytes) (TheLast (drop (start + n) bytes))
last_whole bytes start n within found bound is =
    let rest : List ℕ = drop start bytes in
    let same : drop n rest ≡ drop (start + n) bytes = drop-drop n start bytes ∙ ap (λ (k : ℕ). drop k bytes) (omega arith) in
    (omega (arith, within, found.0, length-drop start bytes), inr (inr (take n rest, drop n rest, ends_at IsWholeSection rest n found bound, inl (is, ap TheLast (sym same)))))

pub last_bad : (rest : List ℕ) (n : ℕ) → HasWhole IsWholeSection rest n → n ≤ greatest_length → (¬ IsTrailer (take n rest)) → IsTrailerAt rest OutOfForm
last_bad rest n found bound other = inr (inr (take n rest, drop n rest, ends_at IsWholeSection rest n found bound, inr (other, refl)))

-- a section has no more fields than there is room for
pub section_bound : (bytes : List ℕ) (fields : List Field) (last : LineEnd) → ReadsSection bytes fields last [] → 3 * length fields ≤ length bytes
section_bound bytes fields last r =
    let whole : length bytes ≡ length (print_section fields last) + 0 = ap length r.1 ∙ length-append (print_section fields last) [] in
    omega (arith, fields_bound fields r.0, whole, length-append (flat_map print_field fields) (print_end last))

pub section_whole : (bytes : List ℕ) (headers : List HeaderSpan) (len count : ℕ) (fields : List Field) (last : LineEnd) → IsSectionAt bytes 0 headers len count fields last → len ≡ length bytes → IsTrailer bytes
section_whole bytes headers len count fields last at e =
    (fields, last, subst (λ (rest : List ℕ). ReadsSection bytes fields last rest) (drop_all len bytes (omega (arith, e))) at.reads)

pub section_same : (bytes : List ℕ) (headers : List HeaderSpan) (len count : ℕ) (fields : List Field) (last : LineEnd) → IsSectionAt bytes 0 headers len count fields last → len ≤ length bytes → IsTrailer bytes → len ≡ length bytes
section_same bytes headers len count fields last at within t =
    let same = section_unique bytes fields t.0 last t.1 (drop len bytes) [] at.reads t.2 in
    omega (arith, within, ap length same.2, length-drop len bytes)
