-- Chunk lines, and the line feeds that they reach to.
use Rattle.std.proofs.Common.{◌≡◌, ℕ, suc, ◌==◌, Bool, true, false, List, [], ◌∷◌, ◌++◌, length, drop, Option, Some, None, refl, sym, ap, ◌∙◌, arith, append_assoc, eqb-true}
use Rattle.std.specs.Char.{is_ascii_hexdigit}
use Rattle.std.proofs.lemmas.List.{append-nil}
use Rattle.std.proofs.lemmas.List.Folds.{list_any-append}
use Rattle.httparse.specs.Grammar.{ChunkLine, IsChunkLine, IsExtension, print_chunk_line, print_extension, AllPass, is_ows, is_extension_byte, chunk_size}
use Rattle.httparse.specs.Spans.{IsChunkLineAt}
use Rattle.httparse.proofs.ChunkLemmas.{chunk_line_unique}
use Rattle.sw_httpread.specs.Lines.{IsLine, IsWholeLine}
use Rattle.sw_httpread.specs.Chunks.{IsNoChunkLine, IsSized}

apart : (b : Bool) → (b ≡ true → ⊥) → b ≡ false
apart true h = absurd (h refl)
apart false h = refl

no_feed : (test : ℕ → Bool) (bytes : List ℕ) → test 10 ≡ false → AllPass test bytes → IsLine bytes
no_feed test [] e all = refl
no_feed test (b ∷ bytes) e all =
    let here : test b ≡ true = all 0 b (omega arith) in
    let rest = no_feed test bytes e (λ k d lt. all (suc k) d (omega (arith, lt))) in
    let other : (b == 10) ≡ false = apart (b == 10) (λ is. absurd (cc (ap test (eqb-true b 10 is)))) in
    rw (other, rest) refl

lines_join : (a b : List ℕ) → IsLine a → IsLine b → IsLine (a ++ b)
lines_join a b p q = list_any-append (λ byte. byte == 10) a b ∙ rw (p, q) refl

extension_line : (e : Option (List ℕ)) → IsExtension e → IsLine (print_extension e)
extension_line None p = refl
extension_line (Some text) p = no_feed is_extension_byte text refl p

sized_line : (l : ChunkLine) → IsChunkLine l → (front : List ℕ) × IsLine front × (print_chunk_line l ≡ front ++ 10 ∷ [])
unfolding print_chunk_line
sized_line l p =
    let digits : IsLine l.digits = no_feed is_ascii_hexdigit l.digits refl p.digits.2 in
    let pad : IsLine l.pad = no_feed is_ows l.pad refl p.pad in
    let extension : IsLine (print_extension l.extension) = extension_line l.extension p.extension in
    (((l.digits ++ l.pad) ++ print_extension l.extension) ++ 13 ∷ [], lines_join ((l.digits ++ l.pad) ++ print_extension l.extension) (13 ∷ []) (lines_join (l.digits ++ l.pad) (print_extension l.extension) (lines_join l.digits l.pad digits pad) extension) refl, simp append_assoc)

-- a chunk line has one size
pub one_size : (line : List ℕ) (m n : ℕ) → IsSized line m → IsSized line n → m ≡ n
one_size line m n p q = p.2 ∙ ap chunk_size (chunk_line_unique line p.0 q.0 [] [] p.1 q.1).0 ∙ sym q.2

-- a chunk line reaches to its first line feed
pub sized_whole : (line : List ℕ) (size : ℕ) → IsSized line size → IsWholeLine line
sized_whole line size s =
    let f = sized_line s.0 s.1.0 in
    (f.0, f.1, s.1.1 ∙ append-nil (print_chunk_line s.0) ∙ f.2)

-- a line that a parser leaves some of is none
pub unlike_line : (line : List ℕ) (count size : ℕ) (k : ChunkLine) → IsChunkLineAt line count size k → (¬ (count ≡ length line)) → IsNoChunkLine line
unlike_line line count size k at other l r =
    let same = (chunk_line_unique line k l (drop count line) [] at.reads r).0 in
    other (at.len_is ∙ ap (λ (t : ChunkLine). length (print_chunk_line t)) same ∙ sym (ap length r.1 ∙ ap length (append-nil (print_chunk_line l))))
