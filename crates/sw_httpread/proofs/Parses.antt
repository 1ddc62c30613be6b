-- Heads and the bytes that they are.
use Rattle.std.proofs.Common.{◌≡◌, ◌≤◌, ◌<◌, ℕ, suc, ◌+◌, ◌*◌, List, [], ◌∷◌, ◌++◌, length, take, map, All, sym, ap, ◌∙◌, arith, length-append}
use Rattle.std.specs.List.{flat_map}
use Rattle.std.proofs.lemmas.List.{append-nil}
use Rattle.httparse.specs.declared.spans.HeaderSpan.{HeaderSpan}
use Rattle.httparse.specs.declared.spans.RequestSpans.{RequestSpans}
use Rattle.httparse.specs.Grammar.{RequestHead, ReadsRequest, print_request, print_field, print_blank, print_version, print_end, Field, IsField, LineEnd, crlf, lf}
use Rattle.httparse.specs.Spans.{IsRequestAt, name_and_value, span_bytes, header_bytes}
use Rattle.sw_httpread.specs.Request.{RequestHeadModel}
use Rattle.sw_httpread.specs.Heads.{IsHeadOf}
use Rattle.sw_httpread.specs.Parsed.{IsParsed}

end_some : (e : LineEnd) → 0 < length (print_end e)
end_some crlf = omega arith
end_some lf = omega arith

pub fields_bound : (fields : List Field) → All IsField fields → 3 * length fields ≤ length (flat_map print_field fields)
fields_bound [] all = omega arith
fields_bound (f ∷ fields) all =
    let here : IsField f = all 0 f (omega arith) in
    let name : 0 < length f.name = here.name.0 in
    let rest = fields_bound fields (λ k d lt. all (suc k) d (omega (arith, lt))) in
    let one : length (print_field f) ≡ length f.name + suc (length f.raw + length (print_end f.end)) = simp length-append (omega arith) in
    let all_of : length (flat_map print_field (f ∷ fields)) ≡ length (print_field f) + length (flat_map print_field fields) = length-append (print_field f) (flat_map print_field fields) in
    omega (arith, name, rest, one, all_of, end_some f.end)

pub head_bound : (bytes : List ℕ) (h : RequestHead) (rest : List ℕ) → ReadsRequest bytes h rest → 3 * length h.fields ≤ length bytes
unfolding print_request
head_bound bytes h rest r =
    let f = fields_bound h.fields r.0.fields in
    let n : length bytes ≡ length (print_request h) + length rest = ap length r.1 ∙ length-append (print_request h) rest in
    let front : List ℕ = print_blank h.blank ++ h.method ++ 32 ∷ h.target ++ 32 ∷ print_version h.minor ++ print_end h.line_end in
    let m : length (front ++ (flat_map print_field h.fields ++ print_end h.last)) ≡ length front + (length (flat_map print_field h.fields) + length (print_end h.last)) = length-append front (flat_map print_field h.fields ++ print_end h.last) ∙ ap (λ (k : ℕ). length front + k) (length-append (flat_map print_field h.fields) (print_end h.last)) in
    omega (arith, f, n, m)

pub unlike : (bytes : List ℕ) (headers : List HeaderSpan) (spans : RequestSpans) (h : RequestHead) → (¬ (spans.len ≡ length bytes)) → IsRequestAt bytes headers spans h → ReadsRequest bytes h [] → ⊥
unlike bytes headers spans h other at r =
    other (at.len ∙ sym (ap length r.1 ∙ ap length (append-nil (print_request h))))

abbrev made : List ℕ → List ℕ → ℕ → List (List ℕ × List ℕ) → RequestHeadModel
made method target minor fields = record { method = method; target = target; minor = minor; fields = fields }

made_same : (a b : List ℕ) (c : ℕ) (d : List (List ℕ × List ℕ)) (a' b' : List ℕ) (c' : ℕ) (d' : List (List ℕ × List ℕ)) → a ≡ a' → b ≡ b' → c ≡ c' → d ≡ d' → made a b c d ≡ made a' b' c' d'
made_same a b c d a' b' c' d' e1 e2 e3 e4 = cc

pub is_head : (bytes : List ℕ) (headers : List HeaderSpan) (spans : RequestSpans) (p : IsParsed bytes headers spans) (method target : List ℕ) (fields : List (List ℕ × List ℕ))
    → method ≡ span_bytes bytes spans.method → target ≡ span_bytes bytes spans.path → fields ≡ map (header_bytes bytes) (take spans.headers headers)
    → IsHeadOf bytes (made method target spans.version fields)
is_head bytes headers spans p method target fields m t f = (
  p.head,
  p.reads,
  made_same method target spans.version fields p.head.method p.head.target p.head.minor (map name_and_value p.head.fields)
      (m ∙ p.at.method) (t ∙ p.at.path) p.at.version (f ∙ p.at.fields),
)
