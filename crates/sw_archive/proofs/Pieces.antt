-- Pieces and their fragments; the pieces of a put's segments: each with zeros behind it.
use Rattle.std.proofs.Common.{◌≡◌, ℕ, zero, suc, ◌-◌, ◌*◌, ◌<◌, ◌≤◌, List, [], ◌∷◌, ◌++◌, length, take, drop, min, sym, ap, subst, ◌∙◌, inl, inr, arith, length-drop, length-take}
use Rattle.std.proofs.lemmas.Bool.{cases_lt}
use Rattle.std.proofs.lemmas.List.{nil_from_length, take-append-drop}
use Rattle.sw_words.specs.Bytes.{IsBytes}
use Rattle.sw_words.proofs.ByteLists.{IsBytes-append, IsBytes-drop, IsBytes-none, IsBytes-take}
use Rattle.sw_cauchy.specs.Stripe.{fragment, fragment_width, padded}
use Rattle.sw_cauchy.proofs.Fragments.{IsBytes-fragment, IsBytes-padded, length-padded, take-padded}
use Rattle.sw_archive.specs.Pieces.{ArePieces, joined_fragments, joined_segments}
use Rattle.sw_archive.specs.Put.{payload}
use Rattle.sw_archive.proofs.Payloads.{payload-nil, payload-step}

-- fragments of pieces, joined, are bytes
pub IsBytes-joined : (k size total : ℕ) (pieces : List (List ℕ)) (index : ℕ) → ArePieces k size total pieces → IsBytes (joined_fragments k size total pieces index)
IsBytes-joined k size total [] index are = IsBytes-none
IsBytes-joined k size total (first ∷ others) index are =
    IsBytes-append (fragment k (fragment_width k (min size total)) first index) (joined_fragments k size (total - size) others index)
    (IsBytes-fragment k (fragment_width k (min size total)) first index are.1) (IsBytes-joined k size (total - size) others index are.3)

-- the pieces of a body: its payloads have their fragments, and it is their segments
pub record OfBody (k size : ℕ) (body : List ℕ) : Type 0 where
  pub pieces : List (List ℕ)
  pub are : ArePieces k size (length body) pieces
  pub fragments : (index : ℕ) → payload k size body index ≡ joined_fragments k size (length body) pieces index
  pub segments : joined_segments size (length body) pieces ≡ body

of_nothing : (k size : ℕ) (body : List ℕ) → length body ≡ 0 → OfBody k size body
of_nothing k size body none =
    let empty : body ≡ [] = nil_from_length body none in
    record { pieces = []; are = none; fragments = λ index. ap (λ b. payload k size b index) empty ∙ payload-nil k size index; segments = sym empty }

-- the pieces of the first segment, before those of the rest
first_before : (k size : ℕ) (body : List ℕ) → 0 < k → 0 < size → IsBytes body → 0 < length body → OfBody k size (drop size body) → OfBody k size body
first_before k size body some whole bytes more rest =
    let front : List ℕ = take size body in
    let tail : List ℕ = drop size body in
    let n : ℕ = min size (length body) in
    let left : length tail ≡ length body - size = length-drop size body in
    let counted : length front ≡ n = omega (arith, length-take size body) in
    record {
      pieces = padded k front ∷ rest.pieces;
      are = (
        more,
        IsBytes-padded k front (IsBytes-take size body bytes),
        length-padded k front some ∙ ap (λ c. k * fragment_width k c) counted,
        subst (λ c. ArePieces k size c rest.pieces) left rest.are,
      );
      fragments = λ index.
          payload-step k size body index whole more ∙ ap (λ c. fragment k (fragment_width k c) (padded k front) index ++ payload k size tail index) counted
          ∙ ap (λ bytes. fragment k (fragment_width k n) (padded k front) index ++ bytes) (rest.fragments index ∙ ap (λ c. joined_fragments k size c rest.pieces index) left);
      segments = ap (λ c. take c (padded k front) ++ joined_segments size (length body - size) rest.pieces) (sym counted)
          ∙ ap (λ bytes. bytes ++ joined_segments size (length body - size) rest.pieces) (take-padded k front)
          ∙ ap (λ bytes. front ++ bytes) (ap (λ c. joined_segments size c rest.pieces) (sym left) ∙ rest.segments) ∙ take-append-drop size body;
    }

-- of a body of at most n bytes
of_body_up_to : (n k size : ℕ) (body : List ℕ) → 0 < k → 0 < size → IsBytes body → length body ≤ n → OfBody k size body
of_body_up_to zero k size body some whole bytes le = of_nothing k size body (omega (arith, le))
of_body_up_to (suc n) k size body some whole bytes le = elim (cases_lt 0 (length body)) [
  | inr none ↦ of_nothing k size body (omega (arith, none))
  | inl more ↦
      first_before k size body some whole bytes more
      (of_body_up_to n k size (drop size body) some whole (IsBytes-drop size body bytes) (omega (arith, le, more, whole, length-drop size body)))
]

pub of_body : (k size : ℕ) (body : List ℕ) → 0 < k → 0 < size → IsBytes body → OfBody k size body
of_body k size body some whole bytes = of_body_up_to (length body) k size body some whole bytes (omega arith)
