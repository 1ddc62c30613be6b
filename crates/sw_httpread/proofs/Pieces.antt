-- Reading piece by piece.
use Rattle.std.proofs.Common.{inr, ℕ, List, ◌++◌, Option, refl, ap, ◌∙◌, subst, append_assoc, arith}
use Rattle.std.proofs.KnownBytes.{Consumes-trans}
use Rattle.sw_httpread.specs.Reading.{Grew, IsRead}

-- one more read, which the bytes so far did not make needless
pub grew_more : (IsOpen : List ℕ → Type 0) (a b c : Option (List ℕ)) (x y z : List ℕ) (n : ℕ) → Grew IsOpen a b x y → IsOpen y → IsRead b c y z n → Grew IsOpen a c x z
grew_more IsOpen a b c x y z n p open_so_far q = record {
  got = p.got ++ q.piece;
  consumed = Consumes-trans a b c p.got q.piece p.consumed q.consumed;
  grown = q.grown ∙ ap (λ (t : List ℕ). t ++ q.piece) p.grown ∙ append_assoc x p.got q.piece;
  needed = inr (p.got, q.piece, refl, omega (arith, q.counted, q.bound), subst IsOpen p.grown open_so_far);
}
