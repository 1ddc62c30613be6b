use Rattle.std.proofs.Common.{◌≡◌, ℕ, List, nat_eq, refl}
use Rattle.std.specs.Cmp.Lexicographic.{pointwise}
use Rattle.std.specs.Bool.{Decides}
use Rattle.std.proofs.lemmas.Bool.Decides.{Decides-eqb}
use Rattle.std.proofs.lemmas.Slice.Eq.{slice_eq-Decides}
use Rattle.code_bench.proofs.trial.agrees.Goals as goal

-- the test of two lists of bytes
same_bytes : (xs ys : List ℕ) → Decides (pointwise nat_eq xs ys) (xs ≡ ys)
same_bytes xs ys = slice_eq-Decides Decides-eqb xs ys (pointwise nat_eq xs ys) refl

pub returns-then-eq : goal.returns-then-eq
returns-then-eq c =
    let fragments = slice_eq-Decides same_bytes c.args.fragments.now c.args.plain.now c.eq.result c.eq.ensures in
    let segment = slice_eq-Decides Decides-eqb c.args.segment.now c.args.decoded.now c.eq-then-eq.result c.eq-then-eq.ensures in
    (λ yes. (fragments.0 c.if-eq.true, segment.0 yes), λ same. segment.1 same.1)

pub returns-else-eq : goal.returns-else-eq
returns-else-eq c =
    let fragments = slice_eq-Decides same_bytes c.args.fragments.now c.args.plain.now c.eq.result c.eq.ensures in
    (λ yes. absurd (cc), λ same. fragments.1 same.0)
