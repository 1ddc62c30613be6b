-- The seat of a node stays one through its steps.
use Rattle.std.proofs.Common.{◌≡◌, ◌∙◌, ℕ, ap, refl, subst, sym}
use Rattle.sw_pass.specs.Steps.{claim, claimed, joined, learned}
use Rattle.sw_pass.specs.declared.known.Kind.TheVariants as kind
use Rattle.sw_pass.specs.declared.known.Known.{Known}

pub joined_by : (x : ℕ) (m v w u : Known) → m ≡ joined v w → v.kind ≡ kind.Node x → u ≡ learned m → u.kind ≡ kind.Node x
joined_by x m v w u e node is = ap (λ (z : Known). z.kind) (is ∙ ap learned e) ∙ node

pub claimed_by : (x n : ℕ) (v w : Known) → w ≡ claim x n v → n ≡ 0 → w.kind ≡ kind.Node x
claimed_by x n v w e z =
    let is : claim x n v ≡ claimed x v = subst (λ m. claim x m v ≡ claimed x v) (sym z) refl in
    ap (λ (k : Known). k.kind) (e ∙ is)
