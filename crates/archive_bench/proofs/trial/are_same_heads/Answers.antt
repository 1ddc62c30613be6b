use Rattle.std.proofs.Common.{◌≡◌, ◌∙◌, ℕ, List, nat_eq, refl, ap, ap₂, sym, Decides}
use Rattle.std.specs.Cmp.Lexicographic.{pointwise}
use Rattle.std.proofs.lemmas.Bool.Decides.{Decides-and, Decides-eqb}
use Rattle.std.proofs.lemmas.Slice.Eq.{slice_eq-Decides}
use Rattle.sw_archive.specs.Alike.{pair_eq}
use Rattle.sw_types.specs.Head.{HeadModel, Pair}
use Rattle.archive_bench.proofs.trial.are_same_heads.Goals as goal

-- the test of two pairs
same_bytes : (a b : List ℕ) → Decides (pointwise nat_eq a b) (a ≡ b)
same_bytes a b = slice_eq-Decides Decides-eqb a b (pointwise nat_eq a b) refl

same_pair : (a b : Pair) → Decides (pair_eq a b) (a ≡ b)
same_pair a b =
    let both = Decides-and _ _ (same_bytes a.0 b.0) (same_bytes a.1 b.1) in (
      λ yes. ap₂ (λ (name value : List ℕ). (name, value)) (both.0 yes).0 (both.0 yes).1,
      λ same. both.1 (ap (λ (pair : Pair). pair.0) same, ap (λ (pair : Pair). pair.1) same),
    )

-- two heads of the same parts
same_head : (a b : HeadModel) → a.content_type ≡ b.content_type → a.pairs ≡ b.pairs → a ≡ b
same_head a b = ap₂ (λ (text : List ℕ) (pairs : List Pair). record { content_type = text; pairs = pairs })

pub returns-then-eq : goal.returns-then-eq
returns-then-eq c =
    let a = c.args.a.now in
    let b = c.args.b.now in
    let contents = slice_eq-Decides Decides-eqb c.content_type.result.now c.content_type-2.result.now c.eq.result c.eq.ensures in
    let pairs = slice_eq-Decides same_pair c.pairs.result.now c.pairs-then-eq.result.now c.eq-then-eq.result c.eq-then-eq.ensures in (
      λ yes. same_head a b (sym c.content_type.ensures ∙ contents.0 c.if-eq.true ∙ c.content_type-2.ensures) (sym c.pairs.ensures.pairs ∙ pairs.0 yes ∙ c.pairs-then-eq.ensures.pairs),
      λ same. pairs.1 (c.pairs.ensures.pairs ∙ ap (λ (head : HeadModel). head.pairs) same ∙ sym c.pairs-then-eq.ensures.pairs),
    )

pub returns-else-eq : goal.returns-else-eq
returns-else-eq c =
    let contents = slice_eq-Decides Decides-eqb c.content_type.result.now c.content_type-2.result.now c.eq.result c.eq.ensures in
    (λ yes. absurd (cc), λ same. contents.1 (c.content_type.ensures ∙ ap (λ (head : HeadModel). head.content_type) same ∙ sym c.content_type-2.ensures))
