use Rattle.std.proofs.Common.{◌≡◌, ◌∙◌, ℕ, List, ap, ap₂, sym}
use Rattle.std.proofs.lemmas.Bool.Decides.{Decides-eqb}
use Rattle.std.proofs.lemmas.Slice.Eq.{slice_eq-Decides}
use Rattle.sw_types.specs.Object.{IsObject, ObjectModel, object_of}
use Rattle.archive_bench.proofs.trial.are_same.Goals as goal

-- an object is that of its head and its body
whole : (object : ObjectModel) → IsObject object → object ≡ object_of object.head object.body
whole object is = ap (λ (bytes : List ℕ). record object { body_md5 = bytes }) is.body_md5

pub returns-then-are_same_heads : goal.returns-then-are_same_heads
returns-then-are_same_heads c =
    let a = c.args.a.now in
    let b = c.args.b.now in
    let heads = sym c.head.ensures ∙ c.are_same_heads.ensures.0 c.if-are_same_heads.true ∙ c.head-2.ensures in
    let bodies = slice_eq-Decides Decides-eqb c.body.result.now c.body-then-are_same_heads.result.now c.eq.result c.eq.ensures in (
      λ yes. whole a c.body.ensures.sound ∙ ap₂ object_of heads (sym c.body.ensures.body ∙ bodies.0 yes ∙ c.body-then-are_same_heads.ensures.body)
          ∙ sym (whole b c.body-then-are_same_heads.ensures.sound),
      λ same. bodies.1 (c.body.ensures.body ∙ ap (λ (object : ObjectModel). object.body) same ∙ sym c.body-then-are_same_heads.ensures.body),
    )

pub returns-else-are_same_heads : goal.returns-else-are_same_heads
returns-else-are_same_heads c =
    (λ yes. absurd (cc), λ same. c.are_same_heads.ensures.1 (c.head.ensures ∙ ap (λ (object : ObjectModel). object.head) same ∙ sym c.head-2.ensures))
