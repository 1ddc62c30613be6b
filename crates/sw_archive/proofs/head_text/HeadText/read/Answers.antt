use Rattle.std.proofs.Common.{◌∙◌, ◌∷◌, ap, sym}
use Rattle.std.proofs.lemmas.Bool.{MatchBool-at_false}
use Rattle.sw_archive.proofs.PairTexts.{head_parts}
use Rattle.sw_archive.proofs.head_text.HeadText.read.Goals as goal
use Rattle.sw_archive.proofs.head_text.HeadText.read.Goals.{then-not-is_content_type-via-then-not-is_content_type, then-not-is_content_type-via-else-not-is_content_type+then-not-are_pairs}

pub returns-then-not-is_content_type-clause-none : goal.returns-then-not-is_content_type-clause-none
returns-then-not-is_content_type-clause-none c = λ head is.
    let counted = c.in_ok-count.ensures.cases.0 ∙ ap (λ n. n ∷ c.in_ok-count.pairs.now) (sym c.from-count.ensures) in
    let parts = head_parts c.args.bytes.now c.in_ok-content_type.content_type.now c.in_ok-content_type.rest.now c.from-count.result c.in_ok-count.pairs.now head c.in_ok-content_type.ensures.some.0 c.in_ok-content_type.ensures.some.1 counted is in
    elim c.then-not-is_content_type.branch [
      | then-not-is_content_type-via-then-not-is_content_type w ↦ absurd (cc (parts.0, c.is_content_type.ensures, w.if-not-is_content_type.true))
      | then-not-is_content_type-via-else-not-is_content_type+then-not-are_pairs w ↦ MatchBool-at_false _ _ w.if-not-are_pairs.true w.are_pairs.ensures head.pairs parts.1
    ]
