-- One label more.
use Rattle.std.proofs.Common.{◌++◌, List, [], ◌∷◌, ℕ, map, sym, ap, ◌∙◌, arith}
use Rattle.std.specs.List.{range_with_len}
use Rattle.std.proofs.lemmas.List.FromFn.{map-range_with_len_more}
use Rattle.sw_archive.specs.Put.{put_label}
use Rattle.sw_types.proofs.Policies.{bounds}
use Rattle.sw_archive.proofs.sealing.open_all.Goals as goal

pub overflow_add-index-end : goal.overflow_add-index-end
overflow_add-index-end c = omega (arith, c.k.ensures, c.m.ensures, (bounds c.args.policy.now c.segment.ensures.sound).total)

pub loop-index-preserved : goal.loop-index-preserved
loop-index-preserved c =
    let label = put_label c.args.policy.now c.args.stamp c.args.name.now c.args.object.now in
    c.in_ok-push.ensures.items
    ∙ ap (λ (these : List (List ℕ)). these ++ c.from.result ∷ []) c.loop-index.invariant
    ∙ ap (λ (one : List ℕ). map label (range_with_len 0 c.loop-index.index) ++ one ∷ []) (c.from.ensures ∙ c.in_ok-label.ensures)
    ∙ sym (map-range_with_len_more label 0 c.loop-index.index c.loop-index.index (omega arith))
