use Rattle.std.proofs.Common.{◌≡◌, ◌*◌, ◌∙◌, refl, ap, length, take, drop, zero-mul, arith}
use Rattle.std.proofs.lemmas.List.{take_min, drop_min, drop-drop}
use Rattle.sw_cauchy.proofs.RowTimes.{row_times-none, row_times-more}
use Rattle.sw_cauchy.proofs.rows.write_row_times.Goals as goal

pub loop-factor-init : goal.loop-factor-init
loop-factor-init c = record {
  sum = c.fill.ensures.after (λ y e. e) ∙ row_times-none _ _ _;
  rest = rw zero-mul refl;
}

pub loop-factor-preserved : goal.loop-factor-preserved
loop-factor-preserved c =
    let j = c.loop-factor.factor-index in
    let width = length c.args.sum.now in
    let rest = c.loop-factor.rest.now in
    let piece : c.split_at.result.0.now ≡ take width (drop (j * width) c.args.pieces.now) =
    c.split_at.ensures.front ∙ ap (λ n. take n rest) c.min.ensures ∙ take_min width rest ∙ ap (take width) c.loop-factor.invariant.rest in
    record {
      sum = row_times-more j width _ c.args.pieces.now c.loop-factor.sum c.split_at.result.0.now c.mul_acc.new.dst c.loop-factor.invariant.sum piece c.mul_acc.ensures;
      rest = c.split_at.ensures.back ∙ ap (λ n. drop n rest) c.min.ensures ∙ drop_min width rest
          ∙ ap (drop width) c.loop-factor.invariant.rest ∙ drop-drop width (j * width) c.args.pieces.now
          ∙ ap (λ n. drop n c.args.pieces.now) (omega arith);
    }
