use Rattle.std.proofs.Common.{◌+◌, ◌%◌, length, ap, ◌∙◌, arith}
use Rattle.std.proofs.lemmas.List.FromFn.{length-map-range_with_len}
use Rattle.sw_lab.proofs.job.put_object.Goals as goal

pub unreachable-requires : goal.unreachable-requires
unreachable-requires c =
    let number = c.args.number in
    let few = ap length c.in_ok-body.ensures ∙ length-map-range_with_len (λ index. (number + index) % 256) 0 (number % 5000) in
    omega (arith, few, c.in-Err.ensures.0)
