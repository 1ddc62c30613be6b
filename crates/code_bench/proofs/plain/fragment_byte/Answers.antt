use Rattle.std.proofs.Common.{◌≡◌, ◌+◌, ◌*◌, ◌∙◌, refl, sym, ap, ap₂, add-one, get_or, rules, arith, bit_xor}
use Rattle.sw_gf256.specs.Field.{product}
use Rattle.sw_cauchy.specs.Matrix.{entry, row_sum}
use Rattle.sw_cauchy.proofs.Fragments.{get_or-segment_fragment}
use Rattle.code_bench.proofs.plain.fragment_byte.Goals as goal

pub loop-j-init : goal.loop-j-init
unfolding row_sum
loop-j-init c = refl

pub loop-j-preserved : goal.loop-j-preserved
unfolding row_sum
loop-j-preserved c =
    let j = c.loop-j.j in
    let width = c.fragment_width-width.result in
    let byte : c.unwrap_or-byte.result ≡ get_or c.args.segment.now (j * width + c.args.position) 0 = search rules in
    ap₂ bit_xor c.loop-j.invariant (c.mul-sum.ensures.value ∙ ap₂ product c.coefficient.ensures byte)
    ∙ ap (λ n. row_sum n (entry c.args.code.k c.args.i) (λ t. get_or c.args.segment.now (t * width + c.args.position) 0)) (sym (add-one j))

pub returns : goal.returns
returns c =
    let width = c.fragment_width-width.result in
    let all : c.loop-j.j ≡ c.args.code.k = omega arith in
    c.loop-j.invariant
    ∙ ap (λ n. row_sum n (entry c.args.code.k c.args.i) (λ t. get_or c.args.segment.now (t * width + c.args.position) 0)) all
    ∙ sym (get_or-segment_fragment c.args.code.k c.args.segment.now c.args.i width c.args.position c.fragment_width-width.ensures (omega arith))
