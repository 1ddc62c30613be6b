use Rattle.std.proofs.Common.{◌≡◌, ◌≤◌, ◌+◌, ◌*◌, ◌++◌, ◌∙◌, sym, ap, ap₂, length, get_or, take, arith}
use Rattle.std.proofs.lemmas.List.{take_all, take_more}
use Rattle.std.proofs.lemmas.Nat.{row_fits}
use Rattle.sw_cauchy.specs.Rows.{generator_row, generator_rows}
use Rattle.sw_cauchy.proofs.Parts.{flat_map-push, next_part_of_slice}
use Rattle.sw_cauchy.proofs.GeneratorRows.{length-generator_row}
use Rattle.sw_cauchy.proofs.decode.write_generator_rows.Goals as goal

pub loop-t-preserved : goal.loop-t-preserved
loop-t-preserved c =
    let k = c.args.code.k in
    let t = c.loop-t.t in
    let indices = c.args.indices.now in
    let within : t * k + k ≤ length c.loop-t.rows = omega (arith, row_fits t k k k (omega arith) (omega arith)) in
    next_part_of_slice t k c.loop-t.rows c.write_row.new.row (ap length c.write_row.ensures ∙ length-generator_row k _) within
    ∙ ap₂ (λ before new. before ++ new) c.loop-t.invariant c.write_row.ensures
    ∙ sym (ap (generator_rows k) (take_more indices t 0 c.loop-t-test.true) ∙ flat_map-push (generator_row k) (take t indices) (get_or indices t 0))

pub returns : goal.returns
returns c =
    let k = c.args.code.k in
    let t = c.loop-t.t in
    let all : t ≡ k = omega arith in
    sym (take_all (t * k) c.loop-t.rows (omega (arith, ap (λ n. n * k) all))) ∙ c.loop-t.invariant ∙ ap (generator_rows k) (take_all t c.args.indices.now (omega arith))
