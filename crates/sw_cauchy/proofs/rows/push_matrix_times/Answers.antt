use Rattle.std.proofs.Common.{◌≡◌, ◌+◌, ◌*◌, List, ℕ, ◌++◌, ◌∙◌, sym, ap, arith, append_assoc}
use Rattle.std.proofs.lemmas.List.Edits.{length-between, get_or-between}
use Rattle.std.proofs.lemmas.Nat.{row_fits}
use Rattle.sw_cauchy.specs.Linear.{matrix_entry}
use Rattle.sw_cauchy.specs.Rows.{row_times, rows_times}
use Rattle.sw_cauchy.proofs.Parts.{flat_map-range_more}
use Rattle.sw_cauchy.proofs.RowTimes.{row_times-same}
use Rattle.sw_cauchy.proofs.rows.push_matrix_times.Goals as goal

pub loop-i-preserved : goal.loop-i-preserved
loop-i-preserved c =
    let k = c.args.k in
    let width = c.args.width in
    let i = c.loop-i.i in
    let row = λ (j : ℕ). row_times k width (matrix_entry k c.args.matrix.now j) c.args.pieces.now in
    let before = c.args.out.now.items in
    let made : c.push_row_times.new.out.items ≡ c.loop-i.out.items ++ row i =
    c.in_ok-push_row_times.ensures
    ∙ ap (λ (bytes : List ℕ). c.loop-i.out.items ++ bytes)
    (row_times-same _ k width width _ (matrix_entry k c.args.matrix.now i) c.args.pieces.now
    (length-between c.args.matrix.now (i * k) ((i + 1) * k) (omega (arith, c.requires, row_fits i k k k c.loop-i-test.true (omega arith))) ∙ omega arith)
    (omega arith)
    (λ j h. get_or-between c.args.matrix.now (i * k) ((i + 1) * k) j 0 (omega arith))) in
    made ∙ ap (λ (bytes : List ℕ). bytes ++ row i) c.loop-i.invariant
    ∙ append_assoc before (rows_times k width c.args.matrix.now c.args.pieces.now i) (row i)
    ∙ ap (λ (bytes : List ℕ). before ++ bytes) (sym (flat_map-range_more row i))
