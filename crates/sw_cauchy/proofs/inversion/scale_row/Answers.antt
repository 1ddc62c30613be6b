use Rattle.std.proofs.Common.{◌≡◌, ◌+◌, ◌-◌, ◌*◌, length, take, drop, ◌∙◌, arith}
use Rattle.std.proofs.lemmas.Nat.{row_fits}
use Rattle.std.proofs.lemmas.List.{length-take-le, length-drop}
use Rattle.sw_cauchy.proofs.MatrixRows.{Scaled-from_parts}
use Rattle.sw_cauchy.proofs.inversion.scale_row.Goals as goal

pub returns : goal.returns
returns c =
    let k = c.args.k in
    let position = c.args.row * k in
    let old = c.args.matrix.now in
    let fits = row_fits c.args.row k k k c.requires.within (omega arith) in
    let long : length (take (position + k - position) (drop position old)) ≡ k = (length-take-le (position + k - position) (drop position old) (omega (arith, length-drop position old)) ∙ omega arith) in
    Scaled-from_parts k c.args.row c.args.factor (position + k - position) old c.loop-entry.entry-items c.requires.square c.requires.within (omega arith)
    (c.loop-entry.auto.entry-items ∙ long) (λ j h. c.loop-entry.invariant.written j (omega (arith, long)))
