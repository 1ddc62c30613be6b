use Rattle.std.proofs.Common.{◌++◌, append_assoc, ap, sym, ◌∙◌, map, take}
use Rattle.std.specs.List.{concat}
use Rattle.sw_sim_text.proofs.Printed.{lines_more}
use Rattle.sw_sim_text.proofs.lines.add_lines.Goals as goal

pub loop-item-preserved : goal.loop-item-preserved
loop-item-preserved g c =
    let text = g.L.Line.text in
    let before = concat (map text (take c.loop-item.item-index c.args.items.now)) in
    rw (c.in_ok-extend_from_slice.ensures.ok, c.as_slice.ensures, c.in_ok-line.ensures, c.loop-item.invariant)
    (append_assoc c.args.lines.now before (text c.item-item.result)
    ∙ ap (λ lines. c.args.lines.now ++ lines) (sym (lines_more text c.args.items.now c.loop-item.item-index c.item-item.result c.loop-item-test.true c.item-item.is)))
