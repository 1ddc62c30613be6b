use Rattle.std.proofs.Common.{◌≡◌, ◌++◌, map, take}
use Rattle.std.specs.List.{concat}
use Rattle.sw_sim_text.proofs.lines.add_lines.Given as goal

abbrev pub invariant-loop-item : goal.invariant-loop-item
invariant-loop-item g l = l.lines ≡ l.initial.lines ++ concat (map g.L.Line.text (take l.item-index l.items))
