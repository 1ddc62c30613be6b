use Rattle.std.proofs.Common.{rules, ◌<◌, subst, sym}
use Rattle.sw_words.specs.Bytes.{IsBytes}
use Rattle.sw_cauchy.proofs.EliminationSteps.{Operation-filled, entry_filled}
use Rattle.sw_cauchy.proofs.inversion.fill_pivot.Goals as goal

pub returns-then-current-column-eq0-clause-operation :
    goal.returns-then-current-column-eq0-clause-operation
returns-then-current-column-eq0-clause-operation c =
    let found = c.find_pivot-row.ensures in
    let bytes : IsBytes c.args.current.now = search rules in
    let companion_bytes : IsBytes c.args.companion.now = search rules in
    Operation-filled c.args.k c.args.column c.args.current.now c.add_row.new.matrix c.args.companion.now c.add_row-then-current-column-eq0.new.matrix c.requires.within bytes companion_bytes
    c.find_pivot-row.result found.within found.from c.if-current-column-eq0.true found.pivot c.add_row.ensures c.add_row-then-current-column-eq0.ensures

pub returns-then-current-column-eq0-clause-pivot :
    goal.returns-then-current-column-eq0-clause-pivot
returns-then-current-column-eq0-clause-pivot c =
    let bytes : IsBytes c.args.current.now = search rules in
    let companion_bytes : IsBytes c.args.companion.now = search rules in
    subst (λ x. 0 < x)
    (sym (entry_filled c.args.k c.args.column c.args.current.now c.add_row.new.matrix c.args.companion.now c.add_row-then-current-column-eq0.new.matrix c.requires.within bytes companion_bytes
    c.find_pivot-row.result c.if-current-column-eq0.true c.add_row.ensures))
    c.find_pivot-row.ensures.pivot
