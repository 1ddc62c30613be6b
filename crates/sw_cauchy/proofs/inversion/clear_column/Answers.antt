use Rattle.sw_cauchy.proofs.EliminationSteps.{Cleared-none, Cleared-past, Cleared-more}
use Rattle.sw_cauchy.proofs.inversion.clear_column.Goals as goal
use Rattle.sw_cauchy.proofs.inversion.clear_column.Goals.{then-row-column, else-row-column}

pub loop-row-init : goal.loop-row-init
loop-row-init c = Cleared-none c.args.k c.args.column c.args.current.now c.args.companion.now c.requires.one

pub loop-row-preserved : goal.loop-row-preserved
loop-row-preserved c =
    let k = c.args.k in
    let column = c.args.column in
    let current = c.loop-row.current in
    let companion = c.loop-row.companion in
    elim c.if-row-column.branch [
      | then-row-column w ↦
          let step = w.clear_entry.ensures in
          rw (w.current-is, w.companion-is)
          (Cleared-more k column c.args.current.now c.args.companion.now current companion w.clear_entry.new.current w.clear_entry.new.companion c.loop-row.row
          c.requires.within w.if-row-column.true c.loop-row.invariant step.operation step.cleared step.others c.loop-row-test.true)
      | else-row-column w ↦
          rw (w.current-is, w.companion-is)
          (Cleared-past k column c.args.current.now c.args.companion.now current companion c.loop-row.row w.if-row-column.false c.loop-row.invariant)
    ]
