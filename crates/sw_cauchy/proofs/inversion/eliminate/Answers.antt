use Rattle.std.proofs.Common.{rules}
use Rattle.sw_words.specs.Bytes.{IsBytes}
use Rattle.sw_cauchy.proofs.EliminationSteps.{Operation-made_one, entry_made_one}
use Rattle.sw_cauchy.proofs.RowOperations.{Operation-after, unit_columns_more}
use Rattle.sw_cauchy.proofs.inversion.eliminate.Goals as goal

pub clear_column-requires-clause-one : goal.clear_column-requires-clause-one
clear_column-requires-clause-one c =
    let bytes : IsBytes c.fill_pivot.new.current = search rules in
    let companion_bytes : IsBytes c.fill_pivot.new.companion = search rules in
    entry_made_one c.args.k c.args.column c.fill_pivot.new.current c.scale_row.new.matrix c.fill_pivot.new.companion c.scale_row-2.new.matrix c.requires.within bytes companion_bytes
    c.inv-scale.result c.fill_pivot.ensures.pivot c.inv-scale.ensures.value c.scale_row.ensures

pub returns-clause-operation : goal.returns-clause-operation
returns-clause-operation c =
    let k = c.args.k in
    let column = c.args.column in
    let bytes : IsBytes c.fill_pivot.new.current = search rules in
    let companion_bytes : IsBytes c.fill_pivot.new.companion = search rules in
    let scaled = Operation-made_one k column c.fill_pivot.new.current c.scale_row.new.matrix c.fill_pivot.new.companion c.scale_row-2.new.matrix c.requires.within bytes companion_bytes
    c.inv-scale.result c.fill_pivot.ensures.pivot c.inv-scale.ensures.value c.scale_row.ensures c.scale_row-2.ensures in
    Operation-after k column c.args.current.now c.args.companion.now c.fill_pivot.new.current c.fill_pivot.new.companion c.clear_column.new.current c.clear_column.new.companion
    c.fill_pivot.ensures.operation
    (Operation-after k column c.fill_pivot.new.current c.fill_pivot.new.companion c.scale_row.new.matrix c.scale_row-2.new.matrix c.clear_column.new.current c.clear_column.new.companion
    scaled c.clear_column.ensures.operation)

pub returns-clause-after : goal.returns-clause-after
returns-clause-after c =
    unit_columns_more c.args.k c.args.column c.clear_column.new.current c.requires.within
    ((returns-clause-operation c).unit_columns_kept c.requires.before) c.clear_column.ensures.one c.clear_column.ensures.cleared
