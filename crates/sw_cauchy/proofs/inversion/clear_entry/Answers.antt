use Rattle.std.proofs.Common.{rules}
use Rattle.sw_words.specs.Bytes.{IsBytes}
use Rattle.sw_cauchy.proofs.EliminationSteps.{Operation-cleared, entry_cleared}
use Rattle.sw_cauchy.proofs.inversion.clear_entry.Goals as goal

pub returns-clause-operation : goal.returns-clause-operation
returns-clause-operation c =
    let bytes : IsBytes c.args.current.now = search rules in
    let companion_bytes : IsBytes c.args.companion.now = search rules in
    Operation-cleared c.args.k c.args.column c.args.current.now c.add_row.new.matrix c.args.companion.now c.add_row-2.new.matrix c.requires.column_within bytes companion_bytes
    c.args.row c.requires.row_within c.requires.apart c.add_row.ensures c.add_row-2.ensures

pub returns-clause-cleared : goal.returns-clause-cleared
returns-clause-cleared c =
    let bytes : IsBytes c.args.current.now = search rules in
    let companion_bytes : IsBytes c.args.companion.now = search rules in
    entry_cleared c.args.k c.args.column c.args.current.now c.add_row.new.matrix c.args.companion.now c.add_row-2.new.matrix c.requires.column_within bytes companion_bytes
    c.args.row c.requires.one c.add_row.ensures
