use Rattle.std.proofs.Common.{rules, ◌∙◌, length}
use Rattle.sw_words.specs.Bytes.{IsBytes}
use Rattle.sw_cauchy.proofs.RowTimes.{fragment_from_piece, fragment_from_row}
use Rattle.sw_cauchy.proofs.code.Code.write_fragment.Goals as goal

pub returns-then-index-self : goal.returns-then-index-self
returns-then-index-self c =
    let bytes : IsBytes c.args.segment.now = search rules in
    c.write_piece.ensures
    ∙ fragment_from_piece c.args.self.now.k (length c.args.fragment.now) c.args.segment.now c.args.index c.if-index-self.true bytes c.requires.width

pub returns-else-index-self : goal.returns-else-index-self
returns-else-index-self c =
    c.write_row_times.ensures
    ∙ fragment_from_row c.args.self.now.k (length c.args.fragment.now) c.write_row.new.row c.args.segment.now c.args.index c.write_row.ensures c.requires.width
