use Rattle.std.proofs.Common.{◌∙◌, sym}
use Rattle.sw_archive.proofs.PairTexts.{at_front, fits_where_new}
use Rattle.sw_archive.proofs.head_text.fits_behind.Goals as goal

pub returns : goal.returns
returns c = λ pairs rest are.
    fits_where_new c.has_name.result c.args.bytes.now c.args.count c.args.room pairs rest (c.args.name.now, c.args.value.now) are c.if-count-ge-GREATEST_PAIRS.false c.if-name-room.false c.if-value-room.false
    (sym c.is_pair.ensures ∙ c.if-not-is_pair.false) (c.has_name.ensures pairs rest (at_front c.args.bytes.now c.args.count c.args.room pairs rest are) are.counted)
