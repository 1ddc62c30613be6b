use Rattle.sw_request.proofs.Pairs.{pairs_more}
use Rattle.sw_request.proofs.metadata.pairs_in.Goals as goal

pub loop-field-preserved : goal.loop-field-preserved
loop-field-preserved c =
    pairs_more c.args.fields.now c.loop-field.field-index c.field-item.result c.loop-field.pairs.items c.add_field.new.pairs.items c.loop-field-test.true c.field-item.is c.loop-field.invariant c.in_ok-add_field.ensures
