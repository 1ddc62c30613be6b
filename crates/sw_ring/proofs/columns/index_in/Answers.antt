use Rattle.std.proofs.Common.{rules, ◌∙◌, sym}
use Rattle.std.specs.List.{slice_get}
use Rattle.std.proofs.lemmas.Iterator.{YieldsList-from_slice}
use Rattle.std.proofs.lemmas.Iterator.Search.{position_from_yields_List}
use Rattle.sw_ring.specs.Ring.{option_is}
use Rattle.sw_ring.proofs.Partition.{position-map}
use Rattle.sw_ring.proofs.columns.index_in.Goals as goal

pub returns : goal.returns
returns c =
    position_from_yields_List (λ row. option_is (slice_get row.items c.args.part) c.args.device) _ _ c.position.result c.position.ensures.ran
    (YieldsList-from_slice c.args.rows.now c.iter.ensures.rest) (λ x b q k. search rules)
    ∙ sym (position-map (λ row. option_is (slice_get row c.args.part) c.args.device) (λ row. row.items) c.args.rows.now)
