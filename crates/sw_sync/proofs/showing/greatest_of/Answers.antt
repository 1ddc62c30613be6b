use Rattle.std.proofs.Common.{None, flat_map, sym, ap, ◌∙◌}
use Rattle.std.proofs.lemmas.List.{take_all}
use Rattle.sw_message.specs.Floors.{highest_from}
use Rattle.sw_gather.proofs.Choosing.{floors_more, floors_of}
use Rattle.sw_sync.proofs.showing.greatest_of.Goals as goal

pub loop-listing-preserved : goal.loop-listing-preserved
loop-listing-preserved c =
    c.highest_with-best.ensures ∙ ap (λ best. highest_from best (floors_of c.loop-listing-item.result)) c.loop-listing.invariant
    ∙ sym (floors_more None c.args.lists.now c.loop-listing.listing-index c.loop-listing-item.result c.loop-listing-test.true c.loop-listing-item.is)

pub returns : goal.returns
returns c = c.loop-listing.invariant ∙ ap (λ lists. highest_from None (flat_map floors_of lists)) (take_all c.loop-listing.listing-index c.args.lists.now c.loop-listing-test.false)
