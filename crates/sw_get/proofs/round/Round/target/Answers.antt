use Rattle.std.proofs.Common.{ℕ, List, flat_map, sym, ap, ◌∙◌}
use Rattle.std.proofs.lemmas.List.{take_all}
use Rattle.sw_hashdir.specs.Listing.{ListingModel}
use Rattle.sw_message.specs.Floors.{highest_from}
use Rattle.sw_get.specs.Round.{RoundModel}
use Rattle.sw_gather.proofs.Choosing.{floors_more, floors_of}
use Rattle.sw_get.proofs.round.Round.target.Goals as goal

pub loop-listing-preserved : goal.loop-listing-preserved
loop-listing-preserved c =
    c.highest_with-best.ensures ∙ ap (λ best. highest_from best (floors_of c.loop-listing-item.result)) c.loop-listing.invariant
    ∙ sym (floors_more c.args.from.now c.deref-listing-items.result.now c.loop-listing.listing-index c.loop-listing-item.result c.loop-listing-test.true c.loop-listing-item.is)

pub returns : goal.returns
returns c =
    c.loop-listing.invariant
    ∙ ap (λ (lists : List (ℕ × ListingModel)). highest_from c.args.from.now (flat_map floors_of lists)) (
    take_all c.loop-listing.listing-index c.deref-listing-items.result.now c.loop-listing-test.false ∙ c.deref-listing-items.ensures.value
    ∙ ap (λ (round : RoundModel). round.facts.lists) c.self.view_is)
