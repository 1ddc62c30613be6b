-- The greatest floor of those in front.
use Rattle.std.proofs.Common.{◌≡◌, None, flat_map, take}
use Rattle.sw_message.specs.Floors.{highest_from}
use Rattle.sw_gather.proofs.Choosing.{floors_of}
use Rattle.sw_sync.proofs.showing.greatest_of.Given as goal

abbrev pub invariant-loop-listing : goal.invariant-loop-listing
invariant-loop-listing l = l.best ≡ highest_from None (flat_map floors_of (take l.listing-index l.lists))
