use Rattle.std.proofs.Common.{◌≡◌, flat_map, take}
use Rattle.sw_message.specs.Floors.{highest_from}
use Rattle.sw_gather.proofs.Choosing.{floors_of}
use Rattle.sw_get.proofs.round.Round.target.Given as goal

abbrev pub invariant-loop-listing : goal.invariant-loop-listing
invariant-loop-listing l = l.best ≡ highest_from l.fn.from (flat_map floors_of (take l.listing-index l.listing-items))
