-- The tombstone goes to those in front that list a smaller floor, or none.
use Rattle.std.proofs.Common.{◌≡◌, filter, map, take}
use Rattle.sw_sync.specs.Sync.{listing_of, lists_below}
use Rattle.sw_sync.specs.declared.errand.Errand.TheVariants.{Delete}
use Rattle.sw_sync.proofs.planning.burial_of.Given as goal

abbrev pub invariant-loop-device : goal.invariant-loop-device
invariant-loop-device l = l.due.items ≡ map Delete (filter (λ device. lists_below l.floor (listing_of l.heard.lists device)) (take l.device-index l.devices))
