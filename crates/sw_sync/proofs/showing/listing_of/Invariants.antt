-- None of those in front is of the device.
use Rattle.std.proofs.Common.{◌≡◌, None, take}
use Rattle.std.specs.Prelude.{find}
use Rattle.sw_sync.specs.Sync.{of_device}
use Rattle.sw_sync.proofs.showing.listing_of.Given as goal

abbrev pub invariant-loop-other : goal.invariant-loop-other
invariant-loop-other l = find (of_device l.device) (take l.other-index l.lists) ≡ None
