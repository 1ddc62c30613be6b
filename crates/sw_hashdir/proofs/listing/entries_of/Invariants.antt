use Rattle.std.proofs.Common.{take}
use Rattle.sw_hashdir.specs.Directory.{HasEntry}
use Rattle.sw_hashdir.proofs.Listed.{AreKept}
use Rattle.sw_hashdir.proofs.Listings.{entry_name}
use Rattle.sw_hashdir.proofs.listing.entries_of.Given as goal

abbrev pub invariant-loop-name : goal.invariant-loop-name
invariant-loop-name l = AreKept entry_name (HasEntry l.names) (take l.name-index l.names) l.entries.items
