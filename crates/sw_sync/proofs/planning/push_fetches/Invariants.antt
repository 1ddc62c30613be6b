-- The fetches from the sources in front are added.
use Rattle.std.proofs.Common.{◌≡◌, ◌++◌, map, take}
use Rattle.sw_sync.specs.declared.errand.Errand.TheVariants.{Fetch}
use Rattle.sw_sync.proofs.planning.push_fetches.Given as goal

abbrev pub invariant-loop-source : goal.invariant-loop-source
invariant-loop-source l = l.due.items ≡ l.fn.due.items ++ map Fetch (take l.source-index l.sources)
