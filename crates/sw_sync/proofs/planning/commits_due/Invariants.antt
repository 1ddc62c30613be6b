-- The commits of those in front that are plain.
use Rattle.std.proofs.Common.{◌≡◌, filter, map, take}
use Rattle.sw_sync.specs.Sync.{shows_plain}
use Rattle.sw_sync.specs.declared.errand.Errand.TheVariants.{Commit}
use Rattle.sw_sync.proofs.planning.commits_due.Given as goal

abbrev pub invariant-loop-target : goal.invariant-loop-target
invariant-loop-target l = l.due.items ≡ map Commit (filter (shows_plain l.stamp l.lists) (take l.target-index l.targets))
