use Rattle.std.proofs.Common.{◌≡◌, ◌++◌, map, take, drop}
use Rattle.sw_memdisk.specs.Held.{content_of}
use Rattle.sw_memdisk.specs.Log.{crashed_content}
use Rattle.sw_memdisk.proofs.held.lose_all.Given as goal

abbrev pub invariant-loop-content : goal.invariant-loop-content
invariant-loop-content l = map content_of l.contents ≡ map crashed_content (take l.content-index (map content_of l.initial.contents)) ++ drop l.content-index (map content_of l.initial.contents)
