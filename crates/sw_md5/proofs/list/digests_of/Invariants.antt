use Rattle.std.proofs.Common.{◌≡◌, ◌*◌, map, take}
use Rattle.md5.specs.Md5.{md5}
use Rattle.sw_md5.proofs.list.digests_of.Given as goal

-- the digests so far
abbrev pub invariant-loop-group : goal.invariant-loop-group
invariant-loop-group l = l.digests.items ≡ map md5 (take (32 * l.group) l.messages)
