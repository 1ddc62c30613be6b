use Rattle.std.proofs.Common.{◌≡◌, map, take}
use Rattle.sw_archive.specs.Decoding.{share_at}
use Rattle.sw_archive.proofs.decoding.gather_fragments.Given as goal

abbrev pub invariant-loop-archive : goal.invariant-loop-archive
invariant-loop-archive l = l.gather ≡ record { k = l.fn.layout.code.k; m = l.fn.layout.code.m; width = l.width; shares = map (share_at l.offset l.width) (take l.archive-index l.archives) }
