use Rattle.std.proofs.Common.{◌≡◌, map}
use Rattle.std.specs.List.{range_with_len}
use Rattle.sw_archive.specs.Put.{put_label}
use Rattle.sw_archive.proofs.sealing.open_all.Given as goal

abbrev pub invariant-loop-index : goal.invariant-loop-index
invariant-loop-index l = l.labels.items ≡ map (put_label l.policy l.stamp l.name l.object) (range_with_len 0 l.index)
