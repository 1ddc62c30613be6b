use Rattle.std.proofs.Common.{◌≡◌, ◌≤◌, ◌+◌, min, sum_by}
use Rattle.sw_words.specs.Counts.{last_count}
use Rattle.sw_memdisk.specs.Disk.{kept_in}
use Rattle.sw_memdisk.specs.Memory.{bytes_in, used_by}
use Rattle.sw_memdisk.proofs.folders.total.Given as goal

-- the bytes so far and those of the folders that are left
abbrev pub invariant-loop-folder : goal.invariant-loop-folder
invariant-loop-folder l = record {
  small : l.total ≤ last_count;
  sum : min (l.total + sum_by bytes_in l.folder-iterator) last_count ≡ min (used_by (kept_in l.folders)) last_count;
}
