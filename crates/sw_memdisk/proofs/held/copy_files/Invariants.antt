use Rattle.std.proofs.Common.{◌≡◌, ◌≤◌, take, vec_capacity}
use Rattle.sw_memdisk.proofs.held.copy_files.Given as goal

abbrev pub invariant-loop-held : goal.invariant-loop-held
invariant-loop-held l = record {
  files : l.files.items ≡ take l.held-index l.others;
  capacity : vec_capacity l.fn.files ≤ vec_capacity l.files;
}
