use Rattle.std.proofs.Common.{◌≡◌, ◌+◌, ◌≤◌, drop, vec_capacity, vec_len}
use Rattle.sw_memdisk.specs.Held.{all_moved}
use Rattle.sw_memdisk.proofs.held.apply_all.Given as goal

abbrev pub invariant-loop-change : goal.invariant-loop-change
invariant-loop-change l = record {
  files : all_moved (drop l.change-index l.changes) l.files.items ≡ all_moved l.changes l.initial.files.items;
  len : vec_len l.files ≤ vec_len l.initial.files + l.change-index;
  capacity : vec_capacity l.initial.files ≤ vec_capacity l.files;
}
