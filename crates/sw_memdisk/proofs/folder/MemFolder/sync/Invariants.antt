use Rattle.std.proofs.Common.{◌≡◌, ◌≤◌, ◌-◌, ◌++◌, replicate, vec_capacity, vec_len}
use Rattle.sw_memdisk.proofs.folder.MemFolder.sync.Given as goal

abbrev pub invariant-changes : goal.invariant-changes
invariant-changes l = record {
  items : l.self-inside.stable_at.items ≡ l.initial.self-inside.stable_at.items ++ replicate (vec_len l.self-inside.stable_at - vec_len l.initial.self-inside.stable_at) l.call;
  more : vec_len l.initial.self-inside.stable_at ≤ vec_len l.self-inside.stable_at;
  within : vec_len l.self-inside.stable_at ≤ vec_len l.initial.self-inside.changes;
  capacity : vec_capacity l.initial.self-inside.stable_at ≤ vec_capacity l.self-inside.stable_at;
  contents : l.self-inside.contents ≡ l.initial.self-inside.contents;
  base : l.self-inside.base ≡ l.initial.self-inside.base;
  files : l.self-inside.files ≡ l.initial.self-inside.files;
  changes : l.self-inside.changes ≡ l.initial.self-inside.changes;
  room : l.self-inside.room ≡ l.initial.self-inside.room;
}

abbrev pub decreases-changes : goal.decreases-changes
decreases-changes l = vec_len l.self-inside.changes - vec_len l.self-inside.stable_at
