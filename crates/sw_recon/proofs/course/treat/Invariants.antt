-- To treat what is left comes to the same as to treat the whole, and there is room for each that is left.
use Rattle.std.proofs.Common.{◌≡◌, ◌+◌, ◌≤◌, length, vec_capacity}
use Rattle.sw_recon.specs.Course.{most_entries}
use Rattle.sw_recon.specs.Revert.{treat}
use Rattle.sw_recon.proofs.course.treat.Given as goal

abbrev pub invariant-loop-entry : goal.invariant-loop-entry
invariant-loop-entry l = record {
  same : treat l.fn.total l.later.items l.fn.removed l.kept.items ≡ treat l.fn.total l.fn.later.items l.fn.removed l.fn.kept.items;
  room : length l.kept.items + length l.later.items ≤ vec_capacity l.kept;
  few : l.fn.removed + length l.kept.items + length l.later.items ≤ most_entries;
}

abbrev pub decreases-loop-entry : goal.decreases-loop-entry
decreases-loop-entry l = length l.later.items
