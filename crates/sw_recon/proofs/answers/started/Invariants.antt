-- The entries so far are those in front.
use Rattle.std.proofs.Common.{◌≡◌, ◌≤◌, deque_capacity, take}
use Rattle.sw_recon.proofs.answers.started.Given as goal

abbrev pub invariant-loop-entry : goal.invariant-loop-entry
invariant-loop-entry l = record {
  front : l.later.items ≡ take l.entry-index l.entry-items;
  room : l.count ≤ deque_capacity l.later;
}
