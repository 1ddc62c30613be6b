use Rattle.std.proofs.Common.{◌≤◌, ◌-◌}
use Rattle.sw_suffix.specs.Entries.{AreKept, floors_of}
use Rattle.sw_suffix.proofs.Hashed.{AreHashesBelow}
use Rattle.sw_suffix.proofs.hashes.hashes_of.Given as goal

-- the hashes of the suffixes so far
abbrev pub invariant-loop-suffix : goal.invariant-loop-suffix
invariant-loop-suffix l = record {
  kept : AreKept (floors_of l.floors.entries) l.kept.entries;
  hashes : AreHashesBelow l.part l.from (floors_of l.floors.entries) l.hashes.items;
  small : l.from ≤ 4096;
}

abbrev pub decreases-loop-suffix : goal.decreases-loop-suffix
decreases-loop-suffix l = 4096 - l.from
