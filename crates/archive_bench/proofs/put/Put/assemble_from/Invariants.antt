use Rattle.std.proofs.Common.{◌≡◌, ◌-◌, ◌≤◌}
use Rattle.archive_bench.specs.Archives.{fields_from}
use Rattle.archive_bench.proofs.put.Put.assemble_from.Given as goal

abbrev pub invariant-loop-index : goal.invariant-loop-index
invariant-loop-index l = record {
  from : l.fn.first ≤ l.index;
  gathered : l.assemble.archives ≡ fields_from l.self l.fn.first (l.index - l.fn.first);
  room : l.k ≤ l.assemble.room;
}
