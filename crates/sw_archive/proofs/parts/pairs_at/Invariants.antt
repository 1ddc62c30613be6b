use Rattle.std.proofs.Common.{◌≡◌, ◌++◌, length}
use Rattle.std.specs.List.{flat_map}
use Rattle.sw_archive.specs.Parts.{pair_bytes}
use Rattle.sw_archive.specs.Parts.{AreShort}
use Rattle.sw_archive.proofs.parts.pairs_at.Given as goal

abbrev pub invariant-loop : goal.invariant-loop
invariant-loop l = record {
  split : l.bytes ≡ flat_map pair_bytes l.pairs.items ++ l.rest;
  count : length l.pairs.items ≡ l.counter;
  short : AreShort l.pairs.items;
}
