use Rattle.std.specs.Prelude.{All}
use Rattle.sw_io.specs.Memory.{IsUnused}
use Rattle.sw_io.proofs.doors_tests.conns_of.Given as goal

abbrev pub invariant-loop-text : goal.invariant-loop-text
invariant-loop-text l = All IsUnused l.conns.items
