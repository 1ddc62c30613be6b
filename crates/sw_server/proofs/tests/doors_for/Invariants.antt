use Rattle.std.proofs.Common.{All}
use Rattle.sw_io.specs.Memory.{IsUnused}
use Rattle.sw_server.proofs.tests.doors_for.Given as goal

abbrev pub invariant-loop-request : goal.invariant-loop-request
invariant-loop-request l = All IsUnused l.conns.items
