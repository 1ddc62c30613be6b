use Rattle.std.proofs.Common.{◌≡◌, length}
use Rattle.sw_io.proofs.Pieces.{WrotePart}
use Rattle.sw_io.proofs.sink.write_all.Given as goal

abbrev pub invariant-loop-rest : goal.invariant-loop-rest
invariant-loop-rest g l = record {
  part : WrotePart (g.O.Sink.written l.initial.sink) (g.O.Sink.written l.sink) l.initial.rest l.rest;
  quiet : g.O.Sink.faults l.sink ≡ g.O.Sink.faults l.initial.sink;
}

abbrev pub decreases-loop-rest : goal.decreases-loop-rest
decreases-loop-rest g l = length l.rest
