use Rattle.std.proofs.Common.{◌≡◌, length}
use Rattle.sw_io.proofs.Pieces.{WrotePart}
use Rattle.sw_httpwrite.proofs.write.write_all.Given as goal

abbrev pub invariant-loop-rest : goal.invariant-loop-rest
invariant-loop-rest g l = record {
  part : WrotePart (g.N.Conn.written l.initial.conn) (g.N.Conn.written l.conn) l.initial.rest l.rest;
  remaining : g.N.Conn.remaining l.conn ≡ g.N.Conn.remaining l.initial.conn;
  closed : g.N.Conn.closed l.conn ≡ g.N.Conn.closed l.initial.conn;
  quiet : g.N.Conn.faults l.conn ≡ g.N.Conn.faults l.initial.conn;
}

abbrev pub decreases-loop-rest : goal.decreases-loop-rest
decreases-loop-rest g l = length l.rest
