use Rattle.std.proofs.Common.{◌≡◌, ◌-◌, length}
use Rattle.sw_httpread.specs.Chunks.{Stands, Undecided}
use Rattle.sw_httpread.specs.Reading.{Grew}
use Rattle.sw_httpread.proofs.Standings.{most_undecided}
use Rattle.sw_httpread.proofs.body.next_step.Given as goal

abbrev pub invariant-reading : goal.invariant-reading
invariant-reading g l = record {
  grew : Grew (λ bytes. Stands l.so_far bytes Undecided) (g.N.Conn.remaining l.fn.conn) (g.N.Conn.remaining l.conn) l.fn.carry l.carry;
  written : g.N.Conn.written l.conn ≡ g.N.Conn.written l.fn.conn;
  closed : g.N.Conn.closed l.conn ≡ g.N.Conn.closed l.fn.conn;
  quiet : g.N.Conn.faults l.conn ≡ g.N.Conn.faults l.fn.conn;
}

abbrev pub decreases-reading : goal.decreases-reading
decreases-reading g l = most_undecided - length l.carry
