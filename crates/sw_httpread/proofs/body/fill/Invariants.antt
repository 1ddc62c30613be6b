use Rattle.std.proofs.Common.{◌≡◌, ◌-◌, ◌<◌, length}
use Rattle.sw_httpread.specs.Reading.{Grew}
use Rattle.sw_httpread.proofs.body.fill.Given as goal

abbrev pub invariant-filling : goal.invariant-filling
invariant-filling g l = record {
  grew : Grew (λ bytes. length bytes < l.size) (g.N.Conn.remaining l.fn.conn) (g.N.Conn.remaining l.conn) l.fn.carry l.carry;
  written : g.N.Conn.written l.conn ≡ g.N.Conn.written l.fn.conn;
  closed : g.N.Conn.closed l.conn ≡ g.N.Conn.closed l.fn.conn;
  quiet : g.N.Conn.faults l.conn ≡ g.N.Conn.faults l.fn.conn;
}

abbrev pub decreases-filling : goal.decreases-filling
decreases-filling g l = l.size - length l.carry
