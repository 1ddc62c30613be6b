use Rattle.std.proofs.Common.{◌≡◌, ◌-◌, length}
use Rattle.sw_httpread.specs.Bodies.{TookChunks}
use Rattle.sw_httpread.specs.Chunks.{greatest_body}
use Rattle.sw_httpread.proofs.body.take_chunks.Given as goal

abbrev pub invariant-chunks : goal.invariant-chunks
invariant-chunks g l = record {
  took : TookChunks (g.N.Conn.remaining l.fn.conn) (g.N.Conn.remaining l.conn) l.fn.carry l.carry l.body;
  written : g.N.Conn.written l.conn ≡ g.N.Conn.written l.fn.conn;
  closed : g.N.Conn.closed l.conn ≡ g.N.Conn.closed l.fn.conn;
  quiet : g.N.Conn.faults l.conn ≡ g.N.Conn.faults l.fn.conn;
}

abbrev pub decreases-chunks : goal.decreases-chunks
decreases-chunks g l = greatest_body - length l.body
