use Rattle.std.proofs.Common.{◌≡◌, IfSome}
use Rattle.sw_server.specs.Served.{IsServed}
use Rattle.sw_server.proofs.working.work.Given as goal

abbrev pub invariant-loop : goal.invariant-loop
invariant-loop g l = record {
  table : l.pass.table ≡ g.J.Site.table;
  served : IfSome l.held (IsServed
      (record {
        conns = record { remaining = g.A.Conn.Conn.remaining; written = g.A.Conn.Conn.written; faults = g.A.Conn.Conn.faults; closed = g.A.Conn.Conn.closed };
        shows = g.T.Clock.shows;
        cluster = g.C.OfCluster.cluster;
        tells = g.B.Opening.tells;
      })
      g.B.Opening.times g.B.Opening.began.left l.pass.known);
}
