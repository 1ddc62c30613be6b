use Rattle.sw_server.specs.Visits.{seen_of}
use Rattle.sw_server.proofs.serving.serve_over.Given as goal

abbrev pub ghosts-serve_doors : goal.ghosts-serve_doors
ghosts-serve_doors g a = record {
  borrow = a.lent.doors.ghost_name;
  began = seen_of
      (record { ports = g.A.Doors.ports; is_open = g.A.Doors.is_open; handed = g.A.Doors.handed; back = g.A.Doors.back; left = g.A.Doors.left; faults = g.A.Doors.faults })
      (record { remaining = g.A.Conn.Conn.remaining; written = g.A.Conn.Conn.written; faults = g.A.Conn.Conn.faults; closed = g.A.Conn.Conn.closed })
      a.lent.doors.now;
  times = g.T.Clock.shows a.clock.now;
  tells = g.D.Disk.tells;
}
