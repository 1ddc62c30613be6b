use Rattle.std.proofs.Common.{sym, subst, rules}
use Rattle.sw_server.specs.Ending.{IsStop}
use Rattle.sw_server.specs.Served.{Serving}
use Rattle.sw_server.specs.Visits.{DoorsMembers}
use Rattle.sw_server.specs.declared.end.Stop.{Stop}
use Rattle.sw_server.proofs.Comings.{known_more}
use Rattle.sw_server.proofs.Endings.{has_ended, has_failed, has_stopped}
use Rattle.sw_server.proofs.Going.{goes_told}
use Rattle.sw_server.proofs.acceptor.Acceptor.close.Given.{Over}
use Rattle.sw_server.proofs.acceptor.Acceptor.close.Goals as goal
use Rattle.sw_server.proofs.acceptor.Acceptor.close.Goals.{in-Ended, in-Failed, in_default-2, in_default}

abbrev doors_of : (g : Over) → DoorsMembers g.row.A.Denot g.row.A-Conn.Denot
doors_of g = record { ports = g.A.Doors.ports; is_open = g.A.Doors.is_open; handed = g.A.Doors.handed; back = g.A.Doors.back; left = g.A.Doors.left; faults = g.A.Doors.faults }

abbrev serving_of : (g : Over) → Serving g.row.A-Conn.Denot g.row.T.Denot
serving_of g = record {
  conns = record { remaining = g.A.Conn.Conn.remaining; written = g.A.Conn.Conn.written; faults = g.A.Conn.Conn.faults; closed = g.A.Conn.Conn.closed };
  shows = g.T.Clock.shows;
  cluster = g.C.OfCluster.cluster;
  tells = g.B.Opening.tells;
}

pub returns-clause-stop : goal.returns-clause-stop
returns-clause-stop g c =
    let now = c.self.inside.lent.doors.now in
    let known = c.join.new.self.known in
    let goes = goes_told g.C.OfCluster.cluster c.args.pass.now.known c.note.result.known known c.join.ensures.known c.join.ensures.learnt c.self.inside.seat.known c.note.ensures.known in
    let has = known_more (doors_of g) (serving_of g) g.B.Opening.times g.B.Opening.began now c.self.inside.state c.self.inside.handed c.self.inside.back c.self.inside.seat.known known goes c.self.invariant.has_served in
    let P : Stop → Type 0 = λ why. IsStop (doors_of g) (serving_of g) g.B.Opening.times g.B.Opening.began why now known in
    elim c.match-state.branch [
      | in-Ended w ↦ subst P (sym w.stop-is) (has_ended (doors_of g) (serving_of g) g.B.Opening.times g.B.Opening.began now c.self.inside.state c.self.inside.handed c.self.inside.back known has (search rules) (search rules))
      | in-Failed w ↦ subst P (sym w.stop-is) (has_failed (doors_of g) (serving_of g) g.B.Opening.times g.B.Opening.began now c.self.inside.state c.self.inside.handed c.self.inside.back known has (search rules))
      | in_default-2 w ↦ subst P (sym w.stop-is) (has_stopped (doors_of g) (serving_of g) g.B.Opening.times g.B.Opening.began now c.self.inside.state c.self.inside.handed c.self.inside.back known has (search rules))
      | in_default w ↦ subst P (sym w.stop-is) (has_stopped (doors_of g) (serving_of g) g.B.Opening.times g.B.Opening.began now c.self.inside.state c.self.inside.handed c.self.inside.back known has (search rules))
    ]
