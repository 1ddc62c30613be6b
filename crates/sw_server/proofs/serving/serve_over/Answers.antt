use Rattle.std.proofs.Common.{◌≡◌, [], rules, refl}
use Rattle.std.proofs.KnownBytes.{Appends-nil, Appends-trans}
use Rattle.sw_server.specs.Served.{Serving}
use Rattle.sw_server.specs.Visits.{DoorsMembers}
use Rattle.sw_server.proofs.Opened.{closed, full, of_error, of_success, quiet_full, unopened, unwritten}
use Rattle.sw_server.proofs.serving.serve_over.Given.{Over}
use Rattle.sw_server.proofs.serving.serve_over.Goals as goal

abbrev doors_of : (g : Over) → DoorsMembers g.row.A.Denot g.row.A-Conn.Denot
doors_of g = record { ports = g.A.Doors.ports; is_open = g.A.Doors.is_open; handed = g.A.Doors.handed; back = g.A.Doors.back; left = g.A.Doors.left; faults = g.A.Doors.faults }

abbrev serving_of : (g : Over) → Serving g.row.A-Conn.Denot g.row.T.Denot
serving_of g = record {
  conns = record { remaining = g.A.Conn.Conn.remaining; written = g.A.Conn.Conn.written; faults = g.A.Conn.Conn.faults; closed = g.A.Conn.Conn.closed };
  shows = g.T.Clock.shows;
  cluster = g.C.OfCluster.cluster;
  tells = g.D.Disk.tells;
}

pub returns-then-is_err-clause-serves : goal.returns-then-is_err-clause-serves
returns-then-is_err-clause-serves g c =
    let o = c.open.ensures in
    ([], Appends-nil (g.O.Sink.written c.args.output.now), unopened (doors_of g) (serving_of g) c.args.clock.now c.args.port c.args.doors.now c.open.new.self o.left o.handed o.back o.ports c.args.pass.known (search rules) (o.counted.counted (search rules)))

pub returns-then-is_err-2-clause-serves : goal.returns-then-is_err-2-clause-serves
returns-then-is_err-2-clause-serves g c =
    let o = c.open.ensures in
    let front = of_error c.write_all.result (search rules) c.write_all.ensures.front in
    (_, front.1, unwritten (doors_of g) (serving_of g) c.args.clock.now c.args.port c.args.doors.now c.open.new.self o.left o.handed o.back o.ports (o.counted.quiet (search rules)) c.args.pass.known _ (search rules) (front.0, front.2, refl))

pub returns-in-Ended-clause-serves : goal.returns-in-Ended-clause-serves
returns-in-Ended-clause-serves g c =
    let o = c.open.ensures in
    let last : c.doors-1.given.0 ≡ c.serve_doors-lent.result.doors.now = search rules in
    let closes = c.close.ensures.closes in (
      _,
      Appends-trans _ _ _ _ _ (of_success c.write_all.result (search rules) c.write_all.ensures.whole) closes.1,
      rw last (closed (doors_of g) (serving_of g) c.args.clock.now c.args.port c.args.doors.now c.open.new.self o.left o.handed o.back o.ports (o.counted.quiet (search rules)) _ refl _ _ c.serve_doors-lent.result.stop c.in-Ended.count c.in-Ended.is c.serve_doors-lent.ensures.stop
          c.close.result.1 c.close.result.0.known closes.0 closes.2 c.close.ensures.goes_on),
    )

pub returns-in-NoMemory-clause-serves : goal.returns-in-NoMemory-clause-serves
returns-in-NoMemory-clause-serves g c =
    let last : c.doors-1.given.0 ≡ c.serve_doors-lent.result.doors.now = search rules in
    let o = c.open.ensures in (
      _,
      of_success c.write_all.result (search rules) c.write_all.ensures.whole,
      rw last (full (doors_of g) (serving_of g) c.args.clock.now c.args.port c.args.doors.now c.open.new.self o.left o.handed o.back o.ports (o.counted.quiet (search rules)) _ refl _ _ c.serve_doors-lent.result.stop c.in-NoMemory.is c.serve_doors-lent.ensures.stop),
    )

pub returns-in-NoMemory-clause-doors : goal.returns-in-NoMemory-clause-doors
returns-in-NoMemory-clause-doors g c =
    let o = c.open.ensures in
    let last : c.doors-1.given.0 ≡ c.serve_doors-lent.result.doors.now = search rules in
    rw last (quiet_full (doors_of g) (serving_of g) c.args.clock.now c.args.port c.args.doors.now c.open.new.self o.left o.handed o.back o.ports (o.counted.quiet (search rules)) _ refl _ _ c.serve_doors-lent.result.stop c.in-NoMemory.is c.serve_doors-lent.ensures.stop)
