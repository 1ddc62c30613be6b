use Rattle.std.proofs.Common.{◌≡◌}
use Rattle.sw_message.specs.Running.{StillTells}
use Rattle.sw_front.specs.Answering.{Answers}
use Rattle.sw_serve.proofs.Connections.{HasServed}
use Rattle.sw_serve.proofs.serving.serve_all.Given as goal

abbrev pub invariant-loop-answered : goal.invariant-loop-answered
invariant-loop-answered g l = record {
  served : HasServed (Answers (record { draws = g.L.Draw.draws; calls = g.L.Link.calls; losses = g.L.Link.losses; refusals = g.L.Draw.refusals; learnt = g.L.Link.learnt; may_be_silent = g.L.Link.may_be_silent }) l.cluster) l.answered (g.N.Conn.remaining l.fn.conn) (g.N.Conn.remaining l.conn) (g.N.Conn.written l.fn.conn) (g.N.Conn.written l.conn) l.carry l.fn.link l.link;
  faults : g.N.Conn.faults l.conn ≡ g.N.Conn.faults l.fn.conn;
  closed : g.N.Conn.closed l.conn ≡ g.N.Conn.closed l.fn.conn;
  tells : StillTells (g.L.Link.may_be_silent l.link) (g.L.Link.learnt l.fn.link) (g.L.Link.learnt l.link);
  silence : g.L.Link.may_be_silent l.fn.link → g.L.Link.may_be_silent l.link;
  cluster : g.L.Link.cluster l.link ≡ g.L.Link.cluster l.fn.link;
}
