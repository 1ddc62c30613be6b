use Rattle.std.proofs.Common.{◌∙◌, arith}
use Rattle.sw_message.proofs.Going.{still_more}
use Rattle.sw_serve.proofs.Connections.{closed, goes_on, none_left, over}
use Rattle.sw_serve.proofs.serving.serve_all.Goals as goal

pub returns-in-Answered-true-clause-serves : goal.returns-in-Answered-true-clause-serves
returns-in-Answered-true-clause-serves g c =
    let takes = rw c.loop-answered.invariant.faults at c.in-Answered-true.ensures.takes in
    closed _ c.loop-answered.answered _ _ _ _ _ _ _ _ _ _ _ _ _ c.loop-answered.invariant.served c.in-Answered-true.closes takes c.in-Answered-true.closes-test (omega (arith, c.loop-answered-test.true))

pub returns-in-Answered-true-clause-tells : goal.returns-in-Answered-true-clause-tells
returns-in-Answered-true-clause-tells g c =
    still_more (g.L.Link.may_be_silent c.loop-answered.link) (g.L.Link.may_be_silent c.serve_next.new.link) c.serve_next.ensures.silence (g.L.Link.learnt c.args.link.now) (g.L.Link.learnt c.loop-answered.link) (g.L.Link.learnt c.serve_next.new.link)
    c.serve_next.ensures.tells c.loop-answered.invariant.tells

pub returns-in-Over-clause-serves : goal.returns-in-Over-clause-serves
returns-in-Over-clause-serves g c =
    let takes = rw c.loop-answered.invariant.faults at c.in-Over.ensures.takes in
    over _ c.loop-answered.answered _ _ _ _ _ _ _ _ _ _ _ _ _ c.loop-answered.invariant.served c.in-Over.end takes (omega (arith, c.loop-answered-test.true))

pub returns-in-Over-clause-tells : goal.returns-in-Over-clause-tells
returns-in-Over-clause-tells g c =
    still_more (g.L.Link.may_be_silent c.loop-answered.link) (g.L.Link.may_be_silent c.serve_next.new.link) c.serve_next.ensures.silence (g.L.Link.learnt c.args.link.now) (g.L.Link.learnt c.loop-answered.link) (g.L.Link.learnt c.serve_next.new.link)
    c.serve_next.ensures.tells c.loop-answered.invariant.tells

pub loop-answered-preserved : goal.loop-answered-preserved
loop-answered-preserved g c = record {
  served = goes_on _ c.loop-answered.answered _ _ _ _ _ _ _ _ _ _ _ _ _ c.loop-answered.invariant.served c.in-Answered-false.closes c.in-Answered-false.ensures.takes c.in-Answered-false.closes-test;
  faults = c.in-Answered-false.ensures.counts.quiet tt ∙ c.loop-answered.invariant.faults;
  closed = c.serve_next.ensures.closed ∙ c.loop-answered.invariant.closed;
  tells = still_more (g.L.Link.may_be_silent c.loop-answered.link) (g.L.Link.may_be_silent c.serve_next.new.link) c.serve_next.ensures.silence (g.L.Link.learnt c.args.link.now) (g.L.Link.learnt c.loop-answered.link) (g.L.Link.learnt c.serve_next.new.link)
      c.serve_next.ensures.tells c.loop-answered.invariant.tells;
  silence = λ may. c.serve_next.ensures.silence (c.loop-answered.invariant.silence may);
  cluster = c.serve_next.ensures.cluster ∙ c.loop-answered.invariant.cluster;
}

pub unreachable-requires : goal.unreachable-requires
unreachable-requires g c =
    none_left _ c.loop-answered.answered _ _ _ _ _ _ _ (omega (arith, c.loop-answered-test.false)) (omega (arith, c.loop-answered.auto.answered-end)) c.loop-answered.invariant.served
