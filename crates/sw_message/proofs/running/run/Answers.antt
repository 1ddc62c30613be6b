-- A message is warranted, and an operation over a link goes on by it and its answer.
use Rattle.std.proofs.Common.{◌++◌, subst}
use Rattle.sw_ring.specs.Cluster.{ClusterModel}
use Rattle.sw_message.specs.Warrant.{IsWarranted}
use Rattle.sw_message.proofs.Going.{are_known, goes_on, sound_told}
use Rattle.sw_message.proofs.running.run.Goals as goal
use Rattle.sw_message.proofs.running.run.Goals.{in-Some-call, in-None}

pub call-requires-clause-warranted : goal.call-requires-clause-warranted
call-requires-clause-warranted g c = λ of known is tells.
    let stood = c.requires.begun in
    let now = c.loop-sent.invariant.runs.2 stood.0 stood.1 stood.2 stood.3 in
    let knows = now.1.known known tells in
    let sound = sound_told (g.P.Operation.cluster stood.0) _ _ known (g.met.L.Link.sound c.loop-sent.link) now.1.same_cluster tells in
    subst (λ (cluster : ClusterModel). IsWarranted cluster known c.in-Some.sent.msg) (now.1.same_cluster of is)
    (rw c.in-Some.is at (c.in_ok-sent.ensures.warranted stood.0 (c.loop-sent.invariant.runs.0 ++ stood.1) known now.0 knows.0
    (are_known (g.P.Operation.cluster stood.0) known sound (c.loop-sent.invariant.runs.0 ++ stood.1) knows.1)))

pub loop-sent-preserved : goal.loop-sent-preserved
loop-sent-preserved g c =
    goes_on g.P.Operation g.L.Link _ _ _ _ _ _ _ c.in-Some.sent c.call.result c.loop-sent.invariant (g.met.L.Link.sound c.call.new.self)
    (λ begun past stood. ((rw c.in-Some.is at (c.in_ok-sent.ensures.hands begun past stood)).0, (rw c.in-Some.is at (c.in_ok-sent.ensures.goes_on begun past stood)))) c.call.ensures
    (λ begun past. elim c.match-call.branch [
      | in-Some-call w ↦ rw (w.op-is, w.in-Some-call.is) (w.take.ensures.goes_on begun past)
      | in-None w ↦ rw (w.op-is, w.in-None.is) (w.give_up.ensures.goes_on begun past)
    ])

pub loop-sent-preserved-after-call : goal.loop-sent-preserved-after-call
loop-sent-preserved-after-call g c =
    goes_on g.P.Operation g.L.Link _ _ _ _ _ _ _ c.in-Some.sent c.call.result c.loop-sent.invariant (g.met.L.Link.sound c.call.new.self)
    (λ begun past stood. ((rw c.in-Some.is at (c.in_ok-sent.ensures.hands begun past stood)).0, (rw c.in-Some.is at (c.in_ok-sent.ensures.goes_on begun past stood)))) c.call.ensures
    (λ begun past. elim c.match-call.branch [
      | in-Some-call w ↦ rw (w.op-is, w.in-Some-call.is) (w.take.ensures.goes_on begun past)
      | in-None w ↦ rw (w.op-is, w.in-None.is) (w.give_up.ensures.goes_on begun past)
    ])
