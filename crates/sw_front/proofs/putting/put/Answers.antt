-- The calls of the link are the steps of a put whose stamp was drawn before.
use Rattle.std.proofs.Common.{◌≡◌, Some, None}
use Rattle.std.specs.Prelude.{MatchOption}
use Rattle.sw_message.specs.Learnt.{OwnPut}
use Rattle.sw_message.proofs.Going.{still_more}
use Rattle.sw_put.specs.Put.{Begun, put_end}
use Rattle.sw_front.specs.Over.{put_of}
use Rattle.sw_front.proofs.Beginning.{may_begin_drawn, still_knows}
use Rattle.sw_front.proofs.Stopped.{stopped_put}
use Rattle.sw_front.proofs.putting.put.Goals as goal

pub returns-in_err-run_whole-clause-puts : goal.returns-in_err-run_whole-clause-puts
returns-in_err-run_whole-clause-puts g c =
    let stamp = c.in_ok-stamp.stamp in
    let begun : Begun = put_of c.args.cluster.now c.args.name.now c.args.object.now stamp in
    let runs = c.run_whole.ensures.runs in
    let went = runs.2 begun c.in_ok-op.ensures
    (may_begin_drawn c.args.cluster.now (g.L.Link.cluster c.args.link.now) (g.L.Link.cluster c.draw.new.self) (g.L.Link.learnt c.draw.new.self) (OwnPut (record { stamp = stamp; name = c.args.name.now; object = c.args.object.now })) c.args.name.now (Some c.args.object.now) stamp
    (λ known has. has) c.in_ok-stamp.ensures.learns c.draw.ensures.cluster c.requires) in
    stopped_put g.L.Link.calls g.L.Link.losses g.L.Link.learnt c.args.link.now c.run_whole.new.link g.L.Draw.draws c.args.cluster.now c.args.name.now c.args.object.now c.from_residual-in_err-run_whole.result c.from_residual-in_err-run_whole.ensures.1
    (stamp, runs.0, record { drawn = c.draw.new.self; draw = c.in_ok-stamp.ensures.draws; went = record { run = went.1; calls_are = runs.1; knows = still_knows c.args.cluster.now (OwnPut (record { stamp = stamp; name = c.args.name.now; object = c.args.object.now })) runs.0 (g.L.Link.cluster c.run_whole.new.link) (g.L.Link.learnt c.run_whole.new.link) went.2 } })

pub returns-in_err-run_whole-clause-tells : goal.returns-in_err-run_whole-clause-tells
returns-in_err-run_whole-clause-tells g c = still_more (g.L.Link.may_be_silent c.draw.new.self) (g.L.Link.may_be_silent c.run_whole.new.link) c.run_whole.ensures.silence (g.L.Link.learnt c.args.link.now) (g.L.Link.learnt c.draw.new.self) (g.L.Link.learnt c.run_whole.new.link) c.run_whole.ensures.learns c.draw.ensures.tells

pub returns-clause-puts : goal.returns-clause-puts
returns-clause-puts g c =
    let stamp = c.in_ok-stamp.stamp in
    let begun : Begun = put_of c.args.cluster.now c.args.name.now c.args.object.now stamp in
    let runs = c.run_whole.ensures.runs in
    let went = runs.2 begun c.in_ok-op.ensures
    (may_begin_drawn c.args.cluster.now (g.L.Link.cluster c.args.link.now) (g.L.Link.cluster c.draw.new.self) (g.L.Link.learnt c.draw.new.self) (OwnPut (record { stamp = stamp; name = c.args.name.now; object = c.args.object.now })) c.args.name.now (Some c.args.object.now) stamp
    (λ known has. has) c.in_ok-stamp.ensures.learns c.draw.ensures.cluster c.requires) in
    let ends : MatchOption (Some c.unwrap.result) (c.run_whole.new.op.end ≡ None) (λ end. put_end begun runs.0 ≡ Some end) = rw c.unwrap.ensures at (c.into_end.ensures.end begun runs.0 went.0) in (
      stamp,
      runs.0,
      (record { drawn = c.draw.new.self; draw = c.in_ok-stamp.ensures.draws; went = record { run = went.1; calls_are = runs.1; knows = still_knows c.args.cluster.now (OwnPut (record { stamp = stamp; name = c.args.name.now; object = c.args.object.now })) runs.0 (g.L.Link.cluster c.run_whole.new.link) (g.L.Link.learnt c.run_whole.new.link) went.2 } }),
      ends,
    )

pub returns-in_err-run_whole-clause-silence : goal.returns-in_err-run_whole-clause-silence
returns-in_err-run_whole-clause-silence g c = λ may. c.run_whole.ensures.silence (c.draw.ensures.silence may)

pub returns-clause-silence : goal.returns-clause-silence
returns-clause-silence g c = λ may. c.run_whole.ensures.silence (c.draw.ensures.silence may)

pub returns-clause-tells : goal.returns-clause-tells
returns-clause-tells g c = still_more (g.L.Link.may_be_silent c.draw.new.self) (g.L.Link.may_be_silent c.run_whole.new.link) c.run_whole.ensures.silence (g.L.Link.learnt c.args.link.now) (g.L.Link.learnt c.draw.new.self) (g.L.Link.learnt c.run_whole.new.link) c.run_whole.ensures.learns c.draw.ensures.tells
