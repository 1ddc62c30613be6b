-- The calls of the link are the steps of a delete whose stamp was drawn before.
use Rattle.std.proofs.Common.{◌≡◌, Some, None}
use Rattle.std.specs.Prelude.{MatchOption}
use Rattle.sw_message.specs.Learnt.{OwnDelete}
use Rattle.sw_message.proofs.Going.{still_more}
use Rattle.sw_delete.specs.Delete.{Begun, delete_end}
use Rattle.sw_front.specs.Over.{delete_of}
use Rattle.sw_front.proofs.Beginning.{may_begin_drawn, still_knows}
use Rattle.sw_front.proofs.Stopped.{stopped_delete}
use Rattle.sw_front.proofs.deleting.delete.Goals as goal

pub returns-in_err-run_whole-clause-deletes : goal.returns-in_err-run_whole-clause-deletes
returns-in_err-run_whole-clause-deletes g c =
    let stamp = c.in_ok-stamp.stamp in
    let begun : Begun = delete_of c.args.cluster.now c.args.name.now stamp in
    let runs = c.run_whole.ensures.runs in
    let went = runs.2 begun c.in_ok-op.ensures
    (may_begin_drawn c.args.cluster.now (g.L.Link.cluster c.args.link.now) (g.L.Link.cluster c.draw.new.self) (g.L.Link.learnt c.draw.new.self) (OwnDelete (record { stamp = stamp; name = c.args.name.now })) c.args.name.now None stamp
    (λ known has. has) c.in_ok-stamp.ensures.learns c.draw.ensures.cluster c.requires) in
    stopped_delete g.L.Link.calls g.L.Link.losses g.L.Link.learnt c.args.link.now c.run_whole.new.link g.L.Draw.draws c.args.cluster.now c.args.name.now c.from_residual-in_err-run_whole.result c.from_residual-in_err-run_whole.ensures.1
    (stamp, runs.0, record { drawn = c.draw.new.self; draw = c.in_ok-stamp.ensures.draws; went = record { run = went.1; calls_are = runs.1; knows = still_knows c.args.cluster.now (OwnDelete (record { stamp = stamp; name = c.args.name.now })) runs.0 (g.L.Link.cluster c.run_whole.new.link) (g.L.Link.learnt c.run_whole.new.link) went.2 } })

pub returns-in_err-run_whole-clause-tells : goal.returns-in_err-run_whole-clause-tells
returns-in_err-run_whole-clause-tells g c = still_more (g.L.Link.may_be_silent c.draw.new.self) (g.L.Link.may_be_silent c.run_whole.new.link) c.run_whole.ensures.silence (g.L.Link.learnt c.args.link.now) (g.L.Link.learnt c.draw.new.self) (g.L.Link.learnt c.run_whole.new.link) c.run_whole.ensures.learns c.draw.ensures.tells

pub returns-clause-deletes : goal.returns-clause-deletes
returns-clause-deletes g c =
    let stamp = c.in_ok-stamp.stamp in
    let begun : Begun = delete_of c.args.cluster.now c.args.name.now stamp in
    let runs = c.run_whole.ensures.runs in
    let went = runs.2 begun c.in_ok-op.ensures
    (may_begin_drawn c.args.cluster.now (g.L.Link.cluster c.args.link.now) (g.L.Link.cluster c.draw.new.self) (g.L.Link.learnt c.draw.new.self) (OwnDelete (record { stamp = stamp; name = c.args.name.now })) c.args.name.now None stamp
    (λ known has. has) c.in_ok-stamp.ensures.learns c.draw.ensures.cluster c.requires) in
    let ends : MatchOption (Some c.unwrap.result) (c.run_whole.new.op.end ≡ None) (λ end. delete_end begun runs.0 ≡ Some end) = rw c.unwrap.ensures at (c.into_end.ensures.end begun runs.0 went.0) in (
      stamp,
      runs.0,
      (record { drawn = c.draw.new.self; draw = c.in_ok-stamp.ensures.draws; went = record { run = went.1; calls_are = runs.1; knows = still_knows c.args.cluster.now (OwnDelete (record { stamp = stamp; name = c.args.name.now })) runs.0 (g.L.Link.cluster c.run_whole.new.link) (g.L.Link.learnt c.run_whole.new.link) went.2 } }),
      ends,
    )

pub returns-in_err-run_whole-clause-silence : goal.returns-in_err-run_whole-clause-silence
returns-in_err-run_whole-clause-silence g c = λ may. c.run_whole.ensures.silence (c.draw.ensures.silence may)

pub returns-clause-silence : goal.returns-clause-silence
returns-clause-silence g c = λ may. c.run_whole.ensures.silence (c.draw.ensures.silence may)

pub returns-clause-tells : goal.returns-clause-tells
returns-clause-tells g c = still_more (g.L.Link.may_be_silent c.draw.new.self) (g.L.Link.may_be_silent c.run_whole.new.link) c.run_whole.ensures.silence (g.L.Link.learnt c.args.link.now) (g.L.Link.learnt c.draw.new.self) (g.L.Link.learnt c.run_whole.new.link) c.run_whole.ensures.learns c.draw.ensures.tells
