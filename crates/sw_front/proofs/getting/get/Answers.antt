-- The calls of the link are the steps of a get.
use Rattle.std.proofs.Common.{◌≡◌, Some, None}
use Rattle.std.specs.Prelude.{MatchOption}
use Rattle.sw_get.specs.Get.{Begun, IsEnd}
use Rattle.sw_message.specs.Learnt.{Nothing}
use Rattle.sw_front.proofs.Beginning.{may_begin, still_knows}
use Rattle.sw_front.proofs.Finding.{finds}
use Rattle.sw_front.proofs.Stopped.{stopped_get}
use Rattle.sw_front.proofs.getting.get.Goals as goal

pub returns-in_err-run_whole-clause-gets : goal.returns-in_err-run_whole-clause-gets
returns-in_err-run_whole-clause-gets g c =
    let begun : Begun = record { cluster = c.args.cluster.now; name = c.args.name.now } in
    let runs = c.run_whole.ensures.runs in
    let went = runs.2 begun c.in_ok-op.ensures (may_begin c.args.cluster.now (g.L.Link.cluster c.args.link.now) (g.L.Link.learnt c.args.link.now) c.requires) in
    stopped_get g.L.Link.calls g.L.Link.losses g.L.Link.learnt c.args.link.now c.run_whole.new.link begun c.from_residual-in_err-run_whole.result c.from_residual-in_err-run_whole.ensures.0
    (runs.0, record { run = went.1; calls_are = runs.1; knows = still_knows c.args.cluster.now Nothing runs.0 (g.L.Link.cluster c.run_whole.new.link) (g.L.Link.learnt c.run_whole.new.link) went.2 })

pub returns-clause-gets : goal.returns-clause-gets
returns-clause-gets g c =
    let begun : Begun = record { cluster = c.args.cluster.now; name = c.args.name.now } in
    let runs = c.run_whole.ensures.runs in
    let went = runs.2 begun c.in_ok-op.ensures (may_begin c.args.cluster.now (g.L.Link.cluster c.args.link.now) (g.L.Link.learnt c.args.link.now) c.requires) in
    let ends : MatchOption (Some c.unwrap.result) (c.run_whole.new.op.end ≡ None) (λ end. IsEnd begun runs.0 end) = rw c.unwrap.ensures at (c.into_end.ensures.end begun runs.0 went.0) in (
      runs.0,
      (record { run = went.1; calls_are = runs.1; knows = still_knows c.args.cluster.now Nothing runs.0 (g.L.Link.cluster c.run_whole.new.link) (g.L.Link.learnt c.run_whole.new.link) went.2 }),
      ends,
      finds begun runs.0 went.0.valid went.1 (g.L.Link.cluster c.run_whole.new.link) (g.L.Link.learnt c.run_whole.new.link) (g.met.L.Link.sound c.run_whole.new.link) went.2 c.unwrap.result ends,
    )
