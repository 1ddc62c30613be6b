-- The calls of the link are the steps of a pass.
use Rattle.std.proofs.Common.{◌≡◌, List, Option, Some}
use Rattle.sw_ring.specs.Cluster.{ClusterModel}
use Rattle.sw_message.specs.Learnt.{Learnt, Nothing}
use Rattle.sw_message.specs.Running.{MayBegin}
use Rattle.sw_daemon.specs.Pass.{Begun, IsEnd}
use Rattle.sw_daemon.proofs.Outcomes.{not_ok}
use Rattle.sw_daemon.proofs.passing.pass.Goals as goal

-- a pass starts no put and no delete, so that it may begin over any link of its cluster
may_begin : (cluster : ClusterModel) (of : Option ClusterModel) (learnt : Option Learnt) → ((other : ClusterModel) → of ≡ Some other → cluster ≡ other) → MayBegin cluster Nothing of learnt
may_begin cluster of learnt same = record { same_cluster = same; known = λ known tells. tt }

pub run_whole-requires : goal.run_whole-requires
run_whole-requires g c =
    let begun : Begun = record { cluster = c.args.cluster.now; device = c.args.device } in
    record { begun = (begun, c.begin-op.ensures, may_begin c.args.cluster.now (g.L.Link.cluster c.args.link.now) (g.L.Link.learnt c.args.link.now) c.requires.cluster) }

pub returns-in_err-run_whole-clause-runs : goal.returns-in_err-run_whole-clause-runs
returns-in_err-run_whole-clause-runs g c =
    let begun : Begun = record { cluster = c.args.cluster.now; device = c.args.device } in
    let runs = c.run_whole.ensures.runs in
    let went = runs.2 begun c.begin-op.ensures (may_begin c.args.cluster.now (g.L.Link.cluster c.args.link.now) (g.L.Link.learnt c.args.link.now) c.requires.cluster) in
    (runs.0, went.1, runs.1, not_ok c.from_residual.result (λ report. IsEnd begun runs.0 report) c.from_residual.ensures.0)

pub returns-clause-runs : goal.returns-clause-runs
returns-clause-runs g c =
    let begun : Begun = record { cluster = c.args.cluster.now; device = c.args.device } in
    let runs = c.run_whole.ensures.runs in
    let went = runs.2 begun c.begin-op.ensures (may_begin c.args.cluster.now (g.L.Link.cluster c.args.link.now) (g.L.Link.learnt c.args.link.now) c.requires.cluster) in
    (runs.0, went.1, runs.1, rw c.unwrap.ensures at (c.end.ensures.end begun runs.0 went.0))
