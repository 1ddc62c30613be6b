use Rattle.std.proofs.Common.{◌≡◌, None, Some, ◌∙◌}
use Rattle.sw_ring.specs.Cluster.{ClusterModel}
use Rattle.sw_message.specs.Learnt.{Own}
use Rattle.sw_message.specs.Running.{MayBegin}
use Rattle.sw_sim_nodes.proofs.Alone.{left_down}
use Rattle.sw_sim_nodes.proofs.running.run_alone.Goals as goal

-- an operation of the cluster may begin over a link that tells nothing
may_begin : (cluster of : ClusterModel) (own : Own) → cluster ≡ of → MayBegin cluster own (Some of) None
may_begin cluster of own same = record { same_cluster = λ other is. let it : of ≡ other = cc in same ∙ it; known = λ known told. absurd (cc) }

pub run_whole-requires : goal.run_whole-requires
run_whole-requires g c =
    let begun = c.requires.begun in
    record { begun = (begun.0, begun.1, may_begin (g.P.Operation.cluster begun.0) c.args.nodes.now.cluster (g.P.Operation.own begun.0) begun.2) }

pub returns-clause-runs : goal.returns-clause-runs
returns-clause-runs g c = λ begun stands same.
    let runs = c.in_ok-run_whole.ensures.runs in
    let went = runs.2 begun stands (may_begin (g.P.Operation.cluster begun) c.args.nodes.now.cluster (g.P.Operation.own begun) same) in
    (runs.0, went.0, went.1, went.3, runs.1)

pub returns-in_err-run_whole-clause-down : goal.returns-in_err-run_whole-clause-down
returns-in_err-run_whole-clause-down g c = left_down c.args.nodes.now c.run_whole.ensures.runs.0 c.run_whole.new.link c.run_whole.ensures.runs.1

pub returns-then-is_wanting-clause-down : goal.returns-then-is_wanting-clause-down
returns-then-is_wanting-clause-down g c = left_down c.args.nodes.now c.run_whole.ensures.runs.0 c.run_whole.new.link c.run_whole.ensures.runs.1

pub returns-clause-down : goal.returns-clause-down
returns-clause-down g c = left_down c.args.nodes.now c.run_whole.ensures.runs.0 c.run_whole.new.link c.run_whole.ensures.runs.1
