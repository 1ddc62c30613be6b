use Rattle.std.proofs.Common.{sym, subst}
use Rattle.sw_ring.specs.Cluster.{ClusterModel}
use Rattle.sw_sim_world.specs.ScriptedWorld.{empty_script}
use Rattle.sw_sim_world.specs.Standing.{StandsFor}
use Rattle.swift_main.proofs.playing.run_input.Goals as goal
use Rattle.swift_main.proofs.Outcomes.{ring_answers}

-- the world stands for the empty one of its cluster, which is that of the ring
pub returns-clause-answer : goal.returns-clause-answer
returns-clause-answer c =
    let read = c.in_ok-cluster.ensures.read in
    let stands = subst (λ (cluster : ClusterModel). StandsFor c.in_ok-world.world (empty_script cluster)) (sym c.in_ok-world.ensures.cluster) c.in_ok-world.ensures.stands in
    ring_answers c.args.ring.now c.args.script.now read.0 c.in_ok-cluster.cluster c.in_ok-world.world.cluster c.run_script.result read.1 read.2 c.in_ok-cluster.ensures.rules
    c.in_ok-world.ensures.cluster (c.run_script.ensures stands)
