-- A run from the beginning has the steps of that run alone.
use Rattle.std.proofs.Common.{[], List, Option, append-nil, refl, subst}
use Rattle.std.specs.Prelude.{OnOk}
use Rattle.sw_ring.specs.Cluster.{ClusterModel}
use Rattle.sw_message.specs.Learnt.{Learnt, Own}
use Rattle.sw_message.specs.Running.{MayBegin, MayRun}
use Rattle.sw_message.specs.Transcript.{IsRun, Over, Step}
use Rattle.sw_message.proofs.running.run_whole.Goals as goal

may_run : (cluster : ClusterModel) (own : Own) (of : Option ClusterModel) (learnt : Option Learnt) → MayBegin cluster own of learnt → MayRun cluster own [] of learnt
may_run cluster own of learnt may = record { nothing_open = refl; same_cluster = may.same_cluster; known = λ known tells. (may.known known tells, tt) }

pub run-requires : goal.run-requires
run-requires g c = let begun = c.requires.begun in record { begun = (begun.0, [], begun.1, may_run _ _ _ _ begun.2) }

pub returns-clause-runs : goal.returns-clause-runs
returns-clause-runs g c =
    let runs = c.run.ensures.runs in (
      runs.0,
      runs.1,
      λ begun stands may.
          let went = runs.2 begun [] stands (may_run _ _ _ _ may) in
          subst (λ (past : List Step). g.P.Operation.stands c.run.new.op begun past × IsRun (g.P.Operation.machine begun) past
          × MayRun (g.P.Operation.cluster begun) (g.P.Operation.own begun) past (g.L.Link.cluster c.run.new.link) (g.L.Link.learnt c.run.new.link)
          × OnOk c.run.result (g.P.Operation.machine begun past Over)) (append-nil runs.0) (went.0, went.2 tt, went.1, went.3),
    )
