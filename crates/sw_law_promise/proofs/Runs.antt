-- All that every scene of a run keeps: whatever happens to a world may happen to its scene, one event or many.
use Rattle.std.proofs.Common.{List}
use Rattle.sw_ring.specs.Cluster.{ClusterModel}
use Rattle.sw_core.specs.Event.{Event, IsRun}
use Rattle.sw_core.specs.World.{World}
use Rattle.sw_core.proofs.Carried.{run-carried}
use Rattle.sw_core.proofs.SceneMoves.{may-move}
use Rattle.sw_law_kept.specs.Kept.{KeepsAll}
use Rattle.sw_law_kept.proofs.Kept.{empty_keeps, still_keeps}
use Rattle.sw_law_owed.specs.Promise.{KeepsPromises}

pub run_keeps_all : (cluster : ClusterModel) (events : List Event) (world : World) → IsRun cluster events world → KeepsAll world.scene
run_keeps_all cluster events world run = run-carried cluster (λ world. KeepsAll world.scene)
    (λ before after sound still keeps move. still_keeps before.scene keeps before.clock after.scene (may-move before after move still.scene))
    (empty_keeps cluster run.rules) events world run

-- so its promises
pub run_keeps : (cluster : ClusterModel) (events : List Event) (world : World) → IsRun cluster events world → KeepsPromises world.scene
run_keeps cluster events world run = (run_keeps_all cluster events world run).promises
