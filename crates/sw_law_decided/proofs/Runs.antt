-- What every scene of a run keeps of stamps.
use Rattle.std.proofs.Common.{List}
use Rattle.sw_ring.specs.Cluster.{ClusterModel}
use Rattle.sw_core.specs.Event.{Event, IsRun}
use Rattle.sw_core.specs.World.{World}
use Rattle.sw_law_owed.specs.Decided.{KeepsStamps}
use Rattle.sw_law_promise.proofs.Runs.{run_keeps_all}

pub run_keeps : (cluster : ClusterModel) (events : List Event) (world : World) → IsRun cluster events world → KeepsStamps world.scene
run_keeps cluster events world run = (run_keeps_all cluster events world run).stamps
