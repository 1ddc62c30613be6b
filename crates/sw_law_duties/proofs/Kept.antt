-- The duties of devices are kept in every scene of a run.
use Rattle.std.proofs.Common.{List}
use Rattle.sw_ring.specs.Cluster.{ClusterModel}
use Rattle.sw_core.specs.Event.{Event, IsRun}
use Rattle.sw_core.specs.World.{World}
use Rattle.sw_law_owed.specs.Duties.{KeepsDuties}
use Rattle.sw_law_promise.proofs.Runs.{run_keeps_all}

pub duties_kept : (cluster : ClusterModel) (events : List Event) (world : World) → IsRun cluster events world → KeepsDuties world.scene
duties_kept cluster events world run = (run_keeps_all cluster events world run).duties
