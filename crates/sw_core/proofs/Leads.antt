-- Events that lead from world to world, one list after the other.
use Rattle.std.proofs.Common.{List, [], ◌∷◌, ◌++◌, refl, subst}
use Rattle.sw_ring.specs.Cluster.{ClusterModel}
use Rattle.sw_core.specs.Event.{Event, Happens, IsRun, Lead}
use Rattle.sw_core.specs.World.{World, empty_world}

-- two lists of events lead to where the second does
pub leads-append : (first : World) (events : List Event) (between : World) (more : List Event) (after : World) → Lead first events between → Lead between more after → Lead first (events ++ more) after
leads-append first [] between more after same lead = subst (λ (one : World). Lead one more after) same lead
leads-append first (event ∷ events) between more after (next, happens, earlier) lead = (next, happens, leads-append next events between more after earlier lead)

-- a run goes on by an event
pub run-more : (cluster : ClusterModel) (events : List Event) (before : World) (event : Event) (after : World) → IsRun cluster events before → Happens event before after → IsRun cluster (events ++ event ∷ []) after
run-more cluster events before event after run happens = record { rules = run.rules; lead = leads-append (empty_world cluster) events before (event ∷ []) after run.lead (after, happens, refl) }
