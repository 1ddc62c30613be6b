-- What holds of a world, and is kept by each move of a world, holds whatever happens.
use Rattle.std.proofs.Common.{List, [], ◌∷◌, refl, sym, subst}
use Rattle.sw_ring.specs.Cluster.{ClusterModel}
use Rattle.sw_core.specs.Event.{Event, Happens, IsRun, Lead}
use Rattle.sw_core.specs.Sound.{IsSoundWorld}
use Rattle.sw_core.specs.World.{World, empty_world}
use Rattle.sw_core.proofs.Happening.{leads-sound, run-sound}
use Rattle.sw_core.specs.WorldMove.{WorldMove}
use Rattle.sw_core.proofs.Happened.{happens-moves}

-- what each event keeps, many keep
by_event : (P : World → Type 0) → ((before : World) (event : Event) (after : World) → P before → Happens event before after → P after) → (before : World) (events : List Event) (after : World) → P before → Lead before events after → P after
by_event P keeps before [] after holds same = subst P (sym same) holds
by_event P keeps before (event ∷ events) after holds (between, goes, lead) = by_event P keeps between events after (keeps before event between holds goes) lead

-- so is what each move keeps
pub led : (P : World → Type 0) → ((before after : World) → P before → WorldMove before after → P after) → (before : World) (events : List Event) (after : World) → P before → Lead before events after → P after
led P keeps = by_event P (λ before event after holds goes. keeps before after holds (happens-moves before after event goes))

module _ (cluster : ClusterModel) (P : World → Type 0) (keeps : (before after : World) → IsSoundWorld cluster before → IsSoundWorld cluster after → P before → WorldMove before after → P after) where
  -- and what each move of a sound world keeps
  pub carried : (before : World) (events : List Event) (after : World) → IsSoundWorld cluster before → P before → Lead before events after → P after
  carried before events after sound holds lead =
      (by_event (λ world. IsSoundWorld cluster world × P world)
      (λ one event other (is, was) goes.
      let is_still = leads-sound cluster one (event ∷ []) other is (other, goes, refl) in
      (is_still, keeps one other is is_still was (happens-moves one other event goes)))
      before events after (sound, holds) lead).1

  -- so it holds of every world of a run if it does of the first
  pub run-carried : P (empty_world cluster) → (events : List Event) (world : World) → IsRun cluster events world → P world
  run-carried holds events world run = carried (empty_world cluster) events world (run-sound cluster [] (empty_world cluster) (record { rules = run.rules; lead = refl })) holds run.lead
