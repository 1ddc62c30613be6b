-- What holds of a history holds of one that it goes on from.
use Rattle.std.proofs.Common.{ℕ, List, [], ◌∷◌, ◌++◌, subst}
use Rattle.sw_ring.specs.Cluster.{ClusterModel}
use Rattle.sw_law_scene.specs.Disks.{Disk, Sure}
use Rattle.sw_view.specs.History.{Continues, IsGuarded, Replays}
use Rattle.sw_view.specs.declared.event.Event.{Event}
use Rattle.sw_view.specs.declared.event.Event.TheVariants.{Faulted, Handled, Mounted, Replaced}

module _ (cluster : ClusterModel) (device : ℕ) where
  -- ---- one event

  -- a history has the replay of its past
  pub before_of : (event : Event) (past : List Event) (disk : Disk) → Replays cluster device (event ∷ past) disk → (before : Disk) × Replays cluster device past before
  before_of (Handled msg reply) past disk (found, folders, replays, step, same) = (Sure found, replays)
  before_of (Faulted msg) past disk (before, replays, failed) = (before, replays)
  before_of Mounted past disk (before, found, replays, mounts, same) = (before, replays)
  before_of (Replaced loss) past disk (before, replays, same) = (before, replays)

  -- and is guarded as its past is
  pub guarded_before : (event : Event) (past : List Event) (stamp mark : ℕ) → IsGuarded cluster device stamp mark (event ∷ past) → IsGuarded cluster device stamp mark past
  guarded_before (Handled msg reply) past stamp mark is = is
  guarded_before (Faulted msg) past stamp mark is = is
  guarded_before Mounted past stamp mark is = is
  guarded_before (Replaced loss) past stamp mark is = is.1

  -- ---- several

  module _ (earlier : List Event) where
    replayed_of : (more : List Event) (disk : Disk) → Replays cluster device (more ++ earlier) disk → (before : Disk) × Replays cluster device earlier before
    replayed_of [] disk is = (disk, is)
    replayed_of (event ∷ more) disk is = let before = before_of event (more ++ earlier) disk is in replayed_of more before.0 before.1

    guarded_of : (more : List Event) (stamp mark : ℕ) → IsGuarded cluster device stamp mark (more ++ earlier) → IsGuarded cluster device stamp mark earlier
    guarded_of [] stamp mark is = is
    guarded_of (event ∷ more) stamp mark is = guarded_of more stamp mark (guarded_before event (more ++ earlier) stamp mark is)

    module _ (later : List Event) (on : Continues later earlier) where
      pub replayed_within : (disk : Disk) → Replays cluster device later disk → (before : Disk) × Replays cluster device earlier before
      replayed_within disk is = replayed_of on.0 disk (subst (λ events. Replays cluster device events disk) on.1 is)

      pub guarded_within : (stamp mark : ℕ) → IsGuarded cluster device stamp mark later → IsGuarded cluster device stamp mark earlier
      guarded_within stamp mark is = guarded_of on.0 stamp mark (subst (IsGuarded cluster device stamp mark) on.1 is)
