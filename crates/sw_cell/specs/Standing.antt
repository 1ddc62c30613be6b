-- How the disks that stood behind locks agree with what is known of their devices.
use Rattle.std.specs.Prelude.{◌≡◌, ℕ, Bool, List, ◌∷◌}
use Rattle.sw_disk.specs.Runs.{IfTold, Seen}
use Rattle.sw_ring.specs.Cluster.{ClusterModel}
use Rattle.sw_objsrv.specs.Handling.{folders_of}
use Rattle.sw_law_replayed.specs.Standing.{StandsFor}
use Rattle.sw_view.specs.History.{Continues}
use Rattle.sw_view.specs.declared.event.Event.{Event}
use Rattle.sw_view.specs.declared.event.Event.TheVariants.{Replaced}
use Rattle.sw_pass.specs.Known.{HasSlot, history}
use Rattle.sw_pass.specs.declared.known.Known.{Known}
use Rattle.sw_cell.specs.Learning.{HasLearnt}
use Rattle.sw_cell.specs.Locked.{AreCounted}

-- What a disk holds, where it tells, is what a history of the device replays to, or while a mount is due like one of the sides of that, and the
-- disk counted each failure in it.
pub record HasHistory {D : Type 0} (cluster : ClusterModel) (seen : D → Seen) (device : ℕ) (events : List Event) (disk : D) : Type 0 where
  pub is_due : Bool
  pub holds : IfTold (seen disk).told (λ state. StandsFor cluster device events is_due (folders_of state))
  pub counted : AreCounted events (seen disk).faults

-- so it is for the whole of what a seat knows of the device
pub record IsDiskOf {D : Type 0} (cluster : ClusterModel) (seen : D → Seen) (known : Known) (device : ℕ) (disk : D) : Type 0 where
  pub slot : ℕ
  pub at : HasSlot cluster device slot
  pub has : HasHistory cluster seen device (history known.histories slot) disk

-- What a replacement tells of the seat that made it: what it has learnt, and that the device's history goes on from what the seat knew of it, up
-- to the loss of the disk that came back.
pub record IsReplaced {D : Type 0} (cluster : ClusterModel) (seen : D → Seen) (device slot : ℕ) (before after : Known) (lost : D) : Type 0 where
  pub learnt : HasLearnt cluster before after
  pub past : List Event
  pub later : Continues past (history before.histories slot)
  pub held : HasHistory cluster seen device past lost
  pub loss : ℕ
  pub latest : history after.histories slot ≡ Replaced loss ∷ past
