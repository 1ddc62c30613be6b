-- What stands behind the lock of a device.
use Rattle.std.specs.Prelude.{◌≡◌, ◌⊎◌, ◌≤◌, ℕ, suc, Bool, List, [], ◌∷◌, None}
use Rattle.atomic_table.specs.Seated.{TableId}
use Rattle.sw_words.specs.Counts.{last_count}
use Rattle.sw_disk.specs.Runs.{Seen}
use Rattle.sw_ring.specs.Cluster.{ClusterModel}
use Rattle.sw_objsrv.specs.Node.{IsNode, NodeModel}
use Rattle.sw_view.specs.declared.event.Event.{Event}
use Rattle.sw_view.specs.declared.event.Event.TheVariants.{Faulted, Handled, Mounted, Replaced}
use Rattle.sw_law_replayed.specs.Standing.{IsReplayed}
use Rattle.sw_pass.specs.Known.{HasSlot, history}
use Rattle.sw_pass.specs.Steps.{able}
use Rattle.sw_pass.specs.declared.known.Known.{Known}

-- the table of no cluster
abbrev pub no_table : TableId
no_table = record { words = 0; slots = 0; views_name = 0; atom = 0; block = 0; offset = 0; slot_names = [] }

-- the node of a device, and the seat at its slot, with what that knows
pub record LockedModel (D : Type 0) : Type 0 where
  pub node : NodeModel D
  pub table : TableId
  pub slot : ℕ
  pub known : Known
  -- the node mounts again before it handles a message
  pub is_due : Bool

-- how often the disk failed, of the one that stands there now
abbrev pub failures : List Event → ℕ
failures [] = 0
failures (Handled msg reply ∷ past) = failures past
failures (Faulted msg ∷ past) = suc (failures past)
failures (Mounted ∷ past) = failures past
failures (Replaced loss ∷ past) = 0

-- each failure in a history was counted by the disk, as far as its count goes
abbrev pub AreCounted : List Event → (faults : ℕ) → Type 0
AreCounted events faults = (failures events ≤ faults) ⊎ (last_count ≤ faults)

-- What always holds of it: the node is one of the cluster, the slot that of its device, and no loss is owed; each failure in the history that the
-- seat knows was counted by the disk, and what the disk holds is what that history replays to.
pub record IsLocked {D : Type 0} (cluster : ClusterModel) (table : TableId) (seen : D → Seen) (locked : LockedModel D) : Type 0 where
  pub same_table : locked.table ≡ table
  pub is_node : IsNode cluster seen locked.node
  pub slot : HasSlot cluster locked.node.device locked.slot
  pub due : locked.is_due ≡ locked.node.is_due
  pub none_owed : locked.known.owing ≡ None
  pub counted : AreCounted (history locked.known.histories locked.slot) (seen locked.node.disk).faults
  pub replayed : IsReplayed cluster seen (history locked.known.histories locked.slot) locked.node

-- All is as it was, but that the seat may have found that another loss can be counted.
pub record IsLike {D : Type 0} (before after : LockedModel D) : Type 0 where
  pub others : after ≡ record before { known = after.known }
  pub known : (after.known ≡ before.known) ⊎ (after.known ≡ able before.known)
