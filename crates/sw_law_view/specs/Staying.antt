-- How a view stays closed and sound as it goes on, and what holds of a history that another goes on from.
use Rattle.std.specs.Prelude.{◌≤◌, ◌∷◌, ℕ, List}
use Rattle.sw_types.specs.Stamp.{greatest_stamp}
use Rattle.sw_archive.specs.Put.{IsPut}
use Rattle.sw_ring.specs.Cluster.{ClusterModel}
use Rattle.sw_message.specs.Message.{IsPlaceOf, place_in}
use Rattle.sw_message.specs.Step.{Folders}
use Rattle.sw_message.specs.declared.message.Msg.{Msg}
use Rattle.sw_message.specs.declared.reply.Reply.{Reply}
use Rattle.sw_law_scene.specs.Devices.{IsDeviceStep}
use Rattle.sw_law_scene.specs.Disks.{Disk, Sure}
use Rattle.sw_view.specs.History.{IsGuarded, Replays}
use Rattle.sw_view.specs.View.{DrawnDelete, DrawnPut, IsClosed, IsFairEvent, IsFirm, IsFresh, IsJoined, IsSoundView, MayHappen, View, known_to, with_event}
use Rattle.sw_view.specs.declared.event.Event.{Event}
use Rattle.sw_view.specs.declared.event.Event.TheVariants.{Handled}

-- A closed view stays closed where a device handles a message that is firmly warranted in it, by a step on what its disk holds after its
-- history, which then holds what the step leaves; and so is one that two closed ones are joined in.
pub record StaysClosed (cluster : ClusterModel) : Type 0 where
  pub handled : (view : View) (device : ℕ) (msg : Msg) (given : Reply) (found folders : Folders) → IsClosed cluster view → IsPlaceOf cluster (place_in msg) → IsFirm cluster (known_to cluster view) msg
      → Replays cluster device (view.history device) (Sure found) → IsDeviceStep cluster device msg given found folders
      → IsClosed cluster (with_event device (Handled msg given) view) × Replays cluster device (Handled msg given ∷ view.history device) (Sure folders)
  pub joined : (one other both : View) → IsClosed cluster one → IsClosed cluster other → IsJoined one other both → IsClosed cluster both

-- A sound view stays sound as it draws a fresh stamp for a put or a delete, whatever the mark, and as a fair event that may happen is added to
-- a device's history.
pub record StaysSound (cluster : ClusterModel) : Type 0 where
  pub put : (view : View) (put : DrawnPut) → IsSoundView cluster view → IsFresh cluster view put.booked.stamp → IsPut cluster.policy put.booked.stamp put.booked.name put.booked.object
      → IsSoundView cluster (record view { puts = put ∷ view.puts })
  pub delete : (view : View) (delete : DrawnDelete) → IsSoundView cluster view → IsFresh cluster view delete.marked.stamp → delete.marked.stamp ≤ greatest_stamp → IsSoundView cluster (record view { deletes = delete ∷ view.deletes })
  pub event : (view : View) (device : ℕ) (event : Event) (disk : Disk) → IsSoundView cluster view → IsFairEvent cluster (known_to cluster view) event → Replays cluster device (event ∷ view.history device) disk → MayHappen view event
      → IsSoundView cluster (with_event device event view)

-- After an earlier history the disk may hold something, and a stamp is guarded in it by a mark, where that is so of the history that goes on from it.
pub record IsSoWithin (cluster : ClusterModel) (device : ℕ) (later earlier : List Event) : Type 0 where
  pub replayed : (disk : Disk) → Replays cluster device later disk → (before : Disk) × Replays cluster device earlier before
  pub guarded : (stamp mark : ℕ) → IsGuarded cluster device stamp mark later → IsGuarded cluster device stamp mark earlier
