-- Along each fair history only the folders of places have files.
use Rattle.std.proofs.Common.{inl, inr, ℕ, Contains, List, [], ◌∷◌, Option, Some, None, refl, sym, subst, ◌∙◌}
use Rattle.sw_hashpath.specs.Place.{PlaceModel}
use Rattle.sw_diskfile.proofs.Lists.{Contains-first, Contains-later}
use Rattle.sw_ring.specs.Cluster.{ClusterModel}
use Rattle.sw_message.specs.Learnt.{Learnt}
use Rattle.sw_message.specs.Message.{IsPlaceOf, place_in}
use Rattle.sw_message.specs.Step.{Folders, IsStepAt}
use Rattle.sw_message.specs.declared.message.Msg.{Msg}
use Rattle.sw_message.specs.declared.reply.Reply.{Reply}
use Rattle.sw_law_scene.specs.Devices.{IsDeviceStep, no_folders}
use Rattle.sw_law_scene.specs.Disks.{AreOfPlaces, Disk, IsFailedBy, IsFoundOn, IsMounted, IsSide, Sure, Undecided}
use Rattle.sw_view.specs.History.{Replays}
use Rattle.sw_view.specs.View.{IsFairEvent}
use Rattle.sw_view.specs.declared.event.Event.{Event}
use Rattle.sw_view.specs.declared.event.Event.TheVariants.{Faulted, Handled, Mounted, Replaced}

module _ (cluster : ClusterModel) (device : ℕ) where
  -- whatever the disk may hold is so
  abbrev IsOnPlaces : Disk → Type 0
  IsOnPlaces disk = (side : Folders) → IsSide disk side → AreOfPlaces cluster side

  sure : (folders : Folders) → AreOfPlaces cluster folders → IsOnPlaces (Sure folders)
  sure folders are side is = subst (AreOfPlaces cluster) (sym is) are

  undecided : (before after : Folders) → AreOfPlaces cluster before → AreOfPlaces cluster after → IsOnPlaces (Undecided before after)
  undecided before after first second side (inl is) = subst (AreOfPlaces cluster) (sym is) first
  undecided before after first second side (inr is) = subst (AreOfPlaces cluster) (sym is) second

  -- ---- one event

  mounted : (before after : Folders) → IsMounted cluster device before after → AreOfPlaces cluster before → AreOfPlaces cluster after
  mounted before after is are name none = is.others name none ∙ are name none

  found_on : (disk : Disk) (found : Folders) → IsFoundOn cluster device disk found → IsOnPlaces disk → AreOfPlaces cluster found
  found_on (Sure folders) found is are = are found is
  found_on (Undecided before after) found (inl is) are = mounted before found is (are before (inl refl))
  found_on (Undecided before after) found (inr is) are = mounted after found is (are after (inr refl))

  -- a message about a place of the cluster changes no other folder
  step_at : (room : ℕ) (msg : Msg) (reply : Reply) (place : Option PlaceModel) (before after : Folders) → IsPlaceOf cluster place → IsStepAt cluster device room msg place before after reply → AreOfPlaces cluster before → AreOfPlaces cluster after
  step_at room msg reply None before after right step are name none = step.same name ∙ are name none
  step_at room msg reply (Some place) before after right step are name none = step.changed.others name (none place right) ∙ are name none

  stepped : (msg : Msg) (reply : Reply) (before after : Folders) → IsPlaceOf cluster (place_in msg) → IsDeviceStep cluster device msg reply before after → AreOfPlaces cluster before → AreOfPlaces cluster after
  stepped msg reply before after right is = step_at is.room msg reply (place_in msg) before after right is.step

  failed_by : (msg : Msg) (before after : Disk) → IsPlaceOf cluster (place_in msg) → IsFailedBy cluster device msg before after → IsOnPlaces before → IsOnPlaces after
  failed_by msg (Sure folders) failed right (reply, after, step, same) are =
      subst IsOnPlaces (sym same) (undecided folders after (are folders refl) (stepped msg reply folders after right step (are folders refl)))
  failed_by msg (Undecided before after) failed right (inl same) are = subst IsOnPlaces (sym same) are
  failed_by msg (Undecided before after) failed right (inr (found, later, reply, is_found, step, same)) are =
      let here = found_on (Undecided before after) found is_found are in
      subst IsOnPlaces (sym same) (undecided found later here (stepped msg reply found later right step here))

  -- ---- a history

  module _ (learnt : Learnt) where
    abbrev Fair : List Event → Type 0
    Fair events = (event : Event) → Contains events event → IsFairEvent cluster learnt event

    later : (event : Event) (past : List Event) → Fair (event ∷ past) → Fair past
    later event past fair = λ one has. fair one (Contains-later event past one has)

    pub on_places : (events : List Event) (disk : Disk) → Fair events → Replays cluster device events disk → IsOnPlaces disk
    on_places [] disk fair same = subst IsOnPlaces (sym same) (sure no_folders (λ name none. refl))
    on_places (Handled msg reply ∷ past) disk fair (found, folders, replays, step, same) =
        let right = (fair (Handled msg reply) (Contains-first (Handled msg reply) past)).0 in
        subst IsOnPlaces (sym same) (sure folders (stepped msg reply found folders right step (on_places past (Sure found) (later (Handled msg reply) past fair) replays found refl)))
    on_places (Faulted msg ∷ past) disk fair (before, replays, failed) =
        failed_by msg before disk (fair (Faulted msg) (Contains-first (Faulted msg) past)).0 failed (on_places past before (later (Faulted msg) past fair) replays)
    on_places (Mounted ∷ past) disk fair (before, found, replays, is_found, same) =
        subst IsOnPlaces (sym same) (sure found (found_on before found is_found (on_places past before (later Mounted past fair) replays)))
    on_places (Replaced loss ∷ past) disk fair (before, replays, same) = subst IsOnPlaces (sym same) (sure no_folders (λ name none. refl))
