-- A message that a device handles leaves each archive in the files that of a put, and so is one in its reply.
use Rattle.std.proofs.Common.{inl, inr, ℕ, List, Option, Some, None, sym, subst}
use Rattle.std.specs.List.{All}
use Rattle.std.proofs.lemmas.Bool.{cases_eq}
use Rattle.sw_disk.specs.Folder.{Change}
use Rattle.sw_hashpath.specs.Place.{IsPlace, PlaceModel, folder_of}
use Rattle.sw_hashdir.specs.declared.floor.Floor.{Floor}
use Rattle.sw_diskfile.proofs.Directories.{same_or_other}
use Rattle.sw_ring.specs.Cluster.{ClusterModel}
use Rattle.sw_message.specs.Learnt.{Booked, IsGenuine, IsSoundBook, Learnt}
use Rattle.sw_message.specs.Message.{IsPlaceOf, place_in}
use Rattle.sw_message.specs.Step.{AreChanged, Folders, IsStepAt}
use Rattle.sw_message.specs.Survey.{IsSurveyed}
use Rattle.sw_message.specs.Table.{Found, Handling, IsHandled}
use Rattle.sw_message.specs.Warrant.{IsWarranted}
use Rattle.sw_message.specs.declared.message.Msg.{Msg}
use Rattle.sw_message.specs.declared.message.Msg.TheVariants as message
use Rattle.sw_message.specs.declared.reply.Reply.{Reply}
use Rattle.sw_law_scene.specs.Devices.{AreSame, Devices, IsDeviceStep, IsHandledBy}
use Rattle.sw_law_scene.specs.Filed.{AreFiled, FoldersFiled, IsFiled}
use Rattle.sw_law_scene.proofs.Changed.{all_changed-kept}
use Rattle.sw_law_scene.proofs.Leaving.{Leave}
use Rattle.sw_hashpath.proofs.Folders.{one_place}
use Rattle.sw_law_scene.proofs.Rows.{FineAt, handled-fine}

-- what is about no place shows no archive
surveyed-genuine : (cluster : ClusterModel) (learnt : Learnt) (power : ℕ) (HasAFile : List ℕ → Type 0) (AreFloors : List (PlaceModel × Floor) → Type 0) (msg : Msg) (reply : Reply)
    → IsSurveyed power HasAFile AreFloors msg reply → IsGenuine cluster learnt reply
surveyed-genuine cluster learnt power HasAFile AreFloors message.Parts reply (parts, are, same) = subst (IsGenuine cluster learnt) (sym same) tt
surveyed-genuine cluster learnt power HasAFile AreFloors (message.Suffixes part) reply (floors, are, hashes, hashed, same) = subst (IsGenuine cluster learnt) (sym same) tt
surveyed-genuine cluster learnt power HasAFile AreFloors (message.Places part) reply (places, are, same) = subst (IsGenuine cluster learnt) (sym same) tt
surveyed-genuine cluster learnt power HasAFile AreFloors (message.PutFrag place stamp index bytes) reply none = absurd none
surveyed-genuine cluster learnt power HasAFile AreFloors (message.Commit place stamp index) reply none = absurd none
surveyed-genuine cluster learnt power HasAFile AreFloors (message.Delete place stamp) reply none = absurd none
surveyed-genuine cluster learnt power HasAFile AreFloors (message.Ask place) reply none = absurd none
surveyed-genuine cluster learnt power HasAFile AreFloors (message.Fetch place stamp index) reply none = absurd none
surveyed-genuine cluster learnt power HasAFile AreFloors (message.Remove place stamp index) reply none = absurd none

-- ---- the folders of a device

module _ (cluster : ClusterModel) (learnt : Learnt) (before after : Folders) (were : FoldersFiled cluster learnt.book before) where
  in_place : (place : PlaceModel) → IsPlace cluster.part_power place → (changes : List Change) → AreChanged (folder_of place) changes before after → Leave cluster learnt.book place changes
      → FoldersFiled cluster learnt.book after
  in_place place right changes changed leave = λ other is_other. elim (same_or_other (folder_of other) (folder_of place)) [
    | inl same ↦
        subst (λ (p : PlaceModel). All (IsFiled cluster learnt.book p) (after (folder_of p))) (one_place cluster.part_power place other right is_other (sym same.1))
        (subst (All (IsFiled cluster learnt.book place)) (sym changed.changed) (all_changed-kept (IsFiled cluster learnt.book place) changes (before (folder_of place)) leave (were place right)))
    | inr apart ↦ subst (All (IsFiled cluster learnt.book other)) (sym (changed.others (folder_of other) apart.1)) (were other is_other)
  ]

  step-fine : (device room : ℕ) (msg : Msg) (reply : Reply) (place : Option PlaceModel) → IsPlaceOf cluster place
      → ((found : Found) (handling : Handling) → IsHandled cluster device found msg handling → FineAt cluster learnt before room found (IsWarranted cluster learnt msg) handling place)
      → IsStepAt cluster device room msg place before after reply → (IsWarranted cluster learnt msg → FoldersFiled cluster learnt.book after) × IsGenuine cluster learnt reply
  step-fine device room msg reply None right fine step = (
    λ warranted other is_other. subst (All (IsFiled cluster learnt.book other)) (sym (step.same (folder_of other))) (were other is_other),
    surveyed-genuine cluster learnt cluster.part_power _ _ msg reply step.surveyed,
  )
  step-fine device room msg reply (Some place) right fine step =
      let row = fine step.found step.handling step.handled right step.is_found in (
        λ warranted. in_place place right step.handling.changes step.changed (row.0 warranted),
        subst (IsGenuine cluster learnt) (sym step.replied) row.1,
      )

  pub stepped : (device : ℕ) (msg : Msg) (reply : Reply) → IsSoundBook cluster.policy learnt.book → IsPlaceOf cluster (place_in msg) → IsDeviceStep cluster device msg reply before after
      → (IsWarranted cluster learnt msg → FoldersFiled cluster learnt.book after) × IsGenuine cluster learnt reply
  stepped device msg reply sound right is =
      step-fine device is.room msg reply (place_in msg) right (λ found handling row. handled-fine cluster learnt sound before were device is.room found handling msg row) is.step

-- ---- the folders of all devices

module _ (cluster : ClusterModel) (learnt : Learnt) (device : ℕ) (msg : Msg) (reply : Reply) (before after : Devices) (sound : IsSoundBook cluster.policy learnt.book) (were : AreFiled cluster learnt.book before) (right : IsPlaceOf cluster (place_in msg)) where
  handled : IsHandledBy cluster device msg reply before after → (IsWarranted cluster learnt msg → FoldersFiled cluster learnt.book (after device)) × IsGenuine cluster learnt reply
  handled is = stepped cluster learnt (before device) (after device) (were device) device msg reply sound right is.handles

  pub filed : IsWarranted cluster learnt msg → IsHandledBy cluster device msg reply before after → AreFiled cluster learnt.book after
  filed warranted is = λ other place is_place. elim (cases_eq other device) [
    | inl same ↦ subst (λ (d : ℕ). All (IsFiled cluster learnt.book place) (after d (folder_of place))) (sym same) ((handled is).0 warranted place is_place)
    | inr apart ↦ subst (All (IsFiled cluster learnt.book place)) (sym (is.others other apart (folder_of place))) (were other place is_place)
  ]

  pub genuine : IsHandledBy cluster device msg reply before after → IsGenuine cluster learnt reply
  genuine is = (handled is).1
