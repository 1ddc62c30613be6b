-- A message that a device handles leaves the names in its folders by a step, and its reply, where the names and the message were so.
use Rattle.std.proofs.Common.{◌≡◌, inl, inr, ℕ, Option, Some, None, sym, subst}
use Rattle.std.proofs.lemmas.Option.{none-some, same_Some}
use Rattle.sw_hashpath.specs.Place.{IsPlace, PlaceModel, folder_of}
use Rattle.sw_hashpath.proofs.Folders.{one_place}
use Rattle.sw_diskfile.proofs.Directories.{same_or_other}
use Rattle.sw_message.specs.Message.{IsPlaceOf, place_in}
use Rattle.sw_message.specs.Step.{AreChanged, Folders, IsStepAt}
use Rattle.sw_message.specs.Table.{Found, Handling, IsHandled}
use Rattle.sw_message.specs.declared.message.Msg.{Msg}
use Rattle.sw_message.specs.declared.reply.Reply.{Reply}
use Rattle.sw_objsrv.specs.Handling.{IsStamped}
use Rattle.sw_law_scene.specs.Devices.{IsDeviceStep}
use Rattle.sw_law_scene.specs.Scene.{Scene}
use Rattle.sw_law_owed.specs.Decided.{AreNamesBy, IsMessageBy, IsReplyBy}
use Rattle.sw_law_owed.proofs.Named.{AreNamed, changed_named}
use Rattle.sw_law_owed.proofs.Rows.{FineAt, Holds, IsFine, handled_fine}

module _ (scene : Scene) (by : ℕ) (before after : Folders) (were : AreNamesBy scene by before) where
  -- the names in the folder of a place
  named : (place : PlaceModel) → IsPlace scene.cluster.part_power place → AreNamed (Holds scene by place) (before (folder_of place))
  named place is_place = λ name spelt has. were place name is_place spelt has

  -- a folder is as it was
  same_named : (place : PlaceModel) → IsPlace scene.cluster.part_power place → after (folder_of place) ≡ before (folder_of place) → AreNamed (Holds scene by place) (after (folder_of place))
  same_named place is_place same = subst (AreNamed (Holds scene by place)) (sym same) (named place is_place)

  -- in the folder of the message's place, and in any
  changed_at : (at : PlaceModel) → IsPlace scene.cluster.part_power at → (handling : Handling) → IsFine scene by at handling → AreChanged (folder_of at) handling.changes before after → AreNamesBy scene by after
  changed_at at is_at handling fine changed = λ place name is_place. elim (same_or_other (folder_of place) (folder_of at)) [
    | inl same ↦
        subst (λ (p : PlaceModel). AreNamed (Holds scene by p) (after (folder_of p))) (one_place scene.cluster.part_power at place is_at is_place (sym same.1))
        (subst (AreNamed (Holds scene by at)) (sym changed.changed) (changed_named (Holds scene by at) handling.changes (before (folder_of at)) fine.0 (named at is_at))) name
    | inr apart ↦ same_named place is_place (changed.others (folder_of place) apart.1) name
  ]

  module _ (device room : ℕ) (msg : Msg) (answer : Reply) where
    -- what the step of a message does
    abbrev pub IsDone : Option PlaceModel → Type 0
    IsDone about = AreNamesBy scene by after × ((place : PlaceModel) → about ≡ Some place → IsReplyBy scene place by answer)

    by_place : (about : Option PlaceModel) → IsPlaceOf scene.cluster about
        → ((found : Found) (handling : Handling) → IsHandled scene.cluster device found msg handling → FineAt scene by before room found handling about) → IsStepAt scene.cluster device room msg about before after answer → IsDone about
    by_place None right fine step = (λ place name is_place. same_named place is_place (step.same (folder_of place)) name, λ place none. absurd (none-some place none))
    by_place (Some at) right fine step =
        let row = fine step.found step.handling step.handled (named at right) step.is_found in (
          changed_at at right step.handling row step.changed,
          λ place same. subst (λ (p : PlaceModel). IsReplyBy scene p by answer) (same_Some at place same) (subst (IsReplyBy scene at by) (sym step.replied) row.1),
        )

  -- so of a device that handles a message
  pub stepped : (device : ℕ) (msg : Msg) (answer : Reply) → IsPlaceOf scene.cluster (place_in msg) → IsStamped msg → IsMessageBy scene by msg → IsDeviceStep scene.cluster device msg answer before after
      → AreNamesBy scene by after × ((place : PlaceModel) → place_in msg ≡ Some place → IsReplyBy scene place by answer)
  stepped device msg answer right stamped may is = by_place device is.room msg answer (place_in msg) right (λ found handling. handled_fine scene by before is.room found handling device msg stamped may) is.step
