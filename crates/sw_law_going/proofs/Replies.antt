-- A reply that brings the bytes of a fetch brings the archive that was asked for, since a device checks what it reads: so it is with each
-- reply that was ever made.
use Rattle.std.proofs.Common.{inl, inr, ℕ, List, [], ◌∷◌, ◌++◌, sym, subst}
use Rattle.std.specs.Prelude.{⊤}
use Rattle.std.specs.List.{All}
use Rattle.std.proofs.lemmas.List.Elements.{All-append, All-map, All-nil, All-push}
use Rattle.sw_hashpath.specs.Place.{PlaceModel}
use Rattle.sw_ring.specs.Cluster.{ClusterModel}
use Rattle.sw_message.specs.Spoil.{IsArchiveOf}
use Rattle.sw_message.specs.Step.{Folders}
use Rattle.sw_message.specs.Table.{FetchGone, FetchRead, FetchSpoiled, Found, HandlesFetch, Handling}
use Rattle.sw_message.specs.declared.message.Msg.{Msg}
use Rattle.sw_message.specs.declared.message.Msg.TheVariants as message
use Rattle.sw_message.specs.declared.reply.Reply.{Reply}
use Rattle.sw_message.specs.declared.reply.Reply.TheVariants as reply
use Rattle.sw_message.specs.declared.sent.Sent.{Sent}
use Rattle.sw_law_scene.specs.Devices.{IsDeviceStep}
use Rattle.sw_law_scene.specs.Moves.{requests_of}
use Rattle.sw_law_scene.specs.Scene.{Answer, Message, Request, Scene}
use Rattle.sw_law_scene.specs.SceneMove.{Asked, AtDevice, Crashed, CrashedMounting, DeviceMove, Failed, Handled, Lost, Notes, NotesDelete, NotesNothing, NotesPut, Passed, Restarted, SceneMove, Stopped}
use Rattle.sw_core.specs.Event.{Event, IsRun}
use Rattle.sw_core.specs.World.{World}
use Rattle.sw_core.proofs.Carried.{run-carried}
use Rattle.sw_core.proofs.SceneMoves.{scene-moves}

-- bytes in a reply to a fetch are the archive that was asked for
abbrev pub IsRight : ClusterModel → Msg → Reply → Type 0
IsRight cluster (message.Fetch place stamp index) (reply.Fragment bytes) = IsArchiveOf cluster place stamp index bytes
IsRight cluster msg given = ⊤

-- ---- what a device replies

module _ (cluster : ClusterModel) where
  fault_right : (msg : Msg) → IsRight cluster msg reply.DiskFault
  fault_right (message.Fetch place stamp index) = tt
  fault_right msg = tt

  module _ (place : PlaceModel) (stamp index : ℕ) where
    abbrev HandledRight : Handling → Type 0
    HandledRight handling = IsRight cluster (message.Fetch place stamp index) handling.reply

    fetched_right : (found : Found) (handling : Handling) → HandlesFetch cluster place stamp index found handling → HandledRight handling
    fetched_right found handling (FetchGone lacks listing is same) = subst HandledRight (sym same) tt
    fetched_right found handling (FetchRead durable has archive same) = subst HandledRight (sym same) archive
    fetched_right found handling (FetchSpoiled durable has spoil is same) = subst HandledRight (sym same) tt

  stepped_right : (device : ℕ) (msg : Msg) (given : Reply) (before after : Folders) → IsDeviceStep cluster device msg given before after → IsRight cluster msg given
  stepped_right device (message.Fetch place stamp index) given before after is =
      subst (IsRight cluster (message.Fetch place stamp index)) (sym is.step.replied) (fetched_right place stamp index is.step.found is.step.handling is.step.handled)
  stepped_right device msg given before after is = tt

  abbrev pub IsRightMessage : Message → Type 0
  IsRightMessage (Request at operation sent) = ⊤
  IsRightMessage (Answer at operation sent given) = IsRight cluster sent.msg given

-- ---- scenes

abbrev pub AllRight : Scene → Type 0
AllRight scene = All (IsRightMessage scene.cluster) scene.messages

module _ (scene : Scene) (are : AllRight scene) where
  replied : (operation : ℕ) (sent : Sent) (given : Reply) → IsRight scene.cluster sent.msg given → All (IsRightMessage scene.cluster) (scene.messages ++ Answer scene.now operation sent given ∷ [])
  replied operation sent given right = All-push (IsRightMessage scene.cluster) scene.messages (Answer scene.now operation sent given) are right

  at_device : (after : Scene) → DeviceMove scene after → AllRight after
  at_device _ Passed = are
  at_device _ (Handled at operation sent request after done) =
      subst AllRight (sym done.after_is) (replied operation sent done.reply (stepped_right scene.cluster sent.device sent.msg done.reply done.found done.folders done.step))
  at_device _ (Failed at operation sent request after done) = subst AllRight (sym done.after_is) (replied operation sent reply.DiskFault (fault_right scene.cluster sent.msg))
  at_device _ (Crashed at operation sent request after done) = subst AllRight (sym done.after_is) are
  at_device _ (CrashedMounting device after done) = subst AllRight (sym done.after_is) are
  at_device _ (Stopped device) = are
  at_device _ (Restarted device after done) = subst AllRight (sym done.after_is) are
  at_device _ (Lost device) = are

  noted_so : (clock : ℕ) (noted : Scene) → Notes clock scene noted → AllRight noted
  noted_so clock _ NotesNothing = are
  noted_so clock _ (NotesPut name object left put) = are
  noted_so clock _ (NotesDelete name left) = are

  moves_so : (clock : ℕ) (after : Scene) → SceneMove clock scene after → AllRight after
  moves_so clock _ (AtDevice after move) = at_device after move
  moves_so clock _ (Asked noted notes number sents) =
      All-append (IsRightMessage noted.cluster) noted.messages (requests_of noted.now number sents) (noted_so clock noted notes)
      (All-map (IsRightMessage noted.cluster) (λ (sent : Sent). Request noted.now number sent) sents (λ position other below. tt))

-- ---- runs

pub run_right : (cluster : ClusterModel) (events : List Event) (world : World) → IsRun cluster events world → AllRight world.scene
run_right cluster events world run = run-carried cluster (λ world. AllRight world.scene)
    (λ before after sound still are move. moves_so before.scene are before.clock after.scene (scene-moves before after move))
    (All-nil (IsRightMessage cluster)) events world run
