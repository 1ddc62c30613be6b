-- Whatever a basic event does to a world is one of the moves.
use Rattle.std.proofs.Common.{◌≡◌, ℕ, Bool, true, false, Contains, Option, Some, None, refl, sym, subst}
use Rattle.std.specs.Prelude.{MatchBool}
use Rattle.sw_message.specs.Transcript.{after_answer}
use Rattle.sw_message.specs.declared.reply.Reply.{Reply}
use Rattle.sw_message.specs.declared.sent.Sent.{Sent}
use Rattle.sw_law_scene.specs.Moves.{Crashes, CrashesMounting, Fails, Handles, Restarts, lost, stopped, ticked}
use Rattle.sw_law_scene.specs.Scene.{Answer, Message, Request, Scene, is_up}
use Rattle.sw_core.specs.Event.{Comes, Crash, CrashMount, Delete, Deliver, Event, Fault, Get, GiveUp, Happens, Head, TakesAnswer, Job, Lose, OnRequest, OnScene, Proceeds, Put, Recon, Restart, SetClock, Start, Starts, Stop, idle}
use Rattle.sw_core.specs.World.{Operating, World, numbered}
use Rattle.sw_core.proofs.Numbered.{numbered-contains}
use Rattle.sw_law_scene.specs.SceneMove.{Crashed, CrashedMounting, DeviceMove, Failed, Handled, Lost, NotesDelete, NotesNothing, NotesPut, Passed, Restarted, Stopped}
use Rattle.sw_core.specs.WorldMove.{Answered, Began, GaveUp, Moved, WorldMove}

module _ (world after : World) where
  -- nothing happens
  idles : after ≡ idle world → WorldMove world after
  idles same = subst (WorldMove world) (sym same) (Moved (ticked world.scene) world.clock Passed)

  -- ---- operations

  -- a job is started
  starts : (job : Job) → Starts job world after → WorldMove world after
  starts (Put name object) (left, put, goes) = Began _ _ (NotesPut name object left put) after goes
  starts (Delete name) (left, goes) = Began _ _ (NotesDelete name left) after goes
  starts (Get name) goes = Began _ _ NotesNothing after goes
  starts (Head name) goes = Began _ _ NotesNothing after goes
  starts (Recon device name) (member, goes) = Began _ _ NotesNothing after goes

  -- an operation is told an answer, unless it is over
  module _ (number ticket : ℕ) (answer : Option Reply)
      (goes_on : (operation : Operating) → numbered world.operations number ≡ Some operation → operation.is_over ≡ false → Proceeds world number operation (after_answer operation.past ticket answer) after → WorldMove world after) where
    told_by : (operation : Operating) → numbered world.operations number ≡ Some operation → (is_over : Bool) → operation.is_over ≡ is_over
        → MatchBool is_over (after ≡ idle world) (Proceeds world number operation (after_answer operation.past ticket answer) after) → WorldMove world after
    told_by operation is true over same = idles same
    told_by operation is false waits goes = goes_on operation is waits goes

    tells : (found : Option Operating) → numbered world.operations number ≡ found → TakesAnswer found number ticket answer world after → WorldMove world after
    tells None is same = idles same
    tells (Some operation) is goes = told_by operation is operation.is_over refl goes

  -- ---- devices

  -- where that may be something happens, and else nothing
  on_scene : (does : Scene → Type 0) → ((scene : Scene) → does scene → DeviceMove world.scene scene) → (may : Bool) → OnScene may does world after → WorldMove world after
  on_scene does moves false same = idles same
  on_scene does moves true (scene, done, same) = subst (WorldMove world) (sym same) (Moved scene world.clock (moves scene done))

  -- something happens at a request's device
  on_request : (does : ℕ → Sent → Scene → Type 0) → ((at operation : ℕ) (sent : Sent) → Contains world.scene.messages (Request at operation sent) → (scene : Scene) → does operation sent scene → DeviceMove world.scene scene)
      → (message : ℕ) (posted : Option Message) → numbered world.scene.messages message ≡ posted → OnRequest posted does world after → WorldMove world after
  on_request does moves message None is same = idles same
  on_request does moves message (Some (Answer at operation sent reply)) is same = idles same
  on_request does moves message (Some (Request at operation sent)) is done =
      on_scene (does operation sent) (moves at operation sent (numbered-contains world.scene.messages message (Request at operation sent) is)) (is_up world.scene sent.device) done

  -- a message comes
  comes : (message : ℕ) (posted : Option Message) → numbered world.scene.messages message ≡ posted → Comes posted world after → WorldMove world after
  comes message None is same = idles same
  comes message (Some (Request at operation sent)) is done = on_request (Handles world.scene) Handled message (Some (Request at operation sent)) is done
  comes message (Some (Answer at number sent reply)) is goes =
      tells number sent.ticket (Some reply) (λ operation there waits on. Answered at number sent reply (numbered-contains world.scene.messages message (Answer at number sent reply) is) operation there waits after on) (numbered world.operations number) refl goes

  -- ---- events

  -- what an event does
  pub happens-moves : (event : Event) → Happens event world after → WorldMove world after
  happens-moves (Start job) goes = starts job goes
  happens-moves (Deliver message) goes = comes message (numbered world.scene.messages message) refl goes
  happens-moves (Crash message) goes = on_request (λ operation sent. Crashes world.scene sent) Crashed message (numbered world.scene.messages message) refl goes
  happens-moves (Fault message) goes = on_request (Fails world.scene) Failed message (numbered world.scene.messages message) refl goes
  happens-moves (CrashMount device) goes = on_scene (CrashesMounting world.scene device) (CrashedMounting device) _ goes
  happens-moves (Stop device) goes = on_scene (λ scene. scene ≡ stopped device world.scene) (λ scene same. subst (DeviceMove world.scene) (sym same) (Stopped device)) _ goes
  happens-moves (Restart device) goes = on_scene (Restarts world.scene device) (Restarted device) _ goes
  happens-moves (Lose device) goes = on_scene (λ scene. scene ≡ lost device world.scene) (λ scene same. subst (DeviceMove world.scene) (sym same) (Lost device)) _ goes
  happens-moves (GiveUp number ticket) goes = tells number ticket None (λ operation there waits on. GaveUp number ticket operation there waits after on) (numbered world.operations number) refl goes
  happens-moves (SetClock stamp) (fits, same) = subst (WorldMove world) (sym same) (Moved (ticked world.scene) stamp Passed)
