-- Disks stay sure whatever happens, unless one fails.
use Rattle.std.proofs.Common.{◌≡◌, ℕ, ◌==◌, Bool, true, false, cond, List, Option, Some, None, refl, sym, subst}
use Rattle.std.specs.Prelude.{MatchBool}
use Rattle.sw_message.specs.Step.{Folders}
use Rattle.sw_message.specs.Transcript.{Step}
use Rattle.sw_message.specs.declared.reply.Reply.{Reply}
use Rattle.sw_message.specs.declared.sent.Sent.{Sent}
use Rattle.sw_law_scene.specs.Devices.{no_folders}
use Rattle.sw_law_scene.specs.Disks.{Sure}
use Rattle.sw_law_scene.specs.Moves.{Crashes, CrashesMounting, Handles, Restarts, lost, stopped}
use Rattle.sw_law_scene.specs.Scene.{Answer, DeviceState, Message, Request, Scene, is_down, is_up, set_device}
use Rattle.sw_core.specs.Event.{Comes, Crash, CrashMount, Delete, Deliver, Event, Fault, Get, GiveUp, Happens, Head, TakesAnswer, Job, Lose, OnRequest, OnScene, Proceeds, Put, Recon, Restart, SetClock, Start, Starts, Stop, idle}
use Rattle.sw_core.specs.World.{Operating, World, numbered}
use Rattle.sw_law_determined.specs.Sure.{AreSure, KeepsSure}

-- ---- one device has another state

abbrev IsSureState : DeviceState → Type 0
IsSureState state = (folders : Folders) × (state.disk ≡ Sure folders)

module _ (scene : Scene) (sure : AreSure scene) where
  set-sure : (device : ℕ) (state : DeviceState) → IsSureState state → AreSure (set_device device state scene)
  set-sure device state is other = by (other == device)
    where
      by : (same : Bool) → IsSureState (cond same state (scene.devices other))
      by true = is
      by false = sure other

  handles-sure : (operation : ℕ) (sent : Sent) (after : Scene) → Handles scene operation sent after → AreSure after
  handles-sure operation sent after done = subst AreSure (sym done.after_is) (set-sure sent.device (record (scene.devices sent.device) { disk = Sure done.folders }) (done.folders, refl))

  crashes-sure : (sent : Sent) (after : Scene) → Crashes scene sent after → AreSure after
  crashes-sure sent after done = subst AreSure (sym done.after_is) (set-sure sent.device (record { disk = Sure done.image; is_up = false }) (done.image, refl))

  mounting-sure : (device : ℕ) (after : Scene) → CrashesMounting scene device after → AreSure after
  mounting-sure device after done = subst AreSure (sym done.after_is) (set-sure device (record { disk = Sure done.image; is_up = false }) (done.image, refl))

  restarts-sure : (device : ℕ) (after : Scene) → Restarts scene device after → AreSure after
  restarts-sure device after done = subst AreSure (sym done.after_is) (set-sure device (record { disk = Sure done.mounted; is_up = true }) (done.mounted, refl))

  stopped-sure : (device : ℕ) → AreSure (stopped device scene)
  stopped-sure device = set-sure device (record (scene.devices device) { is_up = false }) (sure device)

  lost-sure : (device : ℕ) → AreSure (lost device scene)
  lost-sure device = set-sure device (record (scene.devices device) { disk = Sure no_folders }) (no_folders, refl)

-- ---- an operation goes on

proceeds-sure : (before : World) (number : ℕ) (operation : Operating) (past : List Step) (after : World) → Proceeds before number operation past after → AreSure before.scene → AreSure after.scene
proceeds-sure before number operation past after goes sure = subst (λ (world : World). AreSure world.scene) (sym goes.after_is) sure

-- ---- events

module _ (world after : World) (sure : AreSure world.scene) where
  idles-sure : after ≡ idle world → AreSure after.scene
  idles-sure same = subst (λ (one : World). AreSure one.scene) (sym same) sure

  on_scene-sure : (does : Scene → Type 0) → ((scene : Scene) → does scene → AreSure scene) → (may : Bool) → OnScene may does world after → AreSure after.scene
  on_scene-sure does keeps false same = idles-sure same
  on_scene-sure does keeps true (scene, done, same) = subst (λ (one : World). AreSure one.scene) (sym same) (keeps scene done)

  told_by-sure : (number ticket : ℕ) (operation : Operating) (past : List Step) (is_over : Bool) → MatchBool is_over (after ≡ idle world) (Proceeds world number operation past after) → AreSure after.scene
  told_by-sure number ticket operation past true same = idles-sure same
  told_by-sure number ticket operation past false goes = proceeds-sure world number operation past after goes sure

  told-sure : (found : Option Operating) (number ticket : ℕ) (answer : Option Reply) → TakesAnswer found number ticket answer world after → AreSure after.scene
  told-sure None number ticket answer same = idles-sure same
  told-sure (Some operation) number ticket answer goes = told_by-sure number ticket operation _ operation.is_over goes

  comes-sure : (posted : Option Message) → Comes posted world after → AreSure after.scene
  comes-sure None same = idles-sure same
  comes-sure (Some (Request at operation sent)) done =
      on_scene-sure (Handles world.scene operation sent) (handles-sure world.scene sure operation sent) (is_up world.scene sent.device) done
  comes-sure (Some (Answer at number sent reply)) goes = told-sure (numbered world.operations number) number sent.ticket (Some reply) goes

  on_request-sure : (posted : Option Message) → OnRequest posted (λ operation sent. Crashes world.scene sent) world after → AreSure after.scene
  on_request-sure None same = idles-sure same
  on_request-sure (Some (Answer at operation sent reply)) same = idles-sure same
  on_request-sure (Some (Request at operation sent)) done =
      on_scene-sure (Crashes world.scene sent) (crashes-sure world.scene sure sent) (is_up world.scene sent.device) done

  starts-sure : (job : Job) → Starts job world after → AreSure after.scene
  starts-sure (Put name object) (left, put, goes) = proceeds-sure _ _ _ _ after goes sure
  starts-sure (Delete name) (left, goes) = proceeds-sure _ _ _ _ after goes sure
  starts-sure (Get name) goes = proceeds-sure _ _ _ _ after goes sure
  starts-sure (Head name) goes = proceeds-sure _ _ _ _ after goes sure
  starts-sure (Recon device name) (member, goes) = proceeds-sure _ _ _ _ after goes sure

  pub happens-sure : (event : Event) → KeepsSure event → Happens event world after → AreSure after.scene
  happens-sure (Start job) kept goes = starts-sure job goes
  happens-sure (Deliver message) kept goes = comes-sure (numbered world.scene.messages message) goes
  happens-sure (Crash message) kept goes = on_request-sure (numbered world.scene.messages message) goes
  happens-sure (Fault message) none goes = absurd none
  happens-sure (CrashMount device) kept goes = on_scene-sure (CrashesMounting world.scene device) (mounting-sure world.scene sure device) (is_down world.scene device) goes
  happens-sure (Stop device) kept goes =
      on_scene-sure (λ scene. scene ≡ stopped device world.scene) (λ scene same. subst AreSure (sym same) (stopped-sure world.scene sure device)) (is_up world.scene device) goes
  happens-sure (Restart device) kept goes = on_scene-sure (Restarts world.scene device) (restarts-sure world.scene sure device) (is_down world.scene device) goes
  happens-sure (Lose device) kept goes =
      on_scene-sure (λ scene. scene ≡ lost device world.scene) (λ scene same. subst AreSure (sym same) (lost-sure world.scene sure device)) _ goes
  happens-sure (GiveUp number ticket) kept goes = told-sure (numbered world.operations number) number ticket None goes
  happens-sure (SetClock stamp) kept (fits, same) = subst (λ (one : World). AreSure one.scene) (sym same) sure
