-- Each basic event leads from a world whose disks are sure to one world.
use Rattle.std.proofs.Common.{◌≡◌, ℕ, Bool, true, false, Option, Some, None, sym, ap, ap₂, subst, ◌∙◌}
use Rattle.sw_ring.specs.Cluster.{ClusterModel, KeepsRules, ids_of}
use Rattle.sw_ring.specs.Ring.{is_among}
use Rattle.sw_message.specs.Step.{Folders}
use Rattle.sw_message.specs.declared.reply.Reply.{Reply}
use Rattle.sw_message.specs.declared.sent.Sent.{Sent}
use Rattle.sw_law_scene.specs.Devices.{IsDeviceStep}
use Rattle.sw_law_scene.specs.Disks.{Disk, IsFoundOn, IsMounted, IsSide, Sure}
use Rattle.sw_law_scene.specs.Moves.{Handles, Restarts, lost, replies, stopped, ticked}
use Rattle.sw_law_scene.specs.Scene.{Answer, Message, Request, Scene, disk_of, is_down, is_up, set_device, set_disk}
use Rattle.sw_core.specs.Event.{Comes, Crash, CrashMount, Deliver, Event, Fault, GiveUp, Happens, Lose, OnScene, Restart, SetClock, Start, Stop, with_scene}
use Rattle.sw_operation.specs.Operating.{cluster_of}
use Rattle.sw_core.specs.Sound.{IsSoundWorld}
use Rattle.sw_core.specs.World.{Operating, World, numbered}
use Rattle.sw_law_determined.specs.Sure.{AreSure, IsDetermined}
use Rattle.sw_law_determined.proofs.Devices.{StepLaw, one_device_step, one_mounted}
use Rattle.sw_law_determined.proofs.Going.{starts_once, told_once}
use Rattle.sw_law_determined.proofs.Machines.{rules_of}

-- ---- at one device, whose disk is sure

module _ (scene : Scene) (device : ℕ) (folders : Folders) (sure : disk_of scene device ≡ Sure folders) where
  found_is : (found : Folders) → IsFoundOn scene.cluster device (disk_of scene device) found → found ≡ folders
  found_is found is = subst (λ (disk : Disk). IsFoundOn scene.cluster device disk found) sure is

  side_is : (side : Folders) → IsSide (disk_of scene device) side → side ≡ folders
  side_is side is = subst (λ (disk : Disk). IsSide disk side) sure is

  pub restarts_once : (one other : Scene) → Restarts scene device one → Restarts scene device other → one ≡ other
  restarts_once one other x y =
      let mounted = subst (λ (side : Folders). IsMounted scene.cluster device side x.mounted) (side_is x.side x.is_side) x.is_mounted in
      let also = subst (λ (side : Folders). IsMounted scene.cluster device side y.mounted) (side_is y.side y.is_side) y.is_mounted in
      x.after_is ∙ ap (λ (left : Folders). ticked (set_device device (record { disk = Sure left; is_up = true }) scene)) (one_mounted scene.cluster device folders x.mounted y.mounted mounted also)
      ∙ sym y.after_is

module _ (law : StepLaw) (scene : Scene) (operation : ℕ) (sent : Sent) (folders : Folders) (sure : disk_of scene sent.device ≡ Sure folders) where
  pub handles_once : (one other : Scene) → Handles scene operation sent one → Handles scene operation sent other → one ≡ other
  handles_once one other x y =
      let device = sent.device in
      let step = subst (λ (found : Folders). IsDeviceStep scene.cluster device sent.msg x.reply found x.folders) (found_is scene device folders sure x.found x.finds) x.step in
      let also = subst (λ (found : Folders). IsDeviceStep scene.cluster device sent.msg y.reply found y.folders) (found_is scene device folders sure y.found y.finds) y.step in
      let both = one_device_step law scene.cluster device sent.msg folders x.folders y.folders x.reply y.reply step also in
      x.after_is ∙ ap₂ (λ (reply : Reply) (left : Folders). replies operation sent reply (set_disk device (Sure left) scene)) both.0 both.1 ∙ sym y.after_is

-- ---- where that may be

on_scene_once : (world one other : World) (does : Scene → Type 0) → ((a b : Scene) → does a → does b → a ≡ b) → (may : Bool) → OnScene may does world one → OnScene may does world other → one ≡ other
on_scene_once world one other does once false x y = x ∙ sym y
on_scene_once world one other does once true x y = x.2 ∙ ap (λ (scene : Scene). with_scene scene world) (once x.0 y.0 x.1 y.1) ∙ sym y.2

-- ---- events

module _ (law : StepLaw) (cluster : ClusterModel) (world : World) (sound : IsSoundWorld cluster world) (sure : AreSure world.scene) (one other : World) where
  rules : (number : ℕ) (operation : Operating) → numbered world.operations number ≡ Some operation → KeepsRules (cluster_of operation.begun)
  rules number operation is = rules_of operation.begun (sound.operations number operation is).valid

  comes_once : (posted : Option Message) → Comes posted world one → Comes posted world other → one ≡ other
  comes_once None x y = x ∙ sym y
  comes_once (Some (Request at operation sent)) x y =
      on_scene_once world one other (Handles world.scene operation sent) (handles_once law world.scene operation sent (sure sent.device).0 (sure sent.device).1) (is_up world.scene sent.device) x y
  comes_once (Some (Answer at number sent reply)) x y = told_once world one other number sent.ticket (Some reply) (numbered world.operations number) (rules number) x y

  pub happens_once : (event : Event) → IsDetermined event → Happens event world one → Happens event world other → one ≡ other
  happens_once (Start job) determined x y = starts_once world one other sound.scene.rules job x y
  happens_once (Deliver message) determined x y = comes_once (numbered world.scene.messages message) x y
  happens_once (Crash message) none x y = absurd none
  happens_once (Fault message) none x y = absurd none
  happens_once (CrashMount device) none x y = absurd none
  happens_once (Stop device) determined x y =
      on_scene_once world one other (λ scene. scene ≡ stopped device world.scene) (λ a b first second. first ∙ sym second) (is_up world.scene device) x y
  happens_once (Restart device) determined x y =
      on_scene_once world one other (Restarts world.scene device) (restarts_once world.scene device (sure device).0 (sure device).1) (is_down world.scene device) x y
  happens_once (Lose device) determined x y =
      on_scene_once world one other (λ scene. scene ≡ lost device world.scene) (λ a b first second. first ∙ sym second) (is_among (ids_of world.scene.cluster) device) x y
  happens_once (GiveUp number ticket) determined x y = told_once world one other number ticket None (numbered world.operations number) (rules number) x y
  happens_once (SetClock stamp) determined x y = x.1 ∙ sym y.1
