-- A device that stops within a handling leaves one world.
use Rattle.std.proofs.Common.{◌≡◌, ℕ, Bool, true, false, Option, Some, None, refl, sym, ap, ◌∙◌}
use Rattle.sw_message.specs.Step.{Folders}
use Rattle.sw_message.specs.declared.sent.Sent.{Sent}
use Rattle.sw_law_scene.specs.Disks.{Sure}
use Rattle.sw_law_scene.specs.Moves.{Crashes, ticked}
use Rattle.sw_law_scene.specs.Scene.{Answer, Message, Request, Scene, disk_of, is_up, set_device}
use Rattle.sw_law_scene.proofs.Disks.{disk_here}
use Rattle.sw_core.specs.Event.{OnRequest, OnScene, with_scene}
use Rattle.sw_core.specs.World.{World, numbered}
use Rattle.sw_law_determined.specs.Cut.{IsCutWithin}
use Rattle.sw_law_determined.specs.Sure.{AreSure}
use Rattle.sw_law_determined.proofs.Cuts.{one_cut}

-- the disk of the device is this one then
module _ (world : World) (sent : Sent) where
  abbrev crashed : Folders → World
  crashed image = with_scene (ticked (set_device sent.device (record { disk = Sure image; is_up = false }) world.scene)) world

  crashed_disk : (image : Folders) (after : World) → after ≡ crashed image → disk_of after.scene sent.device ≡ Sure image
  crashed_disk image after same =
      ap (λ (one : World). disk_of one.scene sent.device) same ∙ disk_here world.scene sent.device (record { disk = Sure image; is_up = false }) sent.device refl

module _ (world one other : World) (message calls pick : ℕ) (sure : AreSure world.scene) (x : IsCutWithin world message calls pick one) (y : IsCutWithin world message calls pick other) where
  module _ (at operation : ℕ) (sent : Sent) (is : numbered world.scene.messages message ≡ Some (Request at operation sent)) where
    crashed_by : (may : Bool) → is_up world.scene sent.device ≡ may → OnScene may (λ scene. Crashes world.scene sent scene) world one → OnScene may (λ scene. Crashes world.scene sent scene) world other → one ≡ other
    crashed_by false down first second = first ∙ sym second
    crashed_by true up (scene, crashes, same) (after, also, so) =
        let folders = (sure sent.device).0 in
        let first : one ≡ crashed world sent crashes.image = same ∙ ap (λ (it : Scene). with_scene it world) crashes.after_is in
        let second : other ≡ crashed world sent also.image = so ∙ ap (λ (it : Scene). with_scene it world) also.after_is in
        let cut = x.cut at operation sent folders crashes.image is up (sure sent.device).1 (crashed_disk world sent crashes.image one first) in
        let cut_too = y.cut at operation sent folders also.image is up (sure sent.device).1 (crashed_disk world sent also.image other second) in
        first ∙ ap (crashed world sent) (one_cut world.scene.cluster sent.device calls pick folders crashes.image also.image sent.msg cut cut_too) ∙ sym second

  crashed_at : (posted : Option Message) → numbered world.scene.messages message ≡ posted → OnRequest posted (λ operation sent. Crashes world.scene sent) world one → OnRequest posted (λ operation sent. Crashes world.scene sent) world other → one ≡ other
  crashed_at None is first second = first ∙ sym second
  crashed_at (Some (Answer at operation sent reply)) is first second = first ∙ sym second
  crashed_at (Some (Request at operation sent)) is first second = crashed_by at operation sent is (is_up world.scene sent.device) refl first second

  pub crashes_once : one ≡ other
  crashes_once = crashed_at (numbered world.scene.messages message) refl x.happens y.happens
