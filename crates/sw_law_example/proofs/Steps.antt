-- Events that happen: a request is handled, and an answer is taken.
use Rattle.std.proofs.Common.{◌≡◌, ℕ, true, false, List, Some, Option, refl, sym, subst}
use Rattle.std.specs.Prelude.{Bool, MatchBool}
use Rattle.sw_message.specs.Step.{Folders}
use Rattle.sw_message.specs.Transcript.{Step, after_answer}
use Rattle.sw_message.specs.declared.reply.Reply.{Reply}
use Rattle.sw_message.specs.declared.sent.Sent.{Sent}
use Rattle.sw_law_scene.specs.Devices.{IsDeviceStep}
use Rattle.sw_law_scene.specs.Disks.{Disk, IsFoundOn, Sure}
use Rattle.sw_law_scene.specs.Moves.{Handles, replies, sends}
use Rattle.sw_law_scene.specs.Scene.{Answer, Message, Request, disk_of, is_up, set_disk}
use Rattle.sw_core.specs.Event.{Comes, Deliver, Happens, TakesAnswer, OnScene, Proceeds, idle, with_scene}
use Rattle.sw_core.specs.World.{GoesOn, Operating, World, numbered, with_numbered}

-- a device has replied to a request, and has these folders
abbrev pub replied : (number : ℕ) → Sent → Reply → Folders → World → World
replied number sent reply folders world = with_scene (replies number sent reply (set_disk sent.device (Sure folders) world.scene)) world

-- an operation has taken an answer, made these requests, and stands so
abbrev pub taken : (number : ℕ) → List Sent → Operating → World → World
taken number sents operation world = record world { scene = sends number sents world.scene; operations = with_numbered number operation world.operations }

module _ (world : World) (message at number : ℕ) (sent : Sent) (reply : Reply) where
  -- a request that was made is handled, where its device is up and sure of its disk
  pub is_handled : (found folders : Folders) → numbered world.scene.messages message ≡ Some (Request at number sent) → is_up world.scene sent.device ≡ true → disk_of world.scene sent.device ≡ Sure found
      → IsDeviceStep world.scene.cluster sent.device sent.msg reply found folders → Happens (Deliver message) world (replied number sent reply folders world)
  is_handled found folders there up sure step =
      let after = replied number sent reply folders world in
      let handles : Handles world.scene number sent after.scene = record {
        found = found;
        finds = subst (λ (disk : Disk). IsFoundOn world.scene.cluster sent.device disk found) (sym sure) refl;
        reply = reply;
        folders = folders;
        step = step;
        after_is = refl;
      } in
      subst (λ (posted : Option Message). Comes posted world after) (sym there) (subst (λ (is : Bool). OnScene is (Handles world.scene number sent) world after) (sym up) (after.scene, handles, refl))

  -- an answer that was made is taken, where its operation is not over
  pub is_taken : (operation later : Operating) (past : List Step) (sents : List Sent) → numbered world.scene.messages message ≡ Some (Answer at number sent reply) → numbered world.operations number ≡ Some operation
      → operation.is_over ≡ false → after_answer operation.past sent.ticket (Some reply) ≡ past → GoesOn operation past sents later → Happens (Deliver message) world (taken number sents later world)
  is_taken operation later past sents there known running is goes =
      let after = taken number sents later world in
      let proceeds : Proceeds world number operation (after_answer operation.past sent.ticket (Some reply)) after =
      subst (λ (steps : List Step). Proceeds world number operation steps after) (sym is) (record { sents = sents; later = later; goes_on = goes; after_is = refl }) in
      subst (λ (posted : Option Message). Comes posted world after) (sym there)
      (subst (λ (found : Option Operating). TakesAnswer found number sent.ticket (Some reply) world after) (sym known)
      (subst (λ (over : Bool). MatchBool over (after ≡ idle world) (Proceeds world number operation (after_answer operation.past sent.ticket (Some reply)) after)) (sym running) proceeds))
