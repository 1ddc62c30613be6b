-- What holds on the way of an operation holds once its job is started.
use Rattle.std.proofs.Common.{◌≡◌, ℕ, ◌+◌, ◌≤◌, Bool, Contains, List, [], ◌∷◌, ◌++◌, length, None, Some, refl, sym, ap, subst, ◌∙◌}
use Rattle.sw_ring.specs.Cluster.{ClusterModel, place_of_name}
use Rattle.sw_message.specs.Message.{is_primary}
use Rattle.sw_law_scene.specs.Moves.{books, marks}
use Rattle.sw_law_scene.specs.Scene.{Answer, Message, Request, Scene, is_up}
use Rattle.sw_core.specs.Event.{Begins, Delete, Event, Get, Happens, Head, Job, Put, Recon, Start, Starts, begins, stamp_in}
use Rattle.sw_operation.specs.Operating.{Begun, Delete as DeleteBegun, Get as GetBegun, Head as HeadBegun, Put as PutBegun, recon_of}
use Rattle.sw_core.specs.Sound.{IsSoundWorld}
use Rattle.sw_core.specs.World.{World}
use Rattle.sw_core.proofs.Happening.{leads-sound}
use Rattle.sw_core.proofs.Numbered.{numbered-contains}
use Rattle.sw_core.proofs.Next.{no-answer, no-request}
use Rattle.sw_sim_world.specs.ScriptedWorld.{IsStep, ScriptedWorld, Step, delivered_by}
use Rattle.sw_sim_world.proofs.Messages.{told-adds}
use Rattle.sw_play.proofs.Answering.{IsAnswering, begins_so}
use Rattle.sw_play.proofs.Handled.{AreHandled, still}
use Rattle.sw_play.proofs.Waits.{IsOnWay}

-- what a job is begun with
abbrev pub begun_by : World → Job → Begun
begun_by world (Put name object) = PutBegun (record { cluster = world.scene.cluster; stamp = stamp_in world; name = name; object = object })
begun_by world (Delete name) = DeleteBegun (record { cluster = world.scene.cluster; stamp = stamp_in world; name = name })
begun_by world (Get name) = GetBegun (record { cluster = world.scene.cluster; name = name })
begun_by world (Head name) = HeadBegun (record { cluster = world.scene.cluster; name = name })
begun_by world (Recon device name) = recon_of (is_primary world.scene.cluster device (place_of_name world.scene.cluster name)) world.scene.cluster device name

-- the number of the next operation
abbrev pub next_number : World → ℕ
next_number world = length world.operations + 1

module _ (cluster : ClusterModel) (old : World) (sound : IsSoundWorld cluster old) (delivered : List ℕ) (within : (message : ℕ) → Contains delivered message → message ≤ length old.scene.messages) where
  abbrev number : ℕ
  number = next_number old

  abbrev up : ℕ → Bool
  up = is_up old.scene

  -- it begins in a scene with the same devices and messages
  begins_handled : (begun : Begun) (scene : Scene) → scene.messages ≡ old.scene.messages → (after : World) → Begins begun scene old after → AreHandled number up after delivered
  begins_handled begun scene same_messages after goes =
      let world : World = record old { scene = scene; operations = old.operations ++ begins begun old ∷ [] } in
      still number up world after delivered (record {
        within = λ message has. subst (λ (messages : List Message). message ≤ length messages) (sym same_messages) (within message has);
        replied = λ message at sent is has is_up_now. absurd (no-request cluster old sound at sent (was (Request at number sent) (numbered-contains scene.messages message (Request at number sent) is)));
        closed = λ message at sent reply is has. absurd (no-answer cluster old sound at sent reply (was (Answer at number sent reply) (numbered-contains scene.messages message (Answer at number sent reply) is)));
      }) (told-adds number world after 0 None (Some (begins begun old)) goes) (λ at sent reply has closed. absurd (no-answer cluster old sound at sent reply (was (Answer at number sent reply) has)))
    where
      was : (posted : Message) → Contains scene.messages posted → Contains old.scene.messages posted
      was posted has = subst (λ (messages : List Message). Contains messages posted) same_messages has

  abbrev Begun_so : Begun → World → Type 0
  Begun_so begun after = IsAnswering number begun up after × AreHandled number up after delivered

  begins_it : (begun : Begun) (scene : Scene) → ((device : ℕ) → is_up scene device ≡ is_up old.scene device) → scene.messages ≡ old.scene.messages → (after : World) → Begins begun scene old after → Begun_so begun after
  begins_it begun scene same_up same_messages after goes = (begins_so number begun up old refl (λ device. refl) (no-answer cluster old sound) scene same_up same_messages after goes, begins_handled begun scene same_messages after goes)

  starts : (job : Job) (after : World) → Starts job old after → Begun_so (begun_by old job) after
  starts (Put name object) after (left, put, goes) = begins_it (begun_by old (Put name object)) (books (stamp_in old) name object old.scene) (λ device. refl) refl after goes
  starts (Delete name) after (left, goes) = begins_it (begun_by old (Delete name)) (marks (stamp_in old) name old.scene) (λ device. refl) refl after goes
  starts (Get name) after goes = begins_it (begun_by old (Get name)) old.scene (λ device. refl) refl after goes
  starts (Head name) after goes = begins_it (begun_by old (Head name)) old.scene (λ device. refl) refl after goes
  starts (Recon device name) after (member, goes) = begins_it (begun_by old (Recon device name)) old.scene (λ one. refl) refl after goes

-- so it is on its way once it was started
pub starts_on_way : (cluster : ClusterModel) (before : ScriptedWorld) → IsSoundWorld cluster before.world → ((message : ℕ) → Contains before.delivered message → message ≤ length before.world.scene.messages) → (job : Job) (step : Step) → IsStep before step
    → step.event ≡ Start job → IsOnWay cluster (next_number before.world) (begun_by before.world job) (is_up before.world.scene) step.after
starts_on_way cluster before sound within job step is_step event_is =
    let happens = subst (λ (event : Event). Happens event before.world step.after.world) event_is is_step.happens in
    let same_delivered : step.after.delivered ≡ before.delivered = is_step.delivered ∙ ap (λ (event : Event). delivered_by event before.delivered) event_is in
    let so = starts cluster before.world sound before.delivered within job step.after.world happens in
    record {
      sound = leads-sound cluster before.world (step.event ∷ []) step.after.world sound (step.after.world, is_step.happens, refl);
      answering = so.0;
      handled = subst (AreHandled (next_number before.world) (is_up before.world.scene) step.after.world) (sym same_delivered) so.1;
    }
