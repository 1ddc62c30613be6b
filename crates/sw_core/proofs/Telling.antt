-- A world stays sound as an operation is told an answer, or gives a message up.
use Rattle.std.proofs.Common.{◌≡◌, ⊎_elim, ℕ, ◌≤◌, Bool, true, false, Contains, List, Option, Some, None, sym, subst, arith}
use Rattle.std.specs.Prelude.{MatchBool}
use Rattle.sw_ring.specs.Cluster.{ClusterModel}
use Rattle.sw_message.specs.Transcript.{Closed, after_answer}
use Rattle.sw_message.specs.declared.reply.Reply.{Reply}
use Rattle.sw_message.specs.declared.sent.Sent.{Sent}
use Rattle.sw_law_scene.specs.Scene.{Answer, Scene}
use Rattle.sw_law_scene.specs.Sound.{IsSoundScene}
use Rattle.sw_law_scene.proofs.Growth.{ticked-follows}
use Rattle.sw_law_scene.proofs.Sounds.{ticked-sound}
use Rattle.sw_core.specs.Event.{TakesAnswer, Proceeds, idle}
use Rattle.sw_operation.specs.Operating.{IsNext}
use Rattle.sw_core.specs.Sound.{IsSoundWorld, Stands}
use Rattle.sw_core.specs.World.{Operating, World, numbered}
use Rattle.sw_core.proofs.Machines.{numbers}
use Rattle.sw_core.proofs.Proceeding.{proceeds-sound, scene-sound}
use Rattle.sw_core.proofs.Transcripts.{given_up-told, told-cases, told-given, told-run}

-- the reply was made for a number, since a step
abbrev WasMade : Scene → (number since : ℕ) → Sent → Reply → Type 0
WasMade scene number since sent reply = (at : ℕ) × (since ≤ at) × Contains scene.messages (Answer at number sent reply)

module _ (scene : Scene) (number : ℕ) (operation : Operating) (stands : Stands scene number operation) where
  -- an operation stands, too, once it was told an answer that was made for it
  told-stands : (ticket : ℕ) (answer : Option Reply)
      → ((sent : Sent) (reply : Reply) → Contains (after_answer operation.past ticket answer) (Closed sent (Some reply)) → WasMade scene number operation.start sent reply)
      → Stands scene number (record operation { past = after_answer operation.past ticket answer })
  told-stands ticket answer made = record {
    valid = stands.valid;
    cluster = stands.cluster;
    started = stands.started;
    own = stands.own;
    run = told-run operation.past ticket answer (IsNext operation.begun) stands.run;
    told = made;
    requests = λ at sent has. let was = stands.requests at sent has in (was.0, subst (λ (sents : List Sent). Contains sents sent) (sym (told-given operation.past ticket answer)) was.1);
  }

  pub answered-stands : IsSoundScene scene → (at : ℕ) (sent : Sent) (reply : Reply) → Contains scene.messages (Answer at number sent reply)
      → Stands scene number (record operation { past = after_answer operation.past sent.ticket (Some reply) })
  answered-stands sound at sent reply has =
      let asked = sound.asked at number sent reply has in
      let gave = stands.requests asked.0 sent asked.2 in
      told-stands sent.ticket (Some reply) (λ other given there. ⊎_elim
      (λ old. stands.told other given old)
      (λ new.
      let replies : reply ≡ given = cc in
      subst (λ (one : Sent). WasMade scene number operation.start one given) new.0
      (subst (WasMade scene number operation.start sent) replies (at, omega (arith, gave.0, asked.1), has)))
      (told-cases (IsNext operation.begun) (numbers operation.begun) operation.past stands.run sent (Some reply) gave.1 other (Some given) there))

  pub given_up-stands : (ticket : ℕ) → Stands scene number (record operation { past = after_answer operation.past ticket None })
  given_up-stands ticket = told-stands ticket None (λ sent reply there. stands.told sent reply (given_up-told operation.past ticket sent reply there))

module _ (cluster : ClusterModel) (world : World) (sound : IsSoundWorld cluster world) where
  pub idle-sound : IsSoundWorld cluster (idle world)
  idle-sound = scene-sound cluster world sound _ (ticked-follows world.scene) (ticked-sound world.scene sound.scene)

  module _ (number ticket : ℕ) (answer : Option Reply) (stand : (operation : Operating) → numbered world.operations number ≡ Some operation → Stands world.scene number (record operation { past = after_answer operation.past ticket answer })) (after : World) where
    told-by : (operation : Operating) → numbered world.operations number ≡ Some operation → (is_over : Bool)
        → MatchBool is_over (after ≡ idle world) (Proceeds world number operation (after_answer operation.past ticket answer) after) → IsSoundWorld cluster after
    told-by operation is true same = subst (IsSoundWorld cluster) (sym same) idle-sound
    told-by operation is false goes = proceeds-sound cluster world sound number operation is (after_answer operation.past ticket answer) (stand operation is) after goes

    pub told-sound : (found : Option Operating) → numbered world.operations number ≡ found → TakesAnswer found number ticket answer world after → IsSoundWorld cluster after
    told-sound None is same = subst (IsSoundWorld cluster) (sym same) idle-sound
    told-sound (Some operation) is goes = told-by operation is operation.is_over goes
