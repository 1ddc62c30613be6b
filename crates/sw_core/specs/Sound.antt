-- What holds of every world of a run.
use Rattle.std.specs.Prelude.{◌≡◌, ◌≤◌, ℕ, length, Contains, Some}
use Rattle.sw_ring.specs.Cluster.{ClusterModel}
use Rattle.sw_message.specs.Learnt.{HasOwn}
use Rattle.sw_message.specs.Transcript.{Closed, IsRun, given}
use Rattle.sw_message.specs.declared.reply.Reply.{Reply}
use Rattle.sw_message.specs.declared.sent.Sent.{Sent}
use Rattle.sw_law_scene.specs.Scene.{Answer, Request, Scene, known_to}
use Rattle.sw_law_scene.specs.Sound.{IsSoundScene}
use Rattle.sw_operation.specs.Operating.{IsBegun, IsNext, cluster_of, own_of}
use Rattle.sw_core.specs.World.{Operating, World, numbered}

-- An operation of a number was begun in a scene's cluster by now, and what it started itself is known. Its transcript is a run of its
-- machine; each reply in it was made for this number since the start; and so was each request of this number, which it handed out.
pub record Stands (scene : Scene) (number : ℕ) (operation : Operating) : Type 0 where
  pub valid : IsBegun operation.begun
  pub cluster : cluster_of operation.begun ≡ scene.cluster
  pub started : operation.start ≤ scene.now
  pub own : HasOwn (own_of operation.begun) (known_to scene)
  pub run : IsRun (IsNext operation.begun) operation.past
  pub told : (sent : Sent) (reply : Reply) → Contains operation.past (Closed sent (Some reply)) → (at : ℕ) × (operation.start ≤ at) × Contains scene.messages (Answer at number sent reply)
  pub requests : (at : ℕ) (sent : Sent) → Contains scene.messages (Request at number sent) → (operation.start ≤ at) × Contains (given operation.past) sent

-- The scene of a world is that of the cluster, and sound; each operation stands; and each request is one of them.
pub record IsSoundWorld (cluster : ClusterModel) (world : World) : Type 0 where
  pub same_cluster : world.scene.cluster ≡ cluster
  pub scene : IsSoundScene world.scene
  pub operations : (number : ℕ) (operation : Operating) → numbered world.operations number ≡ Some operation → Stands world.scene number operation
  pub numbers : (at number : ℕ) (sent : Sent) → Contains world.scene.messages (Request at number sent) → number ≤ length world.operations
