-- The operation that begins next has no message yet.
use Rattle.std.proofs.Common.{ℕ, ◌+◌, Contains, length, arith}
use Rattle.sw_ring.specs.Cluster.{ClusterModel}
use Rattle.sw_message.specs.declared.reply.Reply.{Reply}
use Rattle.sw_message.specs.declared.sent.Sent.{Sent}
use Rattle.sw_law_scene.specs.Scene.{Answer, Request}
use Rattle.sw_core.specs.Sound.{IsSoundWorld}
use Rattle.sw_core.specs.World.{World}

module _ (cluster : ClusterModel) (world : World) (sound : IsSoundWorld cluster world) (at : ℕ) (sent : Sent) where
  abbrev next : ℕ
  next = length world.operations + 1

  -- no request was made
  pub no-request : Contains world.scene.messages (Request at next sent) → ⊥
  no-request has = absurd (omega (arith, sound.numbers at next sent has))

-- and no reply to one
pub no-answer : (cluster : ClusterModel) (world : World) → IsSoundWorld cluster world → (at : ℕ) (sent : Sent) (reply : Reply) → Contains world.scene.messages (Answer at (length world.operations + 1) sent reply) → ⊥
no-answer cluster world sound at sent reply has = let asked = sound.scene.asked at (length world.operations + 1) sent reply has in no-request cluster world sound asked.0 sent asked.2
