-- What holds of every scene of a run.
use Rattle.std.specs.Prelude.{◌≤◌, ◌<◌, ℕ, Contains, Option, Some, None}
use Rattle.sw_ring.specs.Cluster.{ClusterModel, KeepsRules}
use Rattle.sw_message.specs.Learnt.{Booked, IsGenuine, IsSoundBook, Learnt, Marked}
use Rattle.sw_message.specs.Message.{IsPlaceOf, place_in}
use Rattle.sw_message.specs.Warrant.{IsWarranted}
use Rattle.sw_message.specs.declared.message.Msg.{Msg}
use Rattle.sw_message.specs.declared.reply.Reply.{Reply}
use Rattle.sw_message.specs.declared.sent.Sent.{Sent}
use Rattle.sw_law_scene.specs.Filed.{IsDiskFiled}
use Rattle.sw_law_scene.specs.Scene.{Answer, Message, Request, Scene, disk_of, known_to}

-- the last stamp that was drawn is at least this one
abbrev pub IsDrawn : (last : Option ℕ) → (stamp : ℕ) → Type 0
IsDrawn None stamp = ⊥
IsDrawn (Some last) stamp = stamp ≤ last

-- the step at which a message was made
abbrev pub made_at : Message → ℕ
made_at (Request at operation sent) = at
made_at (Answer at operation sent reply) = at

-- a message is about a place of the cluster, and is warranted by what is known
abbrev pub MayBeSent : ClusterModel → Learnt → Msg → Type 0
MayBeSent cluster learnt msg = IsPlaceOf cluster (place_in msg) × IsWarranted cluster learnt msg

-- a request may be sent, and a reply is genuine
abbrev pub MayBeMade : ClusterModel → Learnt → Message → Type 0
MayBeMade cluster learnt (Request at operation sent) = MayBeSent cluster learnt sent.msg
MayBeMade cluster learnt (Answer at operation sent reply) = IsGenuine cluster learnt reply

-- The cluster keeps the rules; no two puts have one stamp; no stamp is above the last that was drawn; whatever a disk may hold, its
-- archives are those of puts; and each message may be made, was made before now, and answers an earlier request if it is a reply.
pub record IsSoundScene (scene : Scene) : Type 0 where
  pub rules : KeepsRules scene.cluster
  pub book : IsSoundBook scene.cluster.policy (known_to scene).book
  pub booked : (booked : Booked) → Contains (known_to scene).book booked → IsDrawn scene.last booked.stamp
  pub marked : (marked : Marked) → Contains (known_to scene).marks marked → IsDrawn scene.last marked.stamp
  pub filed : (device : ℕ) → IsDiskFiled scene.cluster (known_to scene).book (disk_of scene device)
  pub messages : (posted : Message) → Contains scene.messages posted → MayBeMade scene.cluster (known_to scene) posted
  pub before : (posted : Message) → Contains scene.messages posted → made_at posted < scene.now
  pub asked : (at operation : ℕ) (sent : Sent) (reply : Reply) → Contains scene.messages (Answer at operation sent reply) → (asked : ℕ) × (asked < at) × Contains scene.messages (Request asked operation sent)
