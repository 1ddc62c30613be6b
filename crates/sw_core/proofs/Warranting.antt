-- What a machine hands out may be sent.
use Rattle.std.proofs.Common.{List}
use Rattle.sw_ring.specs.Cluster.{ClusterModel}
use Rattle.sw_message.specs.Learnt.{AreKnown, Learnt}
use Rattle.sw_message.specs.Transcript.{Hand, IsRun, Next, Step}
use Rattle.sw_message.specs.declared.sent.Sent.{Sent}
use Rattle.sw_law_scene.specs.Sound.{MayBeSent}

-- each message that the machine hands out is about a right place and is warranted, where its replies so far are known
abbrev pub HandsWarranted : ClusterModel → (List Step → Next → Type 0) → Learnt → Type 0
HandsWarranted cluster machine learnt =
    (past : List Step) (sent : Sent) → IsRun machine past → AreKnown cluster learnt past → machine past (Hand sent) → MayBeSent cluster learnt sent.msg
