-- The stages of a pass, each with a machine of its own: a question to one device, a sync or a revert.
use Rattle.std.specs.Prelude.{List, Option}
use Rattle.sw_ring.specs.Cluster.{ClusterModel}
use Rattle.sw_message.specs.Transcript.{Next, Step}
use Rattle.sw_message.specs.declared.reply.Reply.{Reply}
use Rattle.sw_recon.specs.Revert as reverts
use Rattle.sw_recon.specs.declared.revert_end.RevertEnd.{RevertEnd}
use Rattle.sw_sync.specs.Sync as syncs
use Rattle.sw_sync.specs.declared.sync_end.SyncEnd.{SyncEnd}
use Rattle.sw_daemon.specs.Question as questions

pub data Begun : Type 0 where
  Asks : (begun : questions.Begun) → Begun
  Syncs : (begun : syncs.Begun) → Begun
  Reverts : (begun : reverts.Begun) → Begun

pub data End : Type 0 where
  Answered : (answer : Option Reply) → End
  Synced : (end : SyncEnd) → End
  Reverted : (end : RevertEnd) → End

abbrev pub cluster_of : Begun → ClusterModel
cluster_of (Asks begun) = begun.cluster
cluster_of (Syncs begun) = begun.cluster
cluster_of (Reverts begun) = begun.cluster

abbrev pub IsBegun : Begun → Type 0
IsBegun (Asks begun) = questions.IsBegun begun
IsBegun (Syncs begun) = syncs.IsBegun begun
IsBegun (Reverts begun) = reverts.IsBegun begun

abbrev pub IsNext : Begun → List Step → Next → Type 0
IsNext (Asks begun) past next = questions.IsNext begun past next
IsNext (Syncs begun) past next = syncs.IsNext begun past next
IsNext (Reverts begun) past next = reverts.IsNext begun past next

abbrev pub IsEnd : Begun → List Step → End → Type 0
IsEnd (Asks begun) past (Answered answer) = questions.IsEnd begun past answer
IsEnd (Syncs begun) past (Synced end) = syncs.IsEnd begun past end
IsEnd (Reverts begun) past (Reverted end) = reverts.IsEnd begun past end
IsEnd begun past end = ⊥
