-- What contracts see of a sync, and the transcripts that it stands for.
use Rattle.std.specs.Prelude.{◌≡◌, ℕ, Bool, true, false, List, [], ◌∷◌, slice_get, Option, Some}
use Rattle.std.specs.List.{All}
use Rattle.sw_hashpath.specs.Place.{PlaceModel}
use Rattle.sw_ring.specs.Cluster.{ClusterModel}
use Rattle.sw_message.specs.Learnt.{AreKnown, Learnt}
use Rattle.sw_message.specs.Running.{IsOf}
use Rattle.sw_message.specs.Transcript.{Closed, Hand, IsRun, Step, is_waiting, opens}
use Rattle.sw_message.specs.Warrant.{IsWarranted}
use Rattle.sw_message.specs.declared.reply.Reply.{Reply}
use Rattle.sw_message.specs.declared.sent.Sent.{Sent}
use Rattle.sw_gather.specs.Mailbox.{GoesWith, MailboxModel, Unread}
use Rattle.sw_sync.specs.State.{State}
use Rattle.sw_sync.specs.Sync.{Begun, IsBegun, IsNext, IsState, errand_of, settled}
use Rattle.sw_sync.specs.declared.errand.Errand.{Errand}
use Rattle.sw_sync.specs.declared.stage.Stage.{Stage}
use Rattle.sw_sync.specs.declared.stage.Stage.TheVariants.{Ends}

pub record SyncModel : Type 0 where
  pub cluster : ClusterModel
  pub device : ℕ
  pub place : PlaceModel
  pub state : State
  pub mailbox : MailboxModel Errand

-- it is over, as far as it has read the answers
abbrev pub ends : Stage → Bool
ends (Ends end) = true
ends other = false

abbrev pub has_ended : SyncModel → Bool
has_ended job = ends job.state.stage

-- a message is about an errand
abbrev pub IsAbout : Errand → Sent → Type 0
IsAbout errand sent = errand_of sent.device sent.msg ≡ Some errand

-- an open message is about the errand of its ticket
pub record IsOpen (errands : List Errand) (sent : Sent) : Type 0 where
  pub errand : Errand
  pub at : slice_get errands sent.ticket ≡ Some errand
  pub about : IsAbout errand sent

-- the answers that were not yet read, the first of them told first, lead from one transcript to another
abbrev pub Lead : List (Unread Errand) → (read past : List Step) → Type 0
Lead [] read past = past ≡ read
Lead (unread ∷ later) read past = (sent : Sent) × IsAbout unread.0 sent × Lead later (Closed sent unread.1 ∷ read) past

-- the first answer that is to be read is that to an errand
abbrev pub BeginsWith : List (Unread Errand) → Errand → Type 0
BeginsWith unread errand = (answer : Option Reply) × (later : List (Unread Errand)) × (unread ≡ (errand, answer) ∷ later)

-- a sync stands for each transcript of its machine that leads to its state; what follows from what was heard may still be to be worked out
pub record Stands (job : SyncModel) (begun : Begun) (past : List Step) : Type 0 where
  pub valid : IsBegun begun
  pub run : IsRun (IsNext begun) past
  pub cluster_is : job.cluster ≡ begun.cluster
  pub device_is : job.device ≡ begun.device
  pub place_is : job.place ≡ begun.place
  pub goes_with : GoesWith job.mailbox past
  pub opened : All (IsOpen job.mailbox.errands) (opens past)
  -- the part of the transcript whose answers were read
  pub read : List Step
  pub state : State
  pub is : IsState begun read state
  pub leads : Lead job.mailbox.unread read past
  pub seen : settled begun (is_waiting read) job.state ≡ state

-- what was heard was worked out
abbrev pub IsReady : SyncModel → Begun → List Step → Type 0
IsReady job begun past = IsState begun past job.state

-- a message is the next one after a transcript, goes to a device of the cluster, and is warranted
pub record MayHand (begun : Begun) (past : List Step) (sent : Sent) : Type 0 where
  pub next : IsNext begun past (Hand sent)
  pub of : IsOf begun.cluster sent.device sent.msg
  pub warranted : (learnt : Learnt) → AreKnown begun.cluster learnt past → IsWarranted begun.cluster learnt sent.msg
