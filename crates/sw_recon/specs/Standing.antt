-- What contracts see of a revert, and the transcripts that it stands for.
use Rattle.std.specs.Prelude.{◌≡◌, ℕ, Bool, true, false, List, [], ◌∷◌, Option, Some, None}
use Rattle.sw_hashpath.specs.Place.{PlaceModel}
use Rattle.sw_ring.specs.Cluster.{ClusterModel}
use Rattle.sw_message.specs.Learnt.{AreKnown, Learnt}
use Rattle.sw_message.specs.Running.{IsOf}
use Rattle.sw_message.specs.Tickets.{AreTickets}
use Rattle.sw_message.specs.Transcript.{Closed, Hand, IsRun, Step, opens}
use Rattle.sw_message.specs.Warrant.{IsWarranted}
use Rattle.sw_message.specs.declared.reply.Reply.{Reply}
use Rattle.sw_message.specs.declared.sent.Sent.{Sent}
use Rattle.sw_recon.specs.Revert.{Begun, IsBegun, IsNext, IsStatus}
use Rattle.sw_recon.specs.declared.status.Status.{Status}
use Rattle.sw_recon.specs.declared.status.Status.TheVariants.{Ends, Treats}
use Rattle.sw_recon.specs.declared.treatment.Treatment.{Treatment}
use Rattle.sw_recon.specs.declared.treatment.Treatment.TheVariants.{Store}

pub record RevertModel : Type 0 where
  pub cluster : ClusterModel
  pub device : ℕ
  pub place : PlaceModel
  pub status : Status
  pub tickets : List Bool
  -- whether a message is open
  pub is_waiting : Bool
  -- the answer that was taken and not yet read, or that there is none
  pub unread : Option (Option Reply)

-- it is over, as far as it has read the answers
abbrev pub ends : Status → Bool
ends (Ends end) = true
ends other = false

abbrev pub has_ended : RevertModel → Bool
has_ended job = ends job.status

-- bytes that were handed out are not kept
abbrev pub handed_treatment : Treatment → Treatment
handed_treatment (Store bytes) = Store []
handed_treatment other = other

abbrev pub handed : Status → Status
handed (Treats course) = Treats (record course { treatment = handed_treatment course.treatment })
handed other = other

-- no message is open, or one is
abbrev pub AreOpen : Bool → List Sent → Type 0
AreOpen false opened = opened ≡ []
AreOpen true opened = (sent : Sent) × (opened ≡ sent ∷ [])

-- An answer that was taken is the last step of the transcript, behind those that were read. Then, or while a message is open, what the
-- status says of bytes is not kept.
abbrev pub ReadsBy : Bool → Option (Option Reply) → (seen : Status) → (past read : List Step) → Status → Type 0
ReadsBy false None seen past read reached = (read ≡ past) × (seen ≡ reached)
ReadsBy true None seen past read reached = (read ≡ past) × (seen ≡ handed reached)
ReadsBy false (Some answer) seen past read reached = ((sent : Sent) × (past ≡ Closed sent answer ∷ read)) × (seen ≡ handed reached)
ReadsBy true (Some answer) seen past read reached = ⊥

abbrev pub IsReading : RevertModel → List Step → (read : List Step) → Status → Type 0
IsReading job past read status = ReadsBy job.is_waiting job.unread job.status past read status

-- a revert stands for each transcript of its machine that leads to its state
pub record Stands (job : RevertModel) (begun : Begun) (past : List Step) : Type 0 where
  pub valid : IsBegun begun
  pub run : IsRun (IsNext begun) past
  pub cluster_is : job.cluster ≡ begun.cluster
  pub device_is : job.device ≡ begun.device
  pub place_is : job.place ≡ begun.place
  pub tickets_are : AreTickets job.tickets past
  pub opened : AreOpen job.is_waiting (opens past)
  pub read : List Step
  pub status : Status
  pub is : IsStatus begun read status
  pub reads : IsReading job past read status

-- a message is the next one after a transcript, goes to a device of the cluster, and is warranted
pub record MayHand (begun : Begun) (past : List Step) (sent : Sent) : Type 0 where
  pub next : IsNext begun past (Hand sent)
  pub of : IsOf begun.cluster sent.device sent.msg
  pub warranted : (learnt : Learnt) → AreKnown begun.cluster learnt past → IsWarranted begun.cluster learnt sent.msg
