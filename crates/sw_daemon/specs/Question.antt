-- The machine of a question to one device about what it has: one message.
use Rattle.std.specs.Prelude.{◌≡◌, ℕ, false, List, [], ◌∷◌, Option}
use Rattle.sw_ring.specs.Cluster.{ClusterModel}
use Rattle.sw_message.specs.Message.{IsMember}
use Rattle.sw_message.specs.Transcript.{Closed, Gave, Hand, Next, Over, Step, Wait, is_waiting}
use Rattle.sw_message.specs.declared.message.Msg.{Msg}
use Rattle.sw_message.specs.declared.message.Msg.TheVariants as message
use Rattle.sw_message.specs.declared.reply.Reply.{Reply}
use Rattle.sw_message.specs.declared.sent.Sent.{Sent}
use Rattle.sw_daemon.specs.declared.survey.Survey.{Survey}
use Rattle.sw_daemon.specs.declared.survey.Survey.TheVariants as survey

pub record Begun : Type 0 where
  pub cluster : ClusterModel
  pub device : ℕ
  pub survey : Survey

abbrev pub IsBegun : Begun → Type 0
IsBegun begun = IsMember begun.cluster begun.device

abbrev pub message_of : Survey → Msg
message_of survey.Parts = message.Parts
message_of (survey.Places part) = message.Places part
message_of (survey.Suffixes part) = message.Suffixes part

abbrev pub sent_of : Begun → Sent
sent_of begun = record { ticket = 0; device = begun.device; msg = message_of begun.survey }

-- the message is handed out, and its answer is waited for
abbrev pub IsNext : Begun → List Step → Next → Type 0
IsNext begun [] next = next ≡ Hand (sent_of begun)
IsNext begun (Gave sent ∷ past) next = next ≡ Wait
IsNext begun (Closed sent answer ∷ past) next = next ≡ Over

-- what the last step of a transcript tells
abbrev pub Tells : List Step → Option Reply → Type 0
Tells (Closed sent given ∷ past) answer = answer ≡ given
Tells other answer = ⊥

abbrev pub IsEnd : Begun → List Step → Option Reply → Type 0
IsEnd begun past answer = (is_waiting past ≡ false) × Tells past answer
