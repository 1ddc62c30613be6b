-- What contracts see of a question, and the transcripts that it stands for.
use Rattle.std.specs.Prelude.{◌≡◌, ℕ, Bool, true, false, List, [], ◌∷◌, Option}
use Rattle.sw_message.specs.declared.reply.Reply.{Reply}
use Rattle.sw_message.specs.Transcript.{Closed, Gave, Step}
use Rattle.sw_daemon.specs.Question.{Begun, IsBegun, sent_of}
use Rattle.sw_daemon.specs.declared.progress.Progress.{Progress}
use Rattle.sw_daemon.specs.declared.progress.Progress.TheVariants.{Ended, Starts, Told as HasTold, Waits}
use Rattle.sw_daemon.specs.declared.question.Question.{Question}

abbrev pub has_ended : Progress → Bool
has_ended (Ended answer) = true
has_ended other = false

-- how many messages are to be handed out
abbrev pub left : Progress → ℕ
left Starts = 1
left other = 0

abbrev pub was_told : Begun → Option Reply → List Step
was_told begun answer = Closed (sent_of begun) answer ∷ Gave (sent_of begun) ∷ []

abbrev pub IsProgress : Begun → List Step → Progress → Type 0
IsProgress begun past Starts = past ≡ []
IsProgress begun past Waits = past ≡ Gave (sent_of begun) ∷ []
IsProgress begun past (HasTold answer) = past ≡ was_told begun answer
IsProgress begun past (Ended answer) = past ≡ was_told begun answer

-- a question stands for the transcript of its machine that it has come to
pub record Stands (question : Question) (begun : Begun) (past : List Step) : Type 0 where
  pub valid : IsBegun begun
  pub device_is : question.device ≡ begun.device
  pub survey_is : question.survey ≡ begun.survey
  pub progress : IsProgress begun past question.progress
