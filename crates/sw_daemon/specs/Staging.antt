-- The transcripts that a stage stands for.
use Rattle.std.specs.Prelude.{ℕ, ◌-◌, ◌^◌, Bool, List, length}
use Rattle.sw_message.specs.Transcript.{Step}
use Rattle.sw_recon.specs.Standing as reverts
use Rattle.sw_sync.specs.Standing as syncs
use Rattle.sw_daemon.specs.Asking as questions
use Rattle.sw_daemon.specs.Stage.{Asks, Begun, Reverts, Syncs}
use Rattle.sw_daemon.specs.declared.stage.Stage.{Stage}
use Rattle.sw_daemon.specs.declared.stage.Stage.TheVariants as stage

abbrev pub Stands : Stage → Begun → List Step → Type 0
Stands (stage.Asks question) (Asks begun) past = questions.Stands question begun past
Stands (stage.Syncs job) (Syncs begun) past = syncs.Stands job begun past
Stands (stage.Reverts job) (Reverts begun) past = reverts.Stands job begun past
Stands stage begun past = ⊥

abbrev pub has_ended : Stage → Bool
has_ended (stage.Asks question) = questions.has_ended question.progress
has_ended (stage.Syncs job) = syncs.has_ended job
has_ended (stage.Reverts job) = reverts.has_ended job

-- it hands out at most so many messages more
abbrev pub left : Stage → ℕ
left (stage.Asks question) = questions.left question.progress
left (stage.Syncs job) = 2 ^ 64 - length job.mailbox.tickets
left (stage.Reverts job) = 2 ^ 64 - length job.tickets
