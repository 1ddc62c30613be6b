-- A question stands for what a question was begun with.
use Rattle.std.proofs.Common.{◌≡◌, List, refl}
use Rattle.sw_message.specs.Transcript.{Step}
use Rattle.sw_daemon.specs.Asking as questions
use Rattle.sw_daemon.specs.Question as asks
use Rattle.sw_daemon.specs.Stage.{Asks, Begun, Reverts, Syncs}
use Rattle.sw_daemon.specs.Staging.{Stands}
use Rattle.sw_daemon.specs.declared.question.Question.{Question}
use Rattle.sw_daemon.specs.declared.stage.Stage.TheVariants as stage

pub asked : (question : Question) (begun : Begun) (past : List Step) → Stands (stage.Asks question) begun past → (of : asks.Begun) × (begun ≡ Asks of) × questions.Stands question of past
asked question (Asks of) past stands = (of, refl, stands)
asked question (Syncs of) past stands = absurd stands
asked question (Reverts of) past stands = absurd stands
