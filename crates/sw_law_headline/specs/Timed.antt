-- When the messages of an operation were made: each in the order of its transcript.
use Rattle.std.specs.Prelude.{◌≡◌, ℕ, Contains}
use Rattle.sw_message.specs.declared.sent.Sent.{Sent}
use Rattle.sw_law_rounds.specs.Timed.{IsTimed}
use Rattle.sw_law_scene.specs.Scene.{Request, Scene}
use Rattle.sw_core.specs.World.{Operating}

-- The messages of an operation of a number were made in the order of its transcript, each request once.
pub record IsTimely (scene : Scene) (number : ℕ) (operation : Operating) : Type 0 where
  pub asked_at : ℕ → ℕ
  pub requests : (at : ℕ) (sent : Sent) → Contains scene.messages (Request at number sent) → at ≡ asked_at sent.ticket
  pub timed : IsTimed scene.messages number asked_at operation.past scene.now
