-- An operation that was told an answer is timely, and may go on.
use Rattle.std.proofs.Common.{ℕ, ◌<◌, Contains, length, Option, Some, None, arith}
use Rattle.sw_diskfile.proofs.Lists.{Contains-first}
use Rattle.sw_message.specs.Transcript.{Closed, after_answer, closed_by, given, open_at}
use Rattle.sw_message.specs.declared.reply.Reply.{Reply}
use Rattle.sw_message.specs.declared.sent.Sent.{Sent}
use Rattle.sw_law_scene.specs.Scene.{Answer, Request, Scene}
use Rattle.sw_law_scene.specs.Sound.{IsSoundScene}
use Rattle.sw_operation.specs.Operating.{IsNext}
use Rattle.sw_core.specs.Sound.{Stands}
use Rattle.sw_core.specs.World.{Operating}
use Rattle.sw_core.proofs.Machines.{numbers}
use Rattle.sw_core.proofs.Transcripts.{given-below}
use Rattle.sw_law_rounds.specs.Timed.{IsTimed}
use Rattle.sw_law_headline.specs.Timed.{IsTimely}
use Rattle.sw_law_headline.proofs.Going.{IsReady}

module _ (scene : Scene) (sound : IsSoundScene scene) (number : ℕ) where
  -- a request has the ticket of a message that was handed out
  ticket_below : (operation : Operating) → Stands scene number operation → (at : ℕ) (sent : Sent) → Contains scene.messages (Request at number sent) → sent.ticket < length (given operation.past)
  ticket_below operation stands at sent has = given-below (IsNext operation.begun) (numbers operation.begun) operation.past stands.run sent (stands.requests at sent has).1

  module _ (operation : Operating) (timely : IsTimely scene number operation) where
    -- a reply was made later than its request
    told-timed : (answer : Option Reply) (opened : Option Sent) → Stands scene number (record operation { past = closed_by operation.past answer opened })
        → IsTimed scene.messages number timely.asked_at (closed_by operation.past answer opened) scene.now
    told-timed answer None stands = timely.timed
    told-timed None (Some sent) stands = timely.timed
    told-timed (Some reply) (Some sent) stands =
        let made = stands.told sent reply (Contains-first (Closed sent (Some reply)) operation.past) in
        let asked = sound.asked made.0 number sent reply made.2 in (
          (made.0, omega (arith, asked.1, timely.requests asked.0 sent asked.2), omega (arith, sound.before (Answer made.0 number sent reply) made.2), made.2),
          timely.timed,
        )

    -- once it was told an answer for a ticket, or gave that message up
    pub told-ready : (ticket : ℕ) (answer : Option Reply) → Stands scene number (record operation { past = after_answer operation.past ticket answer }) → IsReady scene number (record operation { past = after_answer operation.past ticket answer })
    told-ready ticket answer stands =
        let after = record operation { past = after_answer operation.past ticket answer } in
        record {
          requested = ticket_below after stands;
          answered = λ at sent reply has. let asked = sound.asked at number sent reply has in ticket_below after stands asked.0 sent asked.2;
          timely = record { asked_at = timely.asked_at; requests = timely.requests; timed = told-timed answer (open_at ticket operation.past) stands };
        }
