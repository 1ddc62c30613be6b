-- A transcript stays timed as more messages are made and time passes, and where only other tickets get another step.
use Rattle.std.proofs.Common.{◌≡◌, ℕ, ◌≤◌, Contains, List, [], ◌∷◌, Some, None, sym, subst, arith}
use Rattle.sw_message.specs.Transcript.{Closed, Gave, Step}
use Rattle.sw_message.specs.declared.reply.Reply.{Reply}
use Rattle.sw_message.specs.declared.sent.Sent.{Sent}
use Rattle.sw_law_scene.specs.Scene.{Answer, Message, Request, Scene}
use Rattle.sw_law_scene.proofs.Growth.{Follows, Grows}
use Rattle.sw_core.specs.Event.{with_scene}
use Rattle.sw_core.specs.World.{Operating, World, numbered}
use Rattle.sw_law_rounds.specs.Timed.{IsTimed}
use Rattle.sw_law_headline.specs.Timed.{IsTimely}

module _ (number : ℕ) (asked_at : ℕ → ℕ) (before after : List Message) (kept : (posted : Message) → Contains before posted → Contains after posted) where
  -- more messages are made, and time passes
  pub timed-later : (past : List Step) (by later : ℕ) → by ≤ later → IsTimed before number asked_at past by → IsTimed after number asked_at past later
  timed-later [] by later in_time timed = tt
  timed-later (Gave sent ∷ past) by later in_time (made, request, timed) =
      (omega (arith, made, in_time), kept (Request (asked_at sent.ticket) number sent) request, timed-later past (asked_at sent.ticket) (asked_at sent.ticket) (omega arith) timed)
  timed-later (Closed sent (Some reply) ∷ past) by later in_time ((at, asked, made, answer), timed) =
      ((at, asked, omega (arith, made, in_time), kept (Answer at number sent reply) answer), timed-later past by later in_time timed)
  timed-later (Closed sent None ∷ past) by later in_time timed = timed-later past by later in_time timed

module _ (messages : List Message) (number : ℕ) (asked_at other : ℕ → ℕ) (requested : (at : ℕ) (sent : Sent) → Contains messages (Request at number sent) → other sent.ticket ≡ asked_at sent.ticket)
    (answered : (at : ℕ) (sent : Sent) (reply : Reply) → Contains messages (Answer at number sent reply) → other sent.ticket ≡ asked_at sent.ticket) where
  -- the tickets of the messages that there are have the same steps
  pub timed-same : (past : List Step) (by : ℕ) → IsTimed messages number asked_at past by → IsTimed messages number other past by
  timed-same [] by timed = tt
  timed-same (Gave sent ∷ past) by (made, request, timed) =
      subst (λ (step : ℕ). (step ≤ by) × Contains messages (Request step number sent) × IsTimed messages number other past step) (sym (requested (asked_at sent.ticket) sent request))
      (made, request, timed-same past (asked_at sent.ticket) timed)
  timed-same (Closed sent (Some reply) ∷ past) by ((at, asked, made, answer), timed) = ((at, omega (arith, asked, answered at sent reply answer), made, answer), timed-same past by timed)
  timed-same (Closed sent None ∷ past) by timed = timed-same past by timed

-- an operation stays timely in a scene where no request of its number was made
pub timely-on : (before after : Scene) → Grows before after → (number : ℕ) (operation : Operating) → ((at : ℕ) (sent : Sent) → Contains after.messages (Request at number sent) → Contains before.messages (Request at number sent))
    → IsTimely before number operation → IsTimely after number operation
timely-on before after grows number operation none_new timely = record {
  asked_at = timely.asked_at;
  requests = λ at sent has. timely.requests at sent (none_new at sent has);
  timed = timed-later number timely.asked_at before.messages after.messages grows.messages operation.past before.now after.now grows.now timely.timed;
}

-- each operation of a world is timely
abbrev pub AreTimely : World → Type 0
AreTimely world = (number : ℕ) (operation : Operating) → numbered world.operations number ≡ Some operation → IsTimely world.scene number operation

-- they all stay so in a scene where no request was made
pub scene-timely : (world : World) → AreTimely world → (scene : Scene) → Follows world.scene scene → AreTimely (with_scene scene world)
scene-timely world timely scene follows number operation is = timely-on world.scene scene follows.grows number operation (λ at sent has. follows.requests at number sent has) (timely number operation is)
