-- When the steps of a transcript were made.
use Rattle.std.specs.Prelude.{◌≤◌, ◌<◌, ℕ, List, [], ◌∷◌, Contains, Some, None, ⊤}
use Rattle.sw_message.specs.Transcript.{Closed, Gave, Step}
use Rattle.sw_law_scene.specs.Scene.{Answer, Message, Request}

-- A transcript as it may stand by a step, where the request of each ticket was made at some step: a message that was handed out was
-- made then, and what was told before it had been made by then; a reply was made later than its request.
abbrev pub IsTimed : List Message → (number : ℕ) → (asked_at : ℕ → ℕ) → List Step → (by : ℕ) → Type 0
IsTimed messages number asked_at [] by = ⊤
IsTimed messages number asked_at (Gave sent ∷ past) by =
    (asked_at sent.ticket ≤ by) × Contains messages (Request (asked_at sent.ticket) number sent) × IsTimed messages number asked_at past (asked_at sent.ticket)
IsTimed messages number asked_at (Closed sent (Some reply) ∷ past) by =
    ((at : ℕ) × (asked_at sent.ticket < at) × (at ≤ by) × Contains messages (Answer at number sent reply)) × IsTimed messages number asked_at past by
IsTimed messages number asked_at (Closed sent None ∷ past) by = IsTimed messages number asked_at past by
