-- What an operation hands out at a step: its tickets are new, and the transcript is timed with it.
use Rattle.std.proofs.Common.{◌≡◌, ⊎_elim, ℕ, ◌≤◌, Contains, List, [], ◌∷◌, length, sym, ap, subst, arith}
use Rattle.sw_diskfile.proofs.Lists.{Contains-cases, Contains-first, Contains-later, Contains-none}
use Rattle.sw_message.specs.Transcript.{Gave, Step, given}
use Rattle.sw_message.specs.declared.sent.Sent.{Sent}
use Rattle.sw_law_scene.specs.Scene.{Message, Request}
use Rattle.sw_operation.specs.Operating.{Begun}
use Rattle.sw_core.specs.World.{HandsOut}
use Rattle.sw_core.proofs.Machines.{numbers}
use Rattle.sw_law_rounds.specs.Timed.{IsTimed}

module _ (begun : Begun) where
  -- the ticket of each message is at least the number of those that were handed out before them
  pub handed-new : (sents : List Sent) (past after : List Step) → HandsOut begun sents past after → (sent : Sent) → Contains sents sent → length (given past) ≤ sent.ticket
  handed-new [] past after same sent has = absurd (Contains-none sent has)
  handed-new (first ∷ sents) past after (next, more) sent has = ⊎_elim
      (λ here. omega (arith, numbers begun past first next, ap (λ (one : Sent). one.ticket) here))
      (λ later. omega (arith, handed-new sents (Gave first ∷ past) after more sent later))
      (Contains-cases first sents sent has)

  module _ (messages : List Message) (number : ℕ) (asked_at : ℕ → ℕ) (now : ℕ) where
    -- each message is a request of this step
    pub handed-timed : (sents : List Sent) (past after : List Step) → HandsOut begun sents past after → ((sent : Sent) → Contains sents sent → (now ≡ asked_at sent.ticket) × Contains messages (Request now number sent))
        → IsTimed messages number asked_at past now → IsTimed messages number asked_at after now
    handed-timed [] past after same made timed = subst (λ (steps : List Step). IsTimed messages number asked_at steps now) (sym same) timed
    handed-timed (first ∷ sents) past after (next, more) made timed =
        let this = made first (Contains-first first sents) in
        handed-timed sents (Gave first ∷ past) after more (λ sent has. made sent (Contains-later first sents sent has))
        (subst (λ (step : ℕ). (step ≤ now) × Contains messages (Request step number first) × IsTimed messages number asked_at past step) this.0 (omega arith, this.1, timed))
