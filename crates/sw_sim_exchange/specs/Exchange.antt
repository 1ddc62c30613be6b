-- The letters and operations of a world, and an operation of it that goes on.
use Rattle.std.specs.Prelude.{◌≡◌, ℕ, ◌-◌, Bool, true, false, List, [], ◌∷◌, ◌++◌, map, slice_set}
use Rattle.std.specs.List.{All}
use Rattle.sw_message.specs.Running.{IsOf}
use Rattle.sw_message.specs.Transcript.{Step}
use Rattle.sw_message.specs.declared.sent.Sent.{Sent}
use Rattle.sw_operation.specs.Operating.{Begun, cluster_of}
use Rattle.sw_core.specs.World.{HandsOut, Rests}
use Rattle.sw_operation.specs.Ends.{IsEndOf}
use Rattle.sw_sim_exchange.specs.declared.lines.EndLine.{EndLine}
use Rattle.sw_operation.specs.declared.end.OpEnd.{OpEnd}
use Rattle.sw_sim_exchange.specs.Kept.{IsKeptAt}
use Rattle.sw_sim_exchange.specs.Letters.{letter_of}
use Rattle.sw_sim_exchange.specs.declared.letter.Letter.{Letter}
use Rattle.sw_sim_exchange.specs.declared.operating.Operating.{Operating}

-- what contracts see of an exchange
pub record ExchangeModel : Type 0 where
  pub letters : List Letter
  pub operations : List Operating

-- the slot of an item of this number
abbrev pub slot_of : ℕ → ℕ
slot_of number = number - 1

-- the end of an operation that is over is told, and else none
abbrev pub EndsWith : (number : ℕ) → Begun → List Step → (is_over : Bool) → List EndLine → Type 0
EndsWith number begun past true ends = (end : OpEnd) × IsEndOf begun past end × (ends ≡ record { operation = number; end = end } ∷ [])
EndsWith number begun past false ends = ends ≡ []

-- An operation that is kept went on from a transcript: what it handed out was added to the letters, and its end, if it is over, to the
-- ends.
pub record Proceeded (number : ℕ) (begun : Begun) (past : List Step) (old new : ExchangeModel) (before after : List EndLine) : Type 0 where
  pub sents : List Sent
  pub later : List Step
  pub is_over : Bool
  pub handed : HandsOut begun sents past later
  pub rests : Rests begun later is_over
  pub each : All (λ (sent : Sent). IsOf (cluster_of begun) sent.device sent.msg) sents
  pub kept : Operating
  pub is_kept : IsKeptAt kept begun later is_over
  pub new_is : new ≡ record { letters = old.letters ++ map (letter_of number) sents; operations = slice_set old.operations (slot_of number) kept }
  pub mine : List EndLine
  pub ends : after ≡ before ++ mine
  pub told : EndsWith number begun later is_over mine
