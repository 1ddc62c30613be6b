-- What is kept of an operation that was started.
use Rattle.std.specs.Prelude.{◌≡◌, Bool, true, false, List, Option, Some, None}
use Rattle.sw_message.specs.Tickets.{AreTickets}
use Rattle.sw_message.specs.Transcript.{Step}
use Rattle.sw_operation.specs.Operating.{Begun}
use Rattle.sw_operation.specs.Standing.{Stands, has_ended}
use Rattle.sw_operation.specs.declared.any_op.AnyOp.{AnyOp}
use Rattle.sw_sim_exchange.specs.declared.operating.Operating.{Operating}

-- what is kept of an operation stands for a transcript
pub record IsAt (kept : Operating) (begun : Begun) (past : List Step) : Type 0 where
  pub op : AnyOp
  pub goes : kept.op ≡ Some op
  pub stands : Stands op begun past
  pub tickets : AreTickets kept.tickets past

-- whether it has found that it is over
abbrev pub ended_in : Option AnyOp → Bool
ended_in None = false
ended_in (Some op) = has_ended op

-- nothing is kept of one that is over
abbrev pub IsKeptAt : Operating → Begun → List Step → (is_over : Bool) → Type 0
IsKeptAt kept begun past true = kept.op ≡ None
IsKeptAt kept begun past false = IsAt kept begun past × (ended_in kept.op ≡ false)
