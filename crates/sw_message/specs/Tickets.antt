-- The tickets of an operation: each is the number of messages that were handed out before it.
use Rattle.std.specs.Prelude.{◌≡◌, ℕ, ◌<◌, Bool, false, List, length, slice_index_or, is_some}
use Rattle.std.specs.List.{All}
use Rattle.sw_message.specs.Transcript.{Step, given, open_at, opens}
use Rattle.sw_message.specs.declared.sent.Sent.{Sent}

-- these flags say of each ticket of a transcript whether it is open
pub record AreTickets (flags : List Bool) (past : List Step) : Type 0 where
  pub count : length flags ≡ length (given past)
  pub are_open : (ticket : ℕ) → slice_index_or flags ticket false ≡ is_some (open_at ticket past)
  pub below : All (λ (sent : Sent). sent.ticket < length (given past)) (opens past)
