-- What a machine that numbers its messages counts of a transcript.
use Rattle.std.specs.Prelude.{◌≡◌, ◌≢◌, ℕ, ◌+◌, ◌<◌, ◌==◌, Bool, List, [], ◌∷◌, length}
use Rattle.std.specs.List.{All, AllPairs}
use Rattle.sw_message.specs.Transcript.{Closed, Gave, Hand, Next, Step, after_answer, given, opens}
use Rattle.sw_message.specs.declared.sent.Sent.{Sent}

-- each message's ticket is the number of messages that were handed out before it
abbrev pub Numbers : (List Step → Next → Type 0) → Type 0
Numbers machine = (past : List Step) (sent : Sent) → machine past (Hand sent) → sent.ticket ≡ length (given past)

-- how many messages were answered or given up
abbrev pub closed_count : List Step → ℕ
closed_count [] = 0
closed_count (Gave sent ∷ past) = closed_count past
closed_count (Closed sent answer ∷ past) = closed_count past + 1

-- those, the latest first
abbrev pub closed : List Step → List Sent
closed [] = []
closed (Gave sent ∷ past) = closed past
closed (Closed sent answer ∷ past) = sent ∷ closed past

abbrev pub has_ticket : ℕ → Sent → Bool
has_ticket ticket sent = sent.ticket == ticket

abbrev pub HasOther : Sent → Sent → Type 0
HasOther one other = one.ticket ≢ other.ticket

-- open messages have tickets below the number of messages that were handed out, no two the same; and each message is open or told
pub record AreNumbered (past : List Step) : Type 0 where
  pub below : All (λ (sent : Sent). sent.ticket < length (given past)) (opens past)
  pub apart : AllPairs HasOther (opens past)
  pub count : closed_count past + length (opens past) ≡ length (given past)
