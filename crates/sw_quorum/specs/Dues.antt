-- Machines that hand out what is due, in its order, and are over once each message was answered or given up.
use Rattle.std.specs.Prelude.{◌≡◌, ℕ, if◌then◌else◌, nat_lt, List, [], ◌∷◌, ◌++◌, length, slice_get, Option, Some, None, ⊤}
use Rattle.sw_message.specs.Transcript.{Hand, Next, Over, Step, Wait, given}
use Rattle.sw_message.specs.declared.sent.Sent.{Sent}
use Rattle.sw_quorum.specs.Transcripts.{closed_count}

abbrev pub due_or : {D : Type 0} → (ℕ → D → Sent) → ℕ → List Step → Option D → Next
due_or message count past (Some due) = Hand (message (length (given past)) due)
due_or message count past None = if nat_lt (closed_count past) count then Wait else Over

-- what comes after a transcript, once this is due: the ticket of a message is the number of those that were handed out before it
abbrev pub due_next : {D : Type 0} → (ℕ → D → Sent) → List D → List Step → Next
due_next message due past = due_or message (length due) past (slice_get due (length (given past)))

-- ---- what is due only grows along a transcript, at its end

abbrev pub IsLonger : {D : Type 0} → List D → List D → Type 0
IsLonger {D} before after = (more : List D) × (after ≡ before ++ more)

abbrev pub Grew : {D : Type 0} → (List Step → List D) → List Step → Type 0
Grew due [] = ⊤
Grew due (step ∷ past) = IsLonger (due past) (due (step ∷ past)) × Grew due past

-- a message of what is due at its ticket
pub record IsDue {D : Type 0} (message : ℕ → D → Sent) (due : List D) (sent : Sent) : Type 0 where
  pub about : D
  pub found : slice_get due sent.ticket ≡ Some about
  pub is : sent ≡ message sent.ticket about
