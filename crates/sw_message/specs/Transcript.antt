-- The transcript of an operation: what it handed out and what became of it, the latest step first.
use Rattle.std.specs.Prelude.{◌≡◌, ℕ, ◌==◌, Bool, true, false, not, List, [], ◌∷◌, filter, find, Contains, Option, Some, None, ⊤}
use Rattle.sw_message.specs.Message.{AreAlike}
use Rattle.sw_message.specs.declared.reply.Reply.{Reply}
use Rattle.sw_message.specs.declared.sent.Sent.{Sent}

-- a message was handed out; it was answered, or given up where there is no answer
pub data Step : Type 0 where
  Gave : (sent : Sent) → Step
  Closed : (sent : Sent) → (answer : Option Reply) → Step

-- what comes after a transcript: a message is handed out, an answer is waited for, or the operation is over
pub data Next : Type 0 where
  Hand : (sent : Sent) → Next
  Wait : Next
  Over : Next

-- the messages that were handed out, the latest first
abbrev pub given : List Step → List Sent
given [] = []
given (Gave sent ∷ past) = sent ∷ given past
given (Closed sent answer ∷ past) = given past

-- a device was not sent such a message before
abbrev pub IsFirst : List Step → Sent → Type 0
IsFirst past sent = (other : Sent) → Contains (given past) other → other.device ≡ sent.device → AreAlike other.msg sent.msg → ⊥

abbrev pub is_not : ℕ → Sent → Bool
is_not ticket sent = not (sent.ticket == ticket)

-- those that were neither answered nor given up, the latest first
abbrev pub opens : List Step → List Sent
opens [] = []
opens (Gave sent ∷ past) = sent ∷ opens past
opens (Closed sent answer ∷ past) = filter (is_not sent.ticket) (opens past)

abbrev pub is_empty : {A : Type 0} → List A → Bool
is_empty [] = true
is_empty (x ∷ xs) = false

abbrev pub is_waiting : List Step → Bool
is_waiting past = not (is_empty (opens past))

-- the open message of a ticket
abbrev pub open_at : ℕ → List Step → Option Sent
open_at ticket past = find (λ (sent : Sent). sent.ticket == ticket) (opens past)

abbrev pub closed_by : List Step → Option Reply → Option Sent → List Step
closed_by past answer None = past
closed_by past answer (Some sent) = Closed sent answer ∷ past

-- the transcript once an answer came for a ticket: one that is not open is ignored
abbrev pub after_answer : List Step → ℕ → Option Reply → List Step
after_answer past ticket answer = closed_by past answer (open_at ticket past)

-- A transcript of a machine, which is a relation between a transcript and what comes next: each message is one that the machine
-- hands out after the steps before it, and each answer is for an open message.
abbrev pub IsRun : (List Step → Next → Type 0) → List Step → Type 0
IsRun machine [] = ⊤
IsRun machine (Gave sent ∷ past) = machine past (Hand sent) × IsRun machine past
IsRun machine (Closed sent answer ∷ past) = (open_at sent.ticket past ≡ Some sent) × IsRun machine past
