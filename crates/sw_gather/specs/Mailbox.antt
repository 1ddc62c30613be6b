-- What contracts see of a mailbox, and the transcripts that it goes with.
use Rattle.std.specs.Prelude.{◌≡◌, ℕ, ◌+◌, ◌^◌, ◌<◌, Bool, List, [], ◌∷◌, length, Option, Some, None}
use Rattle.std.specs.List.{AllPairs}
use Rattle.sw_message.specs.Tickets.{AreTickets}
use Rattle.sw_message.specs.Transcript.{Step, opens}
use Rattle.sw_message.specs.declared.reply.Reply.{Reply}
use Rattle.sw_quorum.specs.Transcripts.{HasOther}

-- an answer that was taken and not yet read, or that there is none
abbrev pub Unread : Type 0 → Type 0
Unread E = E × Option Reply

-- the answer to an errand, if there is one
abbrev pub answer_to : {E : Type 0} → Option E → Option Reply → List (Unread E)
answer_to None answer = []
answer_to (Some errand) answer = (errand, answer) ∷ []

pub record MailboxModel (E : Type 0) : Type 0 where
  pub tickets : List Bool
  -- what each ticket was made for
  pub errands : List E
  -- how many messages are open
  pub waiting : ℕ
  -- the answers that are to be read, the first of them first
  pub unread : List (Unread E)

-- one ticket more was made; their numbers fit
abbrev pub IsOneMore : (before after : ℕ) → Type 0
IsOneMore before after = (after ≡ before + 1) × (before < 2 ^ 64)

-- its tickets are those of a transcript
pub record GoesWith {E : Type 0} (mailbox : MailboxModel E) (past : List Step) : Type 0 where
  pub tickets_are : AreTickets mailbox.tickets past
  pub apart : AllPairs HasOther (opens past)
  pub waiting_is : mailbox.waiting ≡ length (opens past)
  pub errands_are : length mailbox.errands ≡ length mailbox.tickets
