-- How the input is read. Its source may tell nothing: then there still are bytes that were read.
use Rattle.std.specs.Prelude.{◌≡◌, ◌⊎◌, ℕ, ◌+◌, ◌≤◌, List, length}
use Rattle.std.specs.Io.KnownBytes.{Consumes, IsAtEnd}
use Rattle.sw_io.specs.Whole.{ConsumesFront}
use Rattle.sw_words.specs.Counts.{one_more}
use Rattle.swift_main.specs.Outcome.{greatest_input}
use Rattle.swift_main.specs.Seen.{SourceSeen}
use Rattle.swift_main.specs.declared.status.Status.{Status}
use Rattle.swift_main.specs.declared.status.Status.TheVariants.{NoMemory, ReadFault}

-- These bytes were read: all of the input, or one more than it may have.
pub record IsInput (before after : SourceSeen) (input : List ℕ) : Type 0 where
  pub consumed : Consumes before.left after.left input
  pub within : length input ≤ greatest_input + 1
  pub whole : length input ≤ greatest_input → IsAtEnd after.left
  pub quiet : after.faults ≡ before.faults

-- The input was not read so far: reading failed, or memory was wanted.
pub record IsUnread (before after : SourceSeen) (status : Status) : Type 0 where
  pub cause : ((status ≡ ReadFault) × (after.faults ≡ one_more before.faults)) ⊎ ((status ≡ NoMemory) × (after.faults ≡ before.faults))
  pub front : ConsumesFront before.left after.left (greatest_input + 1)

-- It was read and this was done by it, or it was not and this holds.
abbrev pub Reads : (unread : Type 0) → (does : List ℕ → Status → Type 0) → (before after : SourceSeen) → Status → Type 0
Reads unread does before after status = (unread × IsUnread before after status) ⊎ ((input : List ℕ) × IsInput before after input × does input status)
