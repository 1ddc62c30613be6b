-- How a text is written.
use Rattle.std.specs.Prelude.{◌≡◌, ◌⊎◌, ℕ, List}
use Rattle.std.specs.Io.KnownBytes.{Appends}
use Rattle.sw_io.specs.Whole.{AppendsProperFront}
use Rattle.sw_words.specs.Counts.{one_more}
use Rattle.swift_main.specs.Outcome.{last_line}
use Rattle.swift_main.specs.Seen.{SinkSeen}
use Rattle.swift_main.specs.declared.status.Status.{Status}
use Rattle.swift_main.specs.declared.status.Status.TheVariants.{NoMemory, WriteFault}

-- The text of an answer was written, and the status is the answer's; or writing failed behind a front of it.
abbrev pub Writes : (answer : Status) → (text : List ℕ) → (before after : SinkSeen) → Status → Type 0
Writes answer text before after status =
    ((status ≡ answer) × Appends before.written after.written text × (after.faults ≡ before.faults))
    ⊎ ((status ≡ WriteFault) × AppendsProperFront before.written after.written text × (after.faults ≡ one_more before.faults))

-- An answer's last line was written so; or memory was wanted for it, and nothing was.
abbrev pub Tells : (answer : Status) → (before after : SinkSeen) → Status → Type 0
Tells answer before after status = Writes answer (last_line answer) before after status ⊎ ((status ≡ NoMemory) × (after ≡ before))
