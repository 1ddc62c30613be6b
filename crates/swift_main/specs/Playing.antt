-- What `play` does.
use Rattle.std.specs.Prelude.{◌≡◌, ℕ, List}
use Rattle.swift_main.specs.Outcome.{PlayTells, text_of}
use Rattle.swift_main.specs.Reading.{Reads}
use Rattle.swift_main.specs.Seen.{SinkSeen, SourceSeen}
use Rattle.swift_main.specs.Writing.{Writes}
use Rattle.swift_main.specs.declared.status.Status.{Status}

-- Answer and text are what the input gives, and the text was written, or a front of it.
abbrev pub IsPlayed : (input : List ℕ) → (before after : SinkSeen) → Status → Type 0
IsPlayed input before after status = (answer : Status) × (told : List ℕ) × PlayTells input answer told × Writes answer (text_of answer told) before after status

abbrev pub Plays : (before after : SourceSeen) → (sink sink' : SinkSeen) → Status → Type 0
Plays before after sink sink' status = Reads (sink' ≡ sink) (λ input status. IsPlayed input sink sink' status) before after status
