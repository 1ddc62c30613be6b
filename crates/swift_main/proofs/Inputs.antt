-- What is read of an input that is told.
use Rattle.std.proofs.Common.{◌≡◌, ℕ, ◌<◌, ◌≤◌, List, ◌++◌, length, length-append, Option, Some, None, inl, inr, ◌⊎◌, ⊎_elim, sym, ◌∙◌, ap, subst, arith, append-nil}
use Rattle.std.specs.Io.KnownBytes.{Consumes, IsAtEnd}
use Rattle.std.proofs.lemmas.Bool.{cases_lt}
use Rattle.swift_main.specs.Outcome.{greatest_input}
use Rattle.swift_main.specs.Reading.{IsInput}
use Rattle.swift_main.specs.Seen.{SourceSeen}

-- all of it, or both are too long
abbrev IsAllOf : (whole input : List ℕ) → Type 0
IsAllOf whole input = (input ≡ whole) ⊎ ((greatest_input < length input) × (greatest_input < length whole))

all_of : (whole : List ℕ) (left : Option (List ℕ)) (input : List ℕ) → Consumes (Some whole) left input → (length input ≤ greatest_input → IsAtEnd left) → IsAllOf whole input
all_of whole None input consumed end = absurd consumed
all_of whole (Some rest) input consumed end =
    ⊎_elim
    (λ long. inr (long, omega (arith, long, ap length consumed, length-append input rest)))
    (λ short. inl (sym (consumed ∙ ap (λ more. input ++ more) (end short) ∙ append-nil input))) (cases_lt greatest_input (length input))

pub input_is : (before after : SourceSeen) (whole input : List ℕ) → before.left ≡ Some whole → IsInput before after input → (input ≡ whole) ⊎ ((greatest_input < length input) × (greatest_input < length whole))
input_is before after whole input told read = all_of whole after.left input (subst (λ left. Consumes left after.left input) told read.consumed) read.whole
