-- What `play` tells, written.
use Rattle.std.proofs.Common.{◌≡◌, ℕ, List, inl, inr, ◌⊎◌, ⊎_elim, refl, sym, subst, append-nil}
use Rattle.std.specs.Prelude.{◌≢◌}
use Rattle.swift_main.specs.Answer.{IsAnswer}
use Rattle.swift_main.specs.Outcome.{PlayTells}
use Rattle.swift_main.specs.Playing.{IsPlayed}
use Rattle.swift_main.specs.Seen.{SinkSeen}
use Rattle.swift_main.specs.Writing.{Writes}
use Rattle.swift_main.specs.declared.playing.Answer.{Answer}
use Rattle.swift_main.specs.declared.status.Status.{Status}
use Rattle.swift_main.specs.declared.status.Status.TheVariants.{Done, Usage, Ring, Line, NoMemory, ReadFault, WriteFault, ShelfFault, DoorFault, Spent, TooLong}

-- memory was refused, or not
is_no_memory : (status : Status) → (status ≡ NoMemory) ⊎ (status ≢ NoMemory)
is_no_memory Done = inr (λ same. cc)
is_no_memory Usage = inr (λ same. cc)
is_no_memory (Ring fault) = inr (λ same. cc)
is_no_memory (Line line fault) = inr (λ same. cc)
is_no_memory NoMemory = inl refl
is_no_memory ReadFault = inr (λ same. cc)
is_no_memory WriteFault = inr (λ same. cc)
is_no_memory ShelfFault = inr (λ same. cc)
is_no_memory DoorFault = inr (λ same. cc)
is_no_memory (Spent line) = inr (λ same. cc)
is_no_memory TooLong = inr (λ same. cc)

pub played : (input : List ℕ) (answer : Answer) (before after : SinkSeen) (status : Status) → IsAnswer input answer → Writes answer.status answer.text before after status → IsPlayed input before after status
played input answer before after status is wrote =
    ⊎_elim
    (λ wants.
    let told : PlayTells input NoMemory answer.text = elim (is.part wants) [ inl none ↦ inr (refl, none) | inr some ↦ inl some ] in
    let as_wanting = subst (λ (told_with : Status). Writes told_with answer.text before after status) wants wrote in
    (NoMemory, answer.text, told, subst (λ text. Writes NoMemory text before after status) (sym (append-nil answer.text)) as_wanting))
    (λ goes.
    let was = is.whole goes in
    (answer.status, was.0, inl was.1, subst (λ text. Writes answer.status text before after status) was.2 wrote)) (is_no_memory answer.status)
