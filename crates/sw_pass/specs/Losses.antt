-- The losses in a history, and one that is owed: its number was drawn, and the disk that comes is not in the history yet.
use Rattle.std.specs.Prelude.{◌≡◌, ◌<◌, ℕ, List, [], ◌∷◌, Option, Some, None, ⊤}
use Rattle.sw_view.specs.declared.event.Event.{Event}
use Rattle.sw_view.specs.declared.event.Event.TheVariants.{Faulted, Handled, Mounted, Replaced}

-- each loss has a lesser number
abbrev pub LossesBelow : ℕ → List Event → Type 0
LossesBelow bound [] = ⊤
LossesBelow bound (Handled msg reply ∷ past) = LossesBelow bound past
LossesBelow bound (Faulted msg ∷ past) = LossesBelow bound past
LossesBelow bound (Mounted ∷ past) = LossesBelow bound past
LossesBelow bound (Replaced loss ∷ past) = (loss < bound) × LossesBelow bound past

-- the numbers of losses rise
abbrev pub Rises : List Event → Type 0
Rises [] = ⊤
Rises (Handled msg reply ∷ past) = Rises past
Rises (Faulted msg ∷ past) = Rises past
Rises (Mounted ∷ past) = Rises past
Rises (Replaced loss ∷ past) = LossesBelow loss past × Rises past

-- a history in which the loss that is owed counts as if it were there
abbrev pub with_owed : Option ℕ → List Event → List Event
with_owed None past = past
with_owed (Some loss) past = Replaced loss ∷ past

-- an event is a replacement exactly where a loss is owed, and is that of this loss
abbrev pub IsDue : Event → Option ℕ → Type 0
IsDue (Replaced loss) owing = owing ≡ Some loss
IsDue (Handled msg reply) owing = owing ≡ None
IsDue (Faulted msg) owing = owing ≡ None
IsDue Mounted owing = owing ≡ None
