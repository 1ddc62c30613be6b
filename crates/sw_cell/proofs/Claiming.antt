-- What a seat knows of its own device's history once it has claimed its slot.
use Rattle.std.proofs.Common.{◌≡◌, ℕ, [], ◌∷◌, ap, ◌∙◌}
use Rattle.sw_view.specs.declared.event.Event.TheVariants.{Mounted}
use Rattle.sw_pass.specs.Known.{HeldNode, history}
use Rattle.sw_pass.specs.Steps.{claimed}
use Rattle.sw_pass.specs.declared.known.Known.{Known}
use Rattle.sw_pass.proofs.Histories.{history_same}

-- a mount, and nothing more
pub mounted_only : (seat : HeldNode) (slot : ℕ) (known : Known) → seat.slot ≡ slot → seat.known ≡ claimed slot known → history seat.known.histories seat.slot ≡ Mounted ∷ []
mounted_only seat slot known at is = ap (history seat.known.histories) at ∙ ap (λ (one : Known). history one.histories slot) is ∙ history_same known.histories slot (Mounted ∷ [])
