-- An operation that goes on comes to rest: it hands out its messages, and then is over or waits.
use Rattle.std.proofs.Common.{◌⊎◌, inl, inr, ℕ, zero, suc, ◌<◌, Bool, List, [], ◌∷◌, refl, arith}
use Rattle.sw_message.specs.Transcript.{Gave, Hand, Step}
use Rattle.sw_message.specs.declared.sent.Sent.{Sent}
use Rattle.sw_operation.specs.Operating.{Begun, IsNext}
use Rattle.sw_core.specs.World.{HandsOut, Rests}

-- from a transcript it comes to rest
pub record ComesToRest (begun : Begun) (past : List Step) : Type 0 where
  pub sents : List Sent
  pub later : List Step
  pub is_over : Bool
  pub handed : HandsOut begun sents past later
  pub rests : Rests begun later is_over

-- it is at rest
pub at_rest : (begun : Begun) (past : List Step) (is_over : Bool) → Rests begun past is_over → ComesToRest begun past
at_rest begun past is_over rests = record { sents = []; later = past; is_over = is_over; handed = refl; rests = rests }

-- with one message more
pub one_more : (begun : Begun) (past : List Step) (sent : Sent) → IsNext begun past (Hand sent) → ComesToRest begun (Gave sent ∷ past) → ComesToRest begun past
one_more begun past sent hands rest = record { sents = sent ∷ rest.sents; later = rest.later; is_over = rest.is_over; handed = (hands, rest.handed); rests = rest.rests }

-- Where a transcript fits with at most so many messages left, it is at rest, or a message is handed out and it fits with fewer.
module _ (begun : Begun) (Fits : ℕ → List Step → Type 0) where
  abbrev pub StopsOrGoes : ℕ → List Step → Type 0
  StopsOrGoes left past = ((is_over : Bool) × Rests begun past is_over) ⊎ ((sent : Sent) × IsNext begun past (Hand sent) × (fewer : ℕ) × (fewer < left) × Fits fewer (Gave sent ∷ past))

  module _ (goes : (left : ℕ) (past : List Step) → Fits left past → StopsOrGoes left past) where
    by_step : (fuel left : ℕ) (past : List Step) → left < suc fuel → ((fewer : ℕ) (more : List Step) → fewer < fuel → Fits fewer more → ComesToRest begun more) → StopsOrGoes left past → ComesToRest begun past
    by_step fuel left past few rest (inl stops) = at_rest begun past stops.0 stops.1
    by_step fuel left past few rest (inr (sent, hands, fewer, less, fits)) = one_more begun past sent hands (rest fewer (Gave sent ∷ past) (omega (arith, few, less)) fits)

    with_fuel : (fuel left : ℕ) (past : List Step) → left < fuel → Fits left past → ComesToRest begun past
    with_fuel zero left past few fits = absurd (omega (arith, few))
    with_fuel (suc fuel) left past few fits = by_step fuel left past few (with_fuel fuel) (goes left past fits)

    -- so it comes to rest
    pub comes_to_rest : (left : ℕ) (past : List Step) → Fits left past → ComesToRest begun past
    comes_to_rest left past fits = with_fuel (suc left) left past (omega arith) fits
