-- What was told stays so as a transcript grows.
use Rattle.std.proofs.Common.{ℕ, List, ◌∷◌}
use Rattle.sw_hashpath.specs.Place.{PlaceModel}
use Rattle.sw_message.specs.Transcript.{Step}
use Rattle.sw_sync.proofs.Messages.{told-later}
use Rattle.sw_daemon.specs.Causes.{IsDifferent, IsHeld, IsPart, MayTreat}
use Rattle.sw_daemon.specs.Pass.{Begun}

module _ (past : List Step) (step : Step) (begun : Begun) where
  pub part-later : (part : ℕ) → IsPart begun past part → IsPart begun (step ∷ past) part
  part-later part is = record { parts = is.parts; told = told-later past step _ _ _ is.told; listed = is.listed; below = is.below }

  pub held-later : (place : PlaceModel) → IsHeld begun past place → IsHeld begun (step ∷ past) place
  held-later place is = record { part = part-later place.part is.part; places = is.places; told = told-later past step _ _ _ is.told; listed = is.listed; right = is.right }

  different-later : (part suffix : ℕ) → IsDifferent begun past part suffix → IsDifferent begun (step ∷ past) part suffix
  different-later part suffix is = record {
    own = is.own;
    own_told = told-later past step _ _ _ is.own_told;
    device = is.device;
    other = is.other;
    primary = is.primary;
    answer = is.answer;
    told = told-later past step _ _ _ is.told;
    differs = is.differs;
  }

  pub treat-later : (place : PlaceModel) → MayTreat begun past place → MayTreat begun (step ∷ past) place
  treat-later place is = record { held = held-later place is.held; differs = λ primary. different-later place.part _ (is.differs primary) }
