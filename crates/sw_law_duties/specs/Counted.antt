-- What a put counts: fragments of different indices at different devices, each its index's primary or a handoff.
use Rattle.std.specs.Prelude.{◌≡◌, ℕ, Some}
use Rattle.sw_quorum.specs.Answers.{done}
use Rattle.sw_put.specs.Put as puts
use Rattle.sw_operation.specs.Operating.{Put}
use Rattle.sw_core.specs.World.{Operating, World, numbered}
use Rattle.sw_law_owed.specs.Decided.{AreApart}

pub record CountsApart (world : World) : Type 0 where
  pub stored : (number : ℕ) (operation : Operating) (begun : puts.Begun) → numbered world.operations number ≡ Some operation → operation.begun ≡ Put begun
      → AreApart begun.cluster (puts.place_of begun) (done (puts.stores operation.past))
  pub committed : (number : ℕ) (operation : Operating) (begun : puts.Begun) → numbered world.operations number ≡ Some operation → operation.begun ≡ Put begun
      → AreApart begun.cluster (puts.place_of begun) (done (puts.commits operation.past))
