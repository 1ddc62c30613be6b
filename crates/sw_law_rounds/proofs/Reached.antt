-- Where in the last round of a get a floor of a stamp or above it is listed, its target is not below.
use Rattle.std.proofs.Common.{inl, ℕ, ◌<◌, ◌≤◌, Contains, List, arith}
use Rattle.std.proofs.lemmas.List.Elements.{Contains-append_right}
use Rattle.sw_hashdir.specs.Listing.{ListingModel}
use Rattle.sw_hashdir.specs.declared.floor.Floor.{Floor}
use Rattle.sw_message.specs.Floors.{durable_at, floors_in}
use Rattle.sw_message.specs.Transcript.{Step}
use Rattle.sw_get.specs.Causes.{HasTarget, IsShown, floors_before, floors_listed}
use Rattle.sw_get.specs.Get as gets

-- in the last round a floor was listed whose stamp is not less than this one
pub record IsReached (begun : gets.Begun) (past : List Step) (turns : List gets.Turn) (stamp : ℕ) : Type 0 where
  pub listing : ListingModel
  pub floor : Floor
  pub shown : IsShown past listing
  pub there : Contains (floors_in listing) floor
  pub among : Contains (floors_listed begun turns) floor
  pub high : stamp ≤ floor.stamp

-- the target of the round is not below it
pub target-reached : (begun : gets.Begun) (past : List Step) (turns : List gets.Turn) (stamp other : ℕ) → IsReached begun past turns stamp → HasTarget begun turns (durable_at other) → stamp ≤ other
target-reached begun past turns stamp other reached target =
    let upto : other < reached.floor.stamp → ⊥ = λ above.
    target.1 reached.floor (Contains-append_right (floors_before begun turns) (floors_listed begun turns) reached.floor reached.among) (inl above) in
    omega (arith, upto, reached.high)
