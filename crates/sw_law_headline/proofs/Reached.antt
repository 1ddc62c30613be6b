-- A get in whose last round a floor of a stamp or above it is listed tells of nothing older than that stamp.
use Rattle.std.proofs.Common.{◌≡◌, inl, ⊎_elim, ℕ, ◌<◌, Contains, List, Some, ap, subst, arith}
use Rattle.sw_hashdir.specs.Listing.{ListingModel}
use Rattle.sw_hashdir.specs.declared.floor.Floor.{Floor}
use Rattle.sw_diskfile.proofs.Lists.{Contains-none}
use Rattle.sw_ring.specs.Cluster.{ClusterModel}
use Rattle.sw_message.specs.Floors.{floors_in}
use Rattle.sw_gather.proofs.Lists.{in_flat}
use Rattle.sw_get.specs.Causes.{LastRound}
use Rattle.sw_get.specs.Get as gets
use Rattle.sw_get.specs.declared.end.GetEnd.{GetEnd}
use Rattle.sw_get.specs.declared.end.GetEnd.TheVariants.{Absent, Buried, Found, Overtaken, TooFew, Unanswered}
use Rattle.sw_get.proofs.Ends.{ends_absent, ends_buried, ends_too_few}
use Rattle.sw_core.specs.Event.{Event, IsRun}
use Rattle.sw_operation.specs.Operating.{IsGetOf}
use Rattle.sw_core.specs.World.{Operating, World, numbered}
use Rattle.sw_core.proofs.Runs.{found}
use Rattle.sw_law_homes.specs.Homes.{IsFloorHeard, Reaches}
use Rattle.sw_law_rounds.specs.Ends.{IsNotOlder}
use Rattle.sw_law_rounds.proofs.Reached.{IsReached, target-reached}
use Rattle.sw_law_headline.proofs.Gets.{IsGot}
use Rattle.sw_law_headline.proofs.Heard.{IsHearing}

-- by one that reaches another of that stamp
pub is-reached : (world : World) (number : ℕ) (operation : Operating) (begun : gets.Begun) (got_it : IsGot world.scene number operation begun) (turns : List gets.Turn) (start since : ℕ) (out : List ℕ)
    (hearing : IsHearing world number operation begun got_it turns start since out) (other : Floor) → IsFloorHeard hearing.heard (Reaches other) → IsReached begun operation.past turns other.stamp
is-reached world number operation begun got_it turns start since out hearing other (shown, has, floor, there, reaches) =
    let is = hearing.listings shown has in
    record {
      listing = shown.listing;
      floor = floor;
      shown = is.told;
      there = there;
      among = in_flat (λ (one : ℕ × ListingModel). floors_in one.1) (gets.facts_in begun turns).lists (shown.device, shown.listing) floor is.among there;
      high = ⊎_elim
          (λ same. let stamps_are : floor.stamp ≡ other.stamp = ap (λ (one : Floor). one.stamp) same in omega (arith, stamps_are))
          (λ above. ⊎_elim (λ less. omega (arith, less)) (λ level. omega (arith, level.0)) above)
          reaches;
    }

-- ---- ends

module _ (cluster : ClusterModel) (events : List Event) (world : World) (run : IsRun cluster events world) (number : ℕ) (operation : Operating) (there : numbered world.operations number ≡ Some operation) (begun : gets.Begun)
    (get : IsGetOf operation.begun begun) (is : IsGot world.scene number operation begun) (stamp : ℕ) (reached : (last : LastRound begun operation.past) → IsReached begun operation.past last.turns stamp) where
  -- where such a floor is listed in the last round, the end is not older
  pub not-older : (end : GetEnd) → gets.IsEnd begun operation.past end → IsNotOlder stamp end
  not-older Absent ended_so =
      let absent = ends_absent begun operation.past is.valid is.run ended_so in
      let high = reached absent.last in
      absurd (Contains-none high.floor (subst (λ floors. Contains floors high.floor) (absent.none_shown high.listing high.shown) high.there))
  not-older (Found other object sources) ended_so =
      let put = found cluster events world number operation begun other object sources run there get ended_so in
      target-reached begun operation.past put.last.turns stamp other (reached put.last) put.target
  not-older (Buried other) ended_so =
      let buried = ends_buried begun operation.past is.valid is.run other ended_so in
      let high = reached buried.last in
      let upto : other < high.floor.stamp → ⊥ = λ above. buried.greatest high.listing high.floor high.shown high.there (inl above) in
      omega (arith, upto, high.high)
  not-older (Unanswered misses) ended_so = tt
  not-older (TooFew other have) ended_so =
      let few = ends_too_few begun operation.past is.valid is.run other have ended_so in
      target-reached begun operation.past few.last.turns stamp other (reached few.last) few.level.target
  not-older (Overtaken these) ended_so = tt
