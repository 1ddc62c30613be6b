-- What the primary of an index has shown durable, or below a floor, it holds durable or has a floor above, unless its disk was lost.
use Rattle.std.proofs.Common.{◌≡◌, ◌⊎◌, inl, inr, ⊎_elim, ℕ, ◌≤◌, true, Contains, Some, refl}
use Rattle.sw_hashpath.specs.Place.{PlaceModel}
use Rattle.sw_message.specs.Message.{is_primary, place_in}
use Rattle.sw_message.specs.Warrant.{IsPrimaryOf, ShowsAbove, ShowsDurable}
use Rattle.sw_law_claim.specs.Claim.{ADurableEntry, Claim}
use Rattle.sw_law_scene.specs.Scene.{IsLostSince, Scene, StartedPut}
use Rattle.sw_law_scene.specs.Sound.{IsSoundScene}
use Rattle.sw_law_owed.specs.Promise.{Borne, HandedOn, IsKept, KeepsPromises, Lost, Made, OnDisk, WasMade}
use Rattle.sw_law_owed.proofs.Primaries.{at_primary}
use Rattle.sw_law_owed.specs.Decided.{KeepsStamps}
use Rattle.sw_law_owed.proofs.Dates.{dated, put_from}
use Rattle.sw_law_owed.specs.Duties.{HoldsOrStands, place_of_put}
use Rattle.sw_law_owed.proofs.Losses.{lost_before}
use Rattle.sw_law_owed.proofs.Holding.{held}

module _ (scene : Scene) (sound : IsSoundScene scene) (promises : KeepsPromises scene) (stamps : KeepsStamps scene) (put : StartedPut) (has : Contains scene.book put) (index : ℕ) (made : Made)
    (primary : IsPrimaryOf scene.cluster (place_of_put scene put) index made.device) where
  abbrev place : PlaceModel
  place = place_of_put scene put

  abbrev claim : Claim
  claim = record { stamp = put.booked.stamp; what = ADurableEntry index }

  -- it holds the entry or has a floor above, unless its disk was lost since the put began
  abbrev pub IsSafe : Type 0
  IsSafe = IsLostSince scene made.device put.start ⊎ OnDisk scene made.device (HoldsOrStands scene.cluster made.device place put.booked.stamp index)

  is_one : is_primary scene.cluster made.device place ≡ true
  is_one = at_primary scene.cluster place index made.device primary

  -- what it claimed is kept, and a primary hands nothing on
  by_kept : put.start ≤ made.at → IsKept scene made place claim → IsSafe
  by_kept early (Lost lost) = inl (lost_before scene made.device made.at put.start early lost)
  by_kept early (Borne borne) = inr (λ side is. ⊎_elim (λ holds. inl holds) (λ above. inr above.1) (held scene.cluster made.device place claim side (borne side is)))
  by_kept early (HandedOn handed) = let handoff = handed.handoff in let is = is_one in absurd (cc)

  -- so it is safe
  pub shown_kept : WasMade scene made → place_in made.msg ≡ Some place → ShowsDurable put.booked.stamp index made.msg made.reply ⊎ ShowsAbove put.booked.stamp made.reply → IsSafe
  shown_kept was_made about shows =
      by_kept (dated scene put.booked.stamp put.start (put_from scene stamps put has) sound stamps place index made was_made about shows)
      (promises.kept made place claim (record { was_made = was_made; there = about; claims = inr (is_one, (index, refl, shows)) }))
