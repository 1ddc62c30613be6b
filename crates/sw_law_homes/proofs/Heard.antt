-- What is heard of a claim that was made of a fragment whose homes are not out: a listing bears it, or a durable entry in its place.
use Rattle.std.proofs.Common.{◌≡◌, ◌⊎◌, inl, inr, ⊎_elim, ℕ, ◌≤◌, ◌<◌, Contains, List, refl, sym, subst, ◌∙◌, arith}
use Rattle.sw_hashdir.specs.Listing.{ListingModel}
use Rattle.sw_hashdir.specs.declared.floor.Floor.{Floor}
use Rattle.sw_hashpath.specs.Place.{IsPlace, PlaceModel}
use Rattle.sw_message.specs.Warrant.{IsHome, ListsFloor}
use Rattle.sw_law_claim.specs.Claim.{ADurableEntry, Claim, IsOfIndex, ListsWhat, What}
use Rattle.sw_law_scene.specs.Scene.{Scene}
use Rattle.sw_law_scene.specs.Sound.{IsSoundScene}
use Rattle.sw_law_owed.specs.Promise.{HandedOnBefore, IsClaimed, KeepsPromises, Listed, LostSince, Made, WasHandedOn, WasShown}
use Rattle.sw_law_owed.proofs.Primaries.{at_primary}
use Rattle.sw_law_owed.specs.Decided.{KeepsStamps}
use Rattle.sw_law_homes.specs.Homes.{AreHeard, IsUntouched, Shown}
use Rattle.sw_law_owed.proofs.Dates.{IsFrom, dated}
use Rattle.sw_law_homes.proofs.Devices.{no_handoff, one_device, primary_at, primary_known}

-- a listing shows what is claimed of a stamp, or a floor above the stamp
abbrev pub Lists : ListingModel → (stamp : ℕ) → What → Type 0
Lists listing stamp what = ListsWhat listing stamp what ⊎ ((floor : Floor) × ListsFloor listing stamp floor)

-- some listing that is heard does, of a device that is not out
pub record IsBorne (out : List ℕ) (heard : List Shown) (stamp : ℕ) (what : What) : Type 0 where
  pub shown : Shown
  pub has : Contains heard shown
  pub clear : Contains out shown.device → ⊥
  pub lists : Lists shown.listing stamp what

module _ (scene : Scene) (promises : KeepsPromises scene) (place : PlaceModel) (start since : ℕ) (out : List ℕ) (heard : List Shown) (are : AreHeard scene place start since out heard) where
  -- ---- one device

  module _ (made : Made) (claim : Claim) (claimed : IsClaimed scene made place claim) (after : start ≤ made.at) (clear : Contains out made.device → ⊥) where
    -- what a device claimed it is heard to list, unless its duty was handed on
    listed_at : (shown : Shown) → Contains heard shown → shown.device ≡ made.device → made.at < shown.at
        → Lists shown.listing claim.stamp claim.what ⊎ WasHandedOn scene made.device place claim shown.at
    listed_at shown has same later =
        let of = are.made shown has in
        elim (promises.listed made (record { at = shown.at; device = shown.device; msg = of.msg; reply = of.reply }) place claim shown.listing claimed of.was_made later same of.there of.shows) [
          | LostSince lost ↦ absurd (clear (are.lost made.device (lost.0, lost.1, lost.2, omega (arith, after, lost.3))))
          | Listed listed ↦ inl (⊎_elim (λ what. inl what) (λ above. inr (above.1, above.2)) listed)
          | HandedOnBefore handed ↦ inr handed
        ]

    -- so it is borne where it wasn't handed on
    pub heard_of : (shown : Shown) → Contains heard shown → shown.device ≡ made.device → made.at < shown.at → (what : What) → ((listing : ListingModel) → Lists listing claim.stamp claim.what → Lists listing claim.stamp what)
        → (WasHandedOn scene made.device place claim shown.at → IsBorne out heard claim.stamp what) → IsBorne out heard claim.stamp what
    heard_of shown has same later what weaker handed = ⊎_elim
        (λ lists. record { shown = shown; has = has; clear = λ is. clear (subst (Contains out) same is); lists = weaker shown.listing lists })
        handed
        (listed_at shown has same later)

  -- ---- a fragment

  module _ (sound : IsSoundScene scene) (stamps : KeepsStamps scene) (is_place : IsPlace scene.cluster.part_power place) (stamp : ℕ) (from : IsFrom scene stamp start) (index : ℕ) (what : What) where
    -- a durable entry of the index is as good as what is claimed
    module _ (weaker : (listing : ListingModel) → Lists listing stamp (ADurableEntry index) → Lists listing stamp what) where
      -- by the primary of the index that had shown it
      by_primary : (second : Shown) (step : ℕ) (shown : WasShown scene place stamp index step) → (Contains out shown.made.device → ⊥) → Contains heard second → second.device ≡ shown.made.device → step < second.at → IsBorne out heard stamp what
      by_primary second step shown clear has same later =
          let claim : Claim = record { stamp = stamp; what = ADurableEntry index } in
          let claimed : IsClaimed scene shown.made place claim =
          record { was_made = shown.was_made; there = shown.there; claims = inr (at_primary scene.cluster place index shown.made.device shown.primary, (index, refl, shown.shows)) } in
          heard_of shown.made claim claimed (dated scene stamp start from sound stamps place index shown.made shown.was_made shown.there shown.shows) clear second has same (omega (arith, later, shown.before)) what weaker
          (λ handed. absurd (no_handoff scene.cluster place index shown.made.device handed.handoff shown.primary))

      -- a fragment is borne by the device that claimed it, or by the primary of its index
      pub borne : ((other : ℕ) → IsOfIndex other what → index ≡ other) → (made : Made) → IsClaimed scene made place (record { stamp = stamp; what = what }) → start ≤ made.at → made.at < since
          → IsHome scene.cluster place (record { index = index; device = made.device }) → IsUntouched scene.cluster place out (record { index = index; device = made.device }) → IsBorne out heard stamp what
      borne of made claimed after before home untouched = at_home home
        where
          claim : Claim
          claim = record { stamp = stamp; what = what }

          clear : Contains out made.device → ⊥
          clear has = untouched made.device has (inl refl)

          here : (shown : Shown) → Contains heard shown → shown.device ≡ made.device → (WasHandedOn scene made.device place claim shown.at → IsBorne out heard stamp what) → IsBorne out heard stamp what
          here shown has same handed = heard_of made claim claimed after clear shown has same (omega (arith, before, are.not_before shown has)) what (λ listing lists. lists) handed

          at_home : IsHome scene.cluster place (record { index = index; device = made.device }) → IsBorne out heard stamp what
          at_home (inl primary) =
              let own = are.each made.device (primary_known scene.cluster place sound.rules is_place index made.device primary) clear in
              here own.0 own.1 own.2 (λ handed. absurd (no_handoff scene.cluster place index made.device handed.handoff primary))
          at_home (inr (member, handoff, below)) =
              let primary = primary_at scene.cluster place sound.rules is_place index below in
              let pair = are.order made.device primary.0 member (primary_known scene.cluster place sound.rules is_place index primary.0 primary.1) clear (λ has. untouched primary.0 has (inr primary.1)) handoff
              (at_primary scene.cluster place index primary.0 primary.1) in
              here pair.first pair.has_first pair.first_is (λ handed.
              let shown = subst (λ n. WasShown scene place stamp n pair.first.at) (sym (of handed.index handed.entry)) handed.shown in
              by_primary pair.second pair.first.at shown (λ has. untouched shown.made.device has (inr shown.primary)) pair.has_second
              (pair.second_is ∙ one_device scene.cluster place index primary.0 shown.made.device primary.1 shown.primary) pair.order)
