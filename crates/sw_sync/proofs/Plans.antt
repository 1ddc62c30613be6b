-- The cases of what a sync does once every device has answered.
use Rattle.std.proofs.Common.{◌≡◌, ℕ, Bool, true, false, [], Option, Some, None, refl, sym, subst, ◌∙◌}
use Rattle.std.specs.Prelude.{if◌then◌else◌}
use Rattle.sw_hashdir.specs.Listing.{ListingModel}
use Rattle.sw_hashdir.specs.declared.floor.Floor.{Floor}
use Rattle.sw_hashdir.specs.declared.floor.FloorKind.{FloorKind}
use Rattle.sw_hashdir.specs.declared.floor.FloorKind.TheVariants.{Durable, Tombstone}
use Rattle.sw_message.specs.Floors.{durable_at, is_above, tombstone_floor}
use Rattle.sw_sync.specs.Parts.{Heard}
use Rattle.sw_sync.specs.State.{State}
use Rattle.sw_sync.specs.Sync.{Begun, burial_of, closed_if, floor_of, greatest_of, listing_of, over, plan, plan_by, plan_for, plan_own, plan_with, primaries, repair_of, total}
use Rattle.sw_sync.specs.declared.sync_end.SyncEnd.TheVariants.{Done, Newer, Unanswered}

-- the own device lists this as its greatest floor, and no device lists one above it
pub record OwnFloor (begun : Begun) (heard : Heard) (floor : Floor) : Type 0 where
  pub listing : ListingModel
  pub own : listing_of heard.lists begun.device ≡ Some listing
  pub floor_is : floor_of listing ≡ Some floor
  pub greatest : (best : Floor) → greatest_of heard.lists ≡ Some best → is_above best floor ≡ false

-- the greatest floor of all is above that of the own device
pub record IsOvertaken (begun : Begun) (heard : Heard) (best : Floor) : Type 0 where
  pub listing : ListingModel
  pub own : listing_of heard.lists begun.device ≡ Some listing
  pub floor : Floor
  pub floor_is : floor_of listing ≡ Some floor
  pub greatest : greatest_of heard.lists ≡ Some best
  pub above : is_above best floor ≡ true

-- the own device lists no floor
pub record HasNoFloor (begun : Begun) (heard : Heard) : Type 0 where
  pub listing : ListingModel
  pub own : listing_of heard.lists begun.device ≡ Some listing
  pub none : floor_of listing ≡ None

module _ (begun : Begun) (heard : Heard) (P : State → Type 0) where
  abbrev k : ℕ
  k = begun.cluster.policy.k

  module _ (buries : (stamp : ℕ) → OwnFloor begun heard (tombstone_floor stamp) → P (closed_if k (burial_of (primaries begun) heard stamp)))
      (repairs : (stamp : ℕ) → OwnFloor begun heard (durable_at stamp) → P (closed_if k (repair_of k (total begun) (primaries begun) heard stamp))) where
    by_kind : (stamp : ℕ) (kind : FloorKind) → OwnFloor begun heard (record { stamp = stamp; kind = kind }) → P (plan_for k (total begun) (primaries begun) heard (record { stamp = stamp; kind = kind }) kind)
    by_kind stamp Tombstone own = buries stamp own
    by_kind stamp Durable own = repairs stamp own

    module _ (newer : (best : Floor) → IsOvertaken begun heard best → P (over (Newer best))) (listing : ListingModel) (own : listing_of heard.lists begun.device ≡ Some listing) where
      by_above : (floor best : Floor) (above : Bool) → floor_of listing ≡ Some floor → greatest_of heard.lists ≡ Some best → is_above best floor ≡ above
          → P (if above then over (Newer best) else plan_for k (total begun) (primaries begun) heard floor floor.kind)
      by_above floor best true is greatest above = newer best (record { listing = listing; own = own; floor = floor; floor_is = is; greatest = greatest; above = above })
      by_above floor best false is greatest above =
          by_kind floor.stamp floor.kind
          (record { listing = listing; own = own; floor_is = is; greatest = λ other at. subst (λ (one : Option Floor). above_floor one ≡ false) (sym greatest ∙ at) above })
        where
          above_floor : Option Floor → Bool
          above_floor None = false
          above_floor (Some best) = is_above best floor

      by_greatest : (floor : Floor) (greatest : Option Floor) → floor_of listing ≡ Some floor → greatest_of heard.lists ≡ greatest → P (plan_by k (total begun) (primaries begun) heard floor greatest)
      by_greatest floor None is greatest = by_kind floor.stamp floor.kind (record { listing = listing; own = own; floor_is = is; greatest = λ best at. absurd (cc) })
      by_greatest floor (Some best) is greatest = by_above floor best (is_above best floor) is greatest refl

      by_own : (floor : Option Floor) → floor_of listing ≡ floor → (HasNoFloor begun heard → P (over (Done 0 0 0 []))) → P (plan_own k (total begun) (primaries begun) heard floor)
      by_own None is nothing = nothing (record { listing = listing; own = own; none = is })
      by_own (Some floor) is nothing = by_greatest floor (greatest_of heard.lists) is refl

    by_listing : (listing : Option ListingModel) → listing_of heard.lists begun.device ≡ listing → (listing_of heard.lists begun.device ≡ None → P (over (Unanswered begun.device)))
        → (HasNoFloor begun heard → P (over (Done 0 0 0 []))) → ((best : Floor) → IsOvertaken begun heard best → P (over (Newer best)))
        → P (plan_with k (total begun) begun.device (primaries begun) heard listing)
    by_listing None own unanswered nothing newer = unanswered own
    by_listing (Some listing) own unanswered nothing newer = by_own newer listing own (floor_of listing) refl nothing

    pub by_plan : (listing_of heard.lists begun.device ≡ None → P (over (Unanswered begun.device))) → (HasNoFloor begun heard → P (over (Done 0 0 0 [])))
        → ((best : Floor) → IsOvertaken begun heard best → P (over (Newer best))) → P (plan begun heard)
    by_plan unanswered nothing newer = by_listing (listing_of heard.lists begun.device) refl unanswered nothing newer
