-- Homes of fragments, and what is heard of them by one who hears every device but a few.
use Rattle.std.specs.Prelude.{◌≡◌, ◌⊎◌, ◌≤◌, ◌<◌, ℕ, ◌+◌, Bool, true, false, List, Contains, length, Some}
use Rattle.std.specs.List.{All}
use Rattle.sw_hashdir.specs.Directory.{StandsAbove}
use Rattle.sw_hashdir.specs.Listing.{ListingModel}
use Rattle.sw_hashdir.specs.declared.floor.Floor.{Floor}
use Rattle.sw_hashpath.specs.Place.{PlaceModel}
use Rattle.sw_ring.specs.Cluster.{ClusterModel}
use Rattle.sw_message.specs.Floors.{floors_in}
use Rattle.sw_message.specs.Message.{IsMember, is_primary, place_in}
use Rattle.sw_message.specs.Warrant.{HasListing, IsPrimaryOf}
use Rattle.sw_message.specs.declared.message.Msg.{Msg}
use Rattle.sw_message.specs.declared.message.Msg.TheVariants as message
use Rattle.sw_message.specs.declared.reply.Reply.{Reply}
use Rattle.sw_message.specs.declared.reply.Reply.TheVariants as reply
use Rattle.sw_message.specs.declared.target.Target.{Target}
use Rattle.sw_law_scene.specs.Scene.{IsLostSince, Scene}
use Rattle.sw_law_owed.specs.Promise.{Made, WasMade}
use Rattle.sw_law_owed.specs.Decided.{AreApart}

-- ---- homes

-- a fragment is at home where it was stored, and at the primary of its index
abbrev pub IsHomeOf : ClusterModel → PlaceModel → (device : ℕ) → Target → Type 0
IsHomeOf cluster place device target = (device ≡ target.device) ⊎ IsPrimaryOf cluster place target.index device

-- none of these devices is a home of it
abbrev pub IsUntouched : ClusterModel → PlaceModel → (out : List ℕ) → Target → Type 0
IsUntouched cluster place out target = (device : ℕ) → Contains out device → IsHomeOf cluster place device target → ⊥

-- some of the targets, of different indices, that are untouched; each device that is out touches one at most
pub record AreLeft (cluster : ClusterModel) (place : PlaceModel) (out : List ℕ) (targets : List Target) : Type 0 where
  pub left : List Target
  pub some : All (Contains targets) left
  pub apart : AreApart cluster place left
  pub untouched : All (IsUntouched cluster place out) left
  pub many : length targets ≤ length left + length out

-- ---- what is heard

-- a listing that is heard: the device that showed it, and the step at which the reply was made
pub record Shown : Type 0 where
  pub device : ℕ
  pub at : ℕ
  pub listing : ListingModel

-- a reply of a place shows it
pub record IsMadeOf (scene : Scene) (place : PlaceModel) (shown : Shown) : Type 0 where
  pub reply : Reply
  pub msg : Msg
  pub was_made : WasMade scene (record { at = shown.at; device = shown.device; msg = msg; reply = reply })
  pub there : place_in msg ≡ Some place
  pub shows : HasListing reply shown.listing

-- a handoff is heard before a primary
pub record IsHeardBefore (heard : List Shown) (handoff primary : ℕ) : Type 0 where
  pub first : Shown
  pub second : Shown
  pub has_first : Contains heard first
  pub has_second : Contains heard second
  pub first_is : first.device ≡ handoff
  pub second_is : second.device ≡ primary
  pub order : first.at < second.at

-- These listings of a place are heard, none before a step; every device of the cluster is heard but some that are out, handoffs before
-- primaries; and no other device was lost since an earlier step.
pub record AreHeard (scene : Scene) (place : PlaceModel) (start since : ℕ) (out : List ℕ) (heard : List Shown) : Type 0 where
  pub made : (shown : Shown) → Contains heard shown → IsMadeOf scene place shown
  pub not_before : (shown : Shown) → Contains heard shown → since ≤ shown.at
  pub each : (device : ℕ) → IsMember scene.cluster device → (Contains out device → ⊥) → (shown : Shown) × Contains heard shown × (shown.device ≡ device)
  pub order : (handoff primary : ℕ) → IsMember scene.cluster handoff → IsMember scene.cluster primary → (Contains out handoff → ⊥) → (Contains out primary → ⊥)
      → is_primary scene.cluster handoff place ≡ false → is_primary scene.cluster primary place ≡ true → IsHeardBefore heard handoff primary
  pub lost : (device : ℕ) → IsLostSince scene device start → Contains out device

-- some listing that is heard shows such a floor
abbrev pub IsFloorHeard : List Shown → (Floor → Type 0) → Type 0
IsFloorHeard heard P = (shown : Shown) × Contains heard shown × (floor : Floor) × Contains (floors_in shown.listing) floor × P floor

-- a floor is another, or stands above its stamp
abbrev pub Reaches : Floor → Floor → Type 0
Reaches other floor = (floor ≡ other) ⊎ StandsAbove floor other.stamp

-- ---- what had been answered

-- before a step a device answered that it has made its fragment of an index durable
abbrev pub WasCommitted : Scene → PlaceModel → (stamp by : ℕ) → Target → Type 0
WasCommitted scene place stamp by target =
    (made : Made) × WasMade scene made × (made.at < by) × (made.device ≡ target.device) × (made.msg ≡ message.Commit place stamp target.index) × (made.reply ≡ reply.Committed)

-- or that it has a tombstone
abbrev pub WasBuried : Scene → PlaceModel → (stamp by device : ℕ) → Type 0
WasBuried scene place stamp by device = (made : Made) × WasMade scene made × (made.at < by) × (made.device ≡ device) × (made.msg ≡ message.Delete place stamp) × ((existed : Bool) × (made.reply ≡ reply.Deleted existed))

-- a device that is not out is heard to list an entry of the index at the stamp
abbrev pub IsListed : (out : List ℕ) → List Shown → (stamp : ℕ) → Target → Type 0
IsListed out heard stamp target =
    (Contains out target.device → ⊥)
    × ((shown : Shown) × Contains heard shown × (shown.device ≡ target.device) × (durable : Bool) × Contains shown.listing.entries (record { stamp = stamp; index = target.index; durable = durable }))
