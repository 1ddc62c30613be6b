-- The order of floors, the greatest of some, and those that a listing shows.
use Rattle.std.specs.Prelude.{◌≡◌, ℕ, ◌==◌, Bool, true, false, not, ◌&&◌, ◌||◌, if◌then◌else◌, nat_lt, List, [], ◌∷◌, ◌++◌, filter, map, Contains, Option, Some, None}
use Rattle.sw_hashdir.specs.Directory.{IsAbove}
use Rattle.sw_hashdir.specs.Listing.{ListingModel}
use Rattle.sw_hashdir.specs.declared.entry.Entry.{Entry}
use Rattle.sw_hashdir.specs.declared.floor.Floor.{Floor}
use Rattle.sw_hashdir.specs.declared.floor.FloorKind.{FloorKind}
use Rattle.sw_hashdir.specs.declared.floor.FloorKind.TheVariants.{Durable, Tombstone}

abbrev pub is_tombstone : FloorKind → Bool
is_tombstone Durable = false
is_tombstone Tombstone = true

-- whether a floor is above another: its stamp is greater, or the stamps are equal and it alone is a tombstone
abbrev pub is_above : Floor → Floor → Bool
is_above floor other = nat_lt other.stamp floor.stamp || (floor.stamp == other.stamp && (is_tombstone floor.kind && not (is_tombstone other.kind)))

-- whether a floor stands above a stamp: its own is greater, or is that one and it is a tombstone
abbrev pub stands_above : Floor → ℕ → Bool
stands_above floor stamp = nat_lt stamp floor.stamp || (floor.stamp == stamp && is_tombstone floor.kind)

-- whether a floor refuses a tombstone: its stamp is greater, or equal and durable
abbrev pub refuses : Floor → ℕ → Bool
refuses floor stamp = nat_lt stamp floor.stamp || (floor.stamp == stamp && not (is_tombstone floor.kind))

-- the greater of the greatest so far and another
abbrev pub higher : Option Floor → Floor → Floor
higher None floor = floor
higher (Some best) floor = if is_above floor best then floor else best

abbrev pub highest_from : Option Floor → List Floor → Option Floor
highest_from best [] = best
highest_from best (floor ∷ floors) = highest_from (Some (higher best floor)) floors

-- the greatest of some floors
abbrev pub highest : List Floor → Option Floor
highest floors = highest_from None floors

-- it is one of them, and none is above it
abbrev pub IsHighest : List Floor → Option Floor → Type 0
IsHighest floors None = floors ≡ []
IsHighest floors (Some floor) = Contains floors floor × ((other : Floor) → Contains floors other → IsAbove other floor → ⊥)

abbrev pub durable_at : ℕ → Floor
durable_at stamp = record { stamp = stamp; kind = Durable }

abbrev pub durable_floor : Entry → Floor
durable_floor entry = durable_at entry.stamp

abbrev pub tombstone_floor : ℕ → Floor
tombstone_floor stamp = record { stamp = stamp; kind = Tombstone }

abbrev pub is_durable : Entry → Bool
is_durable entry = entry.durable

-- the durable entries and the tombstones that a listing shows, as floors
abbrev pub floors_in : ListingModel → List Floor
floors_in listing = map durable_floor (filter is_durable listing.entries) ++ map tombstone_floor listing.tombstones
