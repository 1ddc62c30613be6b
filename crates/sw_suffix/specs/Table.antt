-- A table of floors, and the hashes of suffixes that it gives.
use Rattle.std.specs.Prelude.{◌≡◌, ◌≢◌, ◌⊎◌, ◌↔◌, ℕ, ◌<◌, Bool, ◌&&◌, nat_eq, if◌then◌else◌, List, [], ◌∷◌, Contains, filter, map, Option, Some, None}
use Rattle.std.specs.List.{All, AllPairs}
use Rattle.std.specs.Cmp.Lexicographic.{pointwise, slice_cmp}
use Rattle.std.specs.Ordering.{nat_cmp}
use Rattle.std.specs.declared.cmp.Ordering.TheVariants.{Less}
use Rattle.md5.specs.Md5.{md5}
use Rattle.sw_hashpath.specs.Place.{PlaceModel}
use Rattle.sw_hashdir.specs.declared.floor.Floor.{Floor}
use Rattle.sw_suffix.specs.Suffix.{suffix_number, suffix_text}

-- the partitions' power, and each place that has a floor, with it
pub record SuffixTableModel : Type 0 where
  pub power : ℕ
  pub floors : List (PlaceModel × Floor)

-- by partition, then by suffix, then by hash
abbrev pub IsBefore : (a b : PlaceModel × Floor) → Type 0
IsBefore a b =
    (a.0.part < b.0.part) ⊎ ((a.0.part ≡ b.0.part) × ((suffix_number a.0.hash < suffix_number b.0.hash)
    ⊎ ((suffix_number a.0.hash ≡ suffix_number b.0.hash) × (slice_cmp nat_cmp a.0.hash b.0.hash ≡ Less))))

abbrev pub same_place : PlaceModel → PlaceModel → Bool
same_place a b = nat_eq a.part b.part && pointwise nat_eq a.hash b.hash

-- the floor of a place, if it has one
abbrev pub floor_at : PlaceModel → List (PlaceModel × Floor) → Option Floor
floor_at place [] = None
floor_at place (floor ∷ floors) = if same_place floor.0 place then Some floor.1 else floor_at place floors

-- one place has this floor or none, and all others have what they had
pub record IsSet (place : PlaceModel) (floor : Option Floor) (old new : List (PlaceModel × Floor)) : Type 0 where
  pub there : floor_at place new ≡ floor
  pub others : (other : PlaceModel) → other ≢ place → floor_at other new ≡ floor_at other old

-- the floors in a suffix of a partition, in their order
abbrev pub in_suffix : (part suffix : ℕ) → List (PlaceModel × Floor) → List (PlaceModel × Floor)
in_suffix part suffix floors = filter (λ floor. nat_eq floor.0.part part && nat_eq (suffix_number floor.0.hash) suffix) floors

-- a suffix and its hash
abbrev pub Hashed : Type 0
Hashed = ℕ × List ℕ

abbrev pub suffixes_of : List Hashed → List ℕ
suffixes_of hashes = map (λ hash. hash.0) hashes

-- the suffixes of a partition in which a place has a floor, ascending, each with the hash of its floors from scratch
pub record AreHashes (part : ℕ) (floors : List (PlaceModel × Floor)) (hashes : List Hashed) : Type 0 where
  pub suffixes : (suffix : ℕ) → Contains (suffixes_of hashes) suffix ↔ (in_suffix part suffix floors ≢ [])
  pub ascend : AllPairs (λ a b. a.0 < b.0) hashes
  pub scratch : All (λ hash. hash.1 ≡ md5 (suffix_text (in_suffix part hash.0 floors))) hashes

-- the hash of a suffix in a list, which is the first that it has there
abbrev pub hash_at : ℕ → List Hashed → Option (List ℕ)
hash_at suffix [] = None
hash_at suffix (hash ∷ hashes) = if nat_eq hash.0 suffix then Some hash.1 else hash_at suffix hashes

-- the suffixes at which two lists differ, ascending
pub record AreDiffering (a b : List Hashed) (suffixes : List ℕ) : Type 0 where
  pub all : (suffix : ℕ) → Contains suffixes suffix ↔ (hash_at suffix a ≢ hash_at suffix b)
  pub ascend : AllPairs (λ x y. x < y) suffixes
