-- How a table's floors are kept: by keys, in their order.
use Rattle.std.specs.Prelude.{◌≡◌, ℕ, List, map}
use Rattle.std.specs.Cmp.Lexicographic.{slice_cmp}
use Rattle.std.specs.List.{All}
use Rattle.std.specs.Map.{lookup}
use Rattle.std.specs.BTreeMap.{is_at}
use Rattle.std.specs.Ordering.{nat_cmp, ordering_then}
use Rattle.std.specs.declared.cmp.Ordering.{Ordering}
use Rattle.std.specs.Option.{IfSome}
use Rattle.md5.specs.Md5.{md5}
use Rattle.sw_hashpath.specs.Place.{IsHash, IsPlace, PlaceModel}
use Rattle.sw_hashdir.specs.declared.floor.Floor.{Floor}
use Rattle.sw_suffix.specs.Suffix.{suffix_number, suffix_text}
use Rattle.sw_suffix.specs.Table.{in_suffix}
use Rattle.sw_suffix.specs.declared.key.Key.{Key}

-- the key of a place
abbrev pub key_of : PlaceModel → Key
key_of place = record { part = place.part; suffix = suffix_number place.hash; hash = place.hash }

abbrev pub key_place : Key → PlaceModel
key_place key = record { part = key.part; hash = key.hash }

-- by partition, then by suffix, then by hash
abbrev pub key_cmp : Key → Key → Ordering
key_cmp a b = ordering_then (nat_cmp a.part b.part) (ordering_then (nat_cmp a.suffix b.suffix) (slice_cmp nat_cmp a.hash b.hash))

abbrev pub Entries : Type 0
Entries = List (Key × Floor)

-- the floors that entries keep, each at its place
abbrev pub floors_of : Entries → List (PlaceModel × Floor)
floors_of entries = map (λ entry. (key_place entry.0, entry.1)) entries

-- a key has a hash and its suffix
pub record IsKey (key : Key) : Type 0 where
  pub suffix : key.suffix ≡ suffix_number key.hash
  pub hash : IsHash key.hash

abbrev pub AreSound : Entries → Type 0
AreSound entries = All (λ entry. IsKey entry.0) entries

-- each place is that of its hash
abbrev pub AreRight : ℕ → Entries → Type 0
AreRight power entries = All (λ entry. IsPlace power (key_place entry.0)) entries

-- by partition, then by suffix
abbrev pub suffix_cmp : ℕ × ℕ → ℕ × ℕ → Ordering
suffix_cmp a b = ordering_then (nat_cmp a.0 b.0) (nat_cmp a.1 b.1)

-- each hash that is kept is that from scratch
pub record AreKept (floors : List (PlaceModel × Floor)) (kept : List ((ℕ × ℕ) × List ℕ)) : Type 0 where
  pub scratch : (part suffix : ℕ) → IfSome (lookup (is_at (suffix_cmp (part, suffix))) kept) (λ hash. hash ≡ md5 (suffix_text (in_suffix part suffix floors)))
