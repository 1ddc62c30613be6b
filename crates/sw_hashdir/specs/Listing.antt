-- What a directory lists.
use Rattle.std.specs.Prelude.{◌≡◌, ◌⊎◌, ◌↔◌, ℕ, ◌<◌, List, Contains}
use Rattle.std.specs.List.{AllPairs}
use Rattle.std.specs.Cmp.Lexicographic.{slice_cmp}
use Rattle.std.specs.Ordering.{nat_cmp}
use Rattle.std.specs.declared.cmp.Ordering.TheVariants.{Less}
use Rattle.sw_hashpath.specs.FileName.{file_name_text}
use Rattle.sw_hashpath.specs.declared.file_name.FileName.{FileName}
use Rattle.sw_hashpath.specs.declared.file_name.FileName.TheVariants.{Tombstone}
use Rattle.sw_hashdir.specs.Directory.{HasEntry}
use Rattle.sw_hashdir.specs.declared.entry.Entry.{Entry}

-- entries and tombstones
pub record ListingModel : Type 0 where
  pub entries : List Entry
  pub tombstones : List ℕ

-- by stamp, and then by index
abbrev pub IsBefore : Entry → Entry → Type 0
IsBefore a b = (a.stamp < b.stamp) ⊎ ((a.stamp ≡ b.stamp) × (a.index < b.index))

-- each entry and each tombstone of the names once, ascending
pub record IsListingOf (names : List FileName) (listing : ListingModel) : Type 0 where
  pub entries : (entry : Entry) → Contains listing.entries entry ↔ HasEntry names entry
  pub entries_ascend : AllPairs IsBefore listing.entries
  pub tombstones : (stamp : ℕ) → Contains listing.tombstones stamp ↔ Contains names (Tombstone stamp)
  pub tombstones_ascend : AllPairs (λ a b. a < b) listing.tombstones

-- by their texts
abbrev pub IsTextBefore : FileName → FileName → Type 0
IsTextBefore a b = slice_cmp nat_cmp (file_name_text a) (file_name_text b) ≡ Less
