-- Where archives of a stamp may be fetched from, by what devices list.
use Rattle.std.specs.Prelude.{ℕ, ◌==◌, Bool, not, ◌&&◌, nat_lt, List, [], ◌∷◌, filter, flat_map, map}
use Rattle.sw_hashdir.specs.Listing.{ListingModel}
use Rattle.sw_hashdir.specs.declared.entry.Entry.{Entry}
use Rattle.sw_message.specs.Targets.{ascending}
use Rattle.sw_message.specs.declared.target.Target.{Target}

-- an entry is of the stamp, durable or not, and its index is below the total
abbrev pub is_listed : (total stamp : ℕ) → Entry → Bool
is_listed total stamp entry = entry.stamp == stamp && nat_lt entry.index total

abbrev pub entry_target : (device : ℕ) → Entry → Target
entry_target device entry = record { index = entry.index; device = device }

-- where a listing shows such entries
abbrev pub listed_at : (total stamp : ℕ) → ℕ × ListingModel → List Target
listed_at total stamp one = map (entry_target one.0) (filter (is_listed total stamp) one.1.entries)

-- the pairs of index and device that some listings show, ascending
abbrev pub choices_in : (total stamp : ℕ) → List (ℕ × ListingModel) → List Target
choices_in total stamp lists = ascending (flat_map (listed_at total stamp) lists)

abbrev pub has_index : ℕ → Target → Bool
has_index index target = target.index == index

abbrev pub same_target : Target → Target → Bool
same_target target other = other.index == target.index && other.device == target.device

-- the first candidate of each index
abbrev pub firsts : List Target → List Target
firsts [] = []
firsts (target ∷ targets) = target ∷ filter (λ (other : Target). not (has_index target.index other)) (firsts targets)
