-- The order in which a directory keeps its names.
use Rattle.std.specs.Prelude.{◌≡◌, ℕ, Bool, List, Option, Some, None}
use Rattle.std.specs.List.{AllPairs}
use Rattle.std.specs.Option.{option_cmp}
use Rattle.std.specs.Ordering.{bool_cmp, nat_cmp, ordering_then}
use Rattle.std.specs.declared.cmp.Ordering.{Ordering}
use Rattle.std.specs.declared.cmp.Ordering.TheVariants.{Less}
use Rattle.sw_hashpath.specs.declared.file_name.FileName.{FileName}
use Rattle.sw_hashpath.specs.declared.file_name.FileName.TheVariants.{Data, Tombstone}

-- a stamp, and an index with whether it is durable, or none for a tombstone
abbrev pub NameKey : Type 0
NameKey = ℕ × Option (ℕ × Bool)

abbrev pub name_key : FileName → NameKey
name_key (Data stamp index durable) = (stamp, Some (index, durable))
name_key (Tombstone stamp) = (stamp, None)

-- by stamp; of one stamp the tombstone first, and then by index, the plain name before the durable one
abbrev pub entry_key_cmp : ℕ × Bool → ℕ × Bool → Ordering
entry_key_cmp a b = ordering_then (nat_cmp a.0 b.0) (bool_cmp a.1 b.1)

abbrev pub key_cmp : NameKey → NameKey → Ordering
key_cmp a b = ordering_then (nat_cmp a.0 b.0) (option_cmp entry_key_cmp a.1 b.1)

abbrev pub name_cmp : FileName → FileName → Ordering
name_cmp a b = key_cmp (name_key a) (name_key b)

-- each name is before all later ones, so each stands there once
abbrev pub Ascend : List FileName → Type 0
Ascend names = AllPairs (λ a b. name_cmp a b ≡ Less) names
