-- The partition of a name is one of those that there are.
use Rattle.std.proofs.Common.{ℕ, ◌^◌, ◌<◌, ◌≤◌, List}
use Rattle.sw_types.specs.Name.{NameModel}
use Rattle.sw_hashpath.proofs.Laws.{part_below}
use Rattle.sw_hashpath.specs.Place.{hash_of, part_of}
use Rattle.sw_hashpath.proofs.Digests.{IsHash-md5}

pub name_below : (name : NameModel) (prefix suffix : List ℕ) (power : ℕ) → power ≤ 16 → part_of (hash_of name prefix suffix) power < 2 ^ power
name_below name prefix suffix power few = part_below (hash_of name prefix suffix) power (IsHash-md5 _)
