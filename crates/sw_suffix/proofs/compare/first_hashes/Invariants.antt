use Rattle.std.proofs.Common.{◌≡◌, ℕ, take}
use Rattle.std.specs.BTreeMap.{get}
use Rattle.std.specs.Ordering.{nat_cmp}
use Rattle.sw_suffix.specs.Table.{hash_at}
use Rattle.sw_suffix.proofs.compare.first_hashes.Given as goal

-- the first hashes of those so far
abbrev pub invariant-loop-suffix : goal.invariant-loop-suffix
invariant-loop-suffix l = (suffix : ℕ) → get nat_cmp l.first suffix ≡ hash_at suffix (take l.suffix-index l.hashes)
