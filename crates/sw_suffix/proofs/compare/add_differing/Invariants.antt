use Rattle.std.proofs.Common.{◌≢◌, take}
use Rattle.std.specs.BTreeMap.{get}
use Rattle.std.specs.BTreeSet.{contains}
use Rattle.std.specs.Ordering.{nat_cmp}
use Rattle.sw_suffix.proofs.Gathered.{Adds}
use Rattle.sw_suffix.proofs.compare.add_differing.Given as goal

-- what the clauses say, of the hashes so far
abbrev pub invariant-loop-suffix : goal.invariant-loop-suffix
invariant-loop-suffix l = Adds (λ suffix. get nat_cmp l.first suffix ≢ get nat_cmp l.second suffix) (contains nat_cmp l.fn.suffixes) (contains nat_cmp l.suffixes) (take l.suffix-index l.hashes)
