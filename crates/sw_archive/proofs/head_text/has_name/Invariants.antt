use Rattle.std.proofs.Common.{◌≡◌, ◌++◌, ℕ, List, length, drop, nat_eq}
use Rattle.std.specs.Cmp.Lexicographic.{pointwise}
use Rattle.std.specs.List.{flat_map, list_any}
use Rattle.sw_types.specs.Head.{Pair}
use Rattle.sw_archive.specs.Pairs.{AreAtFront}
use Rattle.sw_archive.specs.Parts.{pair_bytes}
use Rattle.sw_archive.proofs.head_text.has_name.Given as goal

abbrev pub invariant-loop : goal.invariant-loop
invariant-loop l = (pairs : List Pair) (rest : List ℕ) → AreAtFront l.bytes pairs rest → length pairs ≡ l.count →
    (l.rest ≡ flat_map pair_bytes (drop l.counter pairs) ++ rest)
    × (list_any (λ other. pointwise nat_eq other.0 l.name) pairs ≡ list_any (λ other. pointwise nat_eq other.0 l.name) (drop l.counter pairs))
