-- The primaries of a partition, where a cluster keeps the rules.
use Rattle.std.proofs.Common.{◌≡◌, ℕ, ◌+◌, ◌^◌, ◌<◌, ◌==◌, true, false, nat_lt, length, slice_index, get_or, Some, refl, ◌∙◌, arith}
use Rattle.std.specs.List.{position, position_or_len}
use Rattle.std.proofs.lemmas.Bool.Decides.{nat_tests}
use Rattle.std.proofs.lemmas.List.{length-map}
use Rattle.std.proofs.lemmas.List.Sums.{position_or_len_is}
use Rattle.sw_ring.specs.Cluster.{ClusterModel, KeepsRules, column_of, ids_of}
use Rattle.sw_ring.specs.Ring.{is_among}

-- there is one for each fragment
pub column_length : (cluster : ClusterModel) (part : ℕ) → KeepsRules cluster → length (column_of cluster part) ≡ cluster.policy.k + cluster.policy.m
column_length cluster part rules = length-map cluster.rows (λ row. slice_index row part) ∙ rules.rows

-- each is a device of the cluster
pub primary_known : (cluster : ClusterModel) (part index : ℕ) → KeepsRules cluster → part < 2 ^ cluster.part_power → index < cluster.policy.k + cluster.policy.m
    → is_among (ids_of cluster) (slice_index (column_of cluster part) index) ≡ true
primary_known cluster part index rules there below = rules.known part there index 0 (omega (arith, column_length cluster part rules, below))

differs : (a b : ℕ) → ¬ (a ≡ b) → (a == b) ≡ false
differs a b h = grind (arith, nat_tests)

-- the primary of an index is that of no other
pub primary_index : (cluster : ClusterModel) (part index : ℕ) → KeepsRules cluster → part < 2 ^ cluster.part_power → index < cluster.policy.k + cluster.policy.m
    → position (λ id. id == slice_index (column_of cluster part) index) (column_of cluster part) ≡ Some index
primary_index cluster part index rules there below =
    let column = column_of cluster part in
    let device : ℕ = slice_index column index in
    let within : index < length column = omega (arith, column_length cluster part rules, below) in
    let here : (device == device) ≡ true = grind (arith, nat_tests) in
    let position : position_or_len (λ id. id == device) column ≡ index =
    position_or_len_is (λ id. id == device) column index 0 (omega arith) (λ k before. differs (get_or column k 0) device (rules.apart part there k index 0 before within)) (λ inside. here) in
    let found : nat_lt index (length column) ≡ true = grind (arith, nat_tests) in
    rw (position, found) refl
