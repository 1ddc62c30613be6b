-- A cluster has devices.
use Rattle.std.proofs.Common.{◌≡◌, ◌<◌, ℕ, true, List, [], ◌∷◌, length, slice_index, arith}
use Rattle.std.proofs.lemmas.List.{length-map}
use Rattle.std.proofs.lemmas.Nat.{pow_pos}
use Rattle.sw_types.proofs.Policies.{bounds}
use Rattle.sw_ring.specs.Cluster.{ClusterModel, KeepsRules, column_of, ids_of}
use Rattle.sw_ring.specs.Ring.{is_among}

some_among : (ids : List ℕ) (id : ℕ) → is_among ids id ≡ true → 0 < length ids
some_among [] id is = absurd (cc)
some_among (first ∷ ids) id is = omega arith

-- The first partition has a device for each fragment, of which there is one at least.
pub some_id : (cluster : ClusterModel) → KeepsRules cluster → 0 < length (ids_of cluster)
some_id cluster rules =
    let some : 0 < length (column_of cluster 0) = omega (arith, length-map cluster.rows (λ row. slice_index row 0), rules.rows, (bounds cluster.policy rules.policy).some_data) in
    let among = rules.known 0 (pow_pos cluster.part_power) 0 0 some in
    some_among (ids_of cluster) _ among
