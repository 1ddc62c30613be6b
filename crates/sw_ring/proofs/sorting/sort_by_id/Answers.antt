use Rattle.std.proofs.Common.{◌<◌, List, length, map, arith, rules}
use Rattle.std.proofs.lemmas.List.{get_or-map, length-map}
use Rattle.std.proofs.lemmas.List.Sorted.{IsNonDecreasingBy-from_sort_by_key}
use Rattle.std.specs.List.Sorted.{IsNonDecreasing, IsNonDecreasingBy}
use Rattle.sw_ring.specs.declared.device.Device.{Device}
use Rattle.sw_ring.proofs.sorting.sort_by_id.Goals as goal

rising_ids : (devices : List Device) → IsNonDecreasingBy (λ device. device.id) devices → IsNonDecreasing (map (λ (device : Device). device.id) devices)
rising_ids devices rising i j d below within =
    let any : Device = record { id = 0; capacity = 0 } in
    let last : j < length devices = omega (arith, length-map devices (λ (device : Device). device.id)) in
    let first : i < length devices = omega arith in
    rw (get_or-map (λ (device : Device). device.id) devices i any d first, get_or-map (λ (device : Device). device.id) devices j any d last) (rising i j any below last)

pub returns-clause-sorted : goal.returns-clause-sorted
returns-clause-sorted c =
    (rising_ids _ (IsNonDecreasingBy-from_sort_by_key (λ device. device.id) _ c.sort_unstable_by_key.ensures.sorted (λ a r q k. search rules)))
