-- The slot of a device is where its id stands among those of the cluster, and no two devices have one slot.
use Rattle.std.proofs.Common.{◌≡◌, ℕ, zero, suc, ◌<◌, if◌then◌else◌, List, [], ◌∷◌, length, Some, sym, ap, ◌∙◌, subst, arith}
use Rattle.std.specs.List.{AllPairs, slice_get}
use Rattle.std.proofs.lemmas.Bool.{eq-eqb, ne_eqb}
use Rattle.std.proofs.lemmas.List.Kept.{AllPairs-from_increasing}
use Rattle.std.proofs.lemmas.Option.{get_or_from_slice_get, slice_get_within}
use Rattle.sw_ring.specs.Cluster.{ClusterModel, KeepsRules, ids_of}
use Rattle.sw_ring.proofs.Among.{among-from_Contains}
use Rattle.sw_message.specs.Message.{IsMember}
use Rattle.sw_pass.specs.Known.{HasSlot, slot_in, slot_of}

-- an id is found first where it stands, as the ids before it are less
slot_at : (ids : List ℕ) (device slot : ℕ) → AllPairs (λ one other. one < other) ids → slice_get ids slot ≡ Some device → slot_in ids device ≡ slot
slot_at [] device slot ascending has = absurd (cc)
slot_at (id ∷ ids) device zero ascending has =
    let same : id ≡ device = cc in
    ap (λ b. if b then 0 else suc (slot_in ids device)) (eq-eqb id device same)
slot_at (id ∷ ids) device (suc slot) ascending has =
    let within : slot < length ids = slice_get_within ids slot device has in
    let less : id < device = subst (λ other. id < other) (get_or_from_slice_get ids slot device 0 has) (ascending 0 (suc slot) 0 (omega arith) (omega arith)) in
    ap (λ b. if b then 0 else suc (slot_in ids device)) (ne_eqb id device (λ same. omega arith))
    ∙ ap suc (slot_at ids device slot (λ i j d before inside. ascending (suc i) (suc j) d (omega arith) (omega arith)) has)

pub slot_is : (cluster : ClusterModel) (device slot : ℕ) → KeepsRules cluster → HasSlot cluster device slot → slot_of cluster device ≡ slot
slot_is cluster device slot rules has = slot_at (ids_of cluster) device slot (AllPairs-from_increasing (ids_of cluster) rules.ascending) has

pub one_device : (cluster : ClusterModel) (device other slot : ℕ) → HasSlot cluster device slot → HasSlot cluster other slot → device ≡ other
one_device cluster device other slot has also = let both : Some device ≡ Some other = sym has ∙ also in cc

-- a device that has a slot is one of the cluster
pub slot_member : (cluster : ClusterModel) (device slot : ℕ) → HasSlot cluster device slot → IsMember cluster device
slot_member cluster device slot at =
    among-from_Contains (ids_of cluster) device (slot, slice_get_within (ids_of cluster) slot device at, get_or_from_slice_get (ids_of cluster) slot device device at)
