-- Where a device is found among those of the cluster it has its slot, and what stands at its slot is it.
use Rattle.std.proofs.Common.{◌≡◌, ℕ, ◌<◌, ◌==◌, ◌||◌, Bool, true, List, [], ◌∷◌, length, get_or, Option, Some, None, refl, sym, ap, subst, ◌∙◌, arith}
use Rattle.std.specs.Prelude.{IsSome, is_some}
use Rattle.std.specs.List.{list_any, position}
use Rattle.std.specs.Option.{option_map}
use Rattle.std.proofs.lemmas.Bool.{eqb-true}
use Rattle.std.proofs.lemmas.List.{get_or-map, length-map}
use Rattle.std.proofs.lemmas.List.Quantifiers.{position-Some}
use Rattle.std.proofs.lemmas.Option.{get_or_from_slice_get, slice_get-get_or, slice_get-map, slice_get_within}
use Rattle.sw_ring.specs.Cluster.{ClusterModel, KeepsRules, ids_of}
use Rattle.sw_ring.specs.Rules.{device_ids}
use Rattle.sw_ring.specs.declared.device.Device.{Device}
use Rattle.sw_ring.proofs.Positions.{position_any}
use Rattle.sw_message.specs.Message.{IsMember}
use Rattle.sw_pass.specs.Known.{HasSlot, slot_of}
use Rattle.sw_cell.specs.Locked.{LockedModel}
use Rattle.sw_cell.proofs.Slots.{slot_is}

-- ---- from a device to its slot

abbrev pub has_id : (device : ℕ) → Device → Bool
has_id device other = other.id == device

-- some device has an id where it is among theirs
any_id : (id : ℕ) (devices : List Device) → list_any (λ (other : ℕ). other == id) (device_ids devices) ≡ list_any (has_id id) devices
any_id id [] = refl
any_id id (first ∷ devices) = ap (λ rest. (first.id == id) || rest) (any_id id devices)

some_found : (found : Option ℕ) → is_some found ≡ true → IsSome found
some_found None is = absurd (cc)
some_found (Some slot) is = refl

module _ (cluster now : ClusterModel) (device : ℕ) (devices : List Device) (found : Option ℕ) (listed : devices ≡ now.devices) (same : now ≡ cluster) (is : found ≡ position (has_id device) devices) where
  among : found ≡ position (has_id device) cluster.devices
  among = is ∙ ap (position (has_id device)) (listed ∙ ap (λ (one : ClusterModel). one.devices) same)

  -- a device of the cluster is found
  pub is_found : IsMember cluster device → IsSome found
  is_found member = some_found found (ap is_some among ∙ position_any (has_id device) cluster.devices ∙ sym (any_id device cluster.devices) ∙ member)

  module _ (slot : ℕ) (at : found ≡ Some slot) where
    passes : (d : Device) → (slot < length cluster.devices) × (has_id device (get_or cluster.devices slot d) ≡ true)
    passes d = let first = position-Some (has_id device) cluster.devices slot d (sym among ∙ at) in (first.0, first.1)

    -- where it is found is its slot
    pub is_at : HasSlot cluster device slot
    is_at =
        let d : Device = record { id = 0; capacity = 0 } in
        let id_of : Device → ℕ = λ other. other.id in
        slice_get-map id_of cluster.devices slot ∙ ap (option_map id_of) (slice_get-get_or cluster.devices slot d (passes d).0) ∙ ap (λ (id : ℕ). Some id) (eqb-true _ _ (passes d).1)

    pub is_slot : KeepsRules now → slot_of cluster device ≡ slot
    is_slot rules = slot_is cluster device slot (subst KeepsRules same rules) is_at

-- ---- from a slot to its device

-- the device at the slot of an id has this id
pub id_at : (cluster : ClusterModel) (id slot : ℕ) (d : Device) → HasSlot cluster id slot → (get_or cluster.devices slot d).id ≡ id
id_at cluster id slot d has =
    let id_of : Device → ℕ = λ other. other.id in
    let within : slot < length cluster.devices = omega (arith, slice_get_within (ids_of cluster) slot id has, length-map cluster.devices id_of) in
    sym (get_or-map id_of cluster.devices slot d d.id within) ∙ get_or_from_slice_get (ids_of cluster) slot id d.id has

-- What stands behind a lock has the slot that it told.
pub told_slot : {D : Type 0} (taken value read : LockedModel D) (told number slot : ℕ) → taken ≡ value → read ≡ value → told ≡ read.slot → number ≡ told → number ≡ slot → taken.slot ≡ slot
told_slot {D} taken value read told number slot one other is same equal = ap (λ (locked : LockedModel D). locked.slot) (one ∙ sym other) ∙ sym is ∙ sym same ∙ equal
