-- The nodes of a cluster, each at the slot of its device.
use Rattle.std.proofs.Common.{◌≡◌, ◌≢◌, ℕ, ◌<◌, ◌==◌, ◌||◌, true, List, [], ◌∷◌, length, get_or, map, Option, None, Some, refl, sym, ap, subst, ◌∙◌, arith}
use Rattle.std.specs.Prelude.{IfSome, IsSome, is_some}
use Rattle.std.specs.List.{AllPairs, list_any, position, slice_get}
use Rattle.std.proofs.lemmas.Bool.{eqb-true}
use Rattle.std.proofs.lemmas.List.{get_or-map, length-map}
use Rattle.std.proofs.lemmas.List.Kept.{AllPairs-from_increasing}
use Rattle.std.proofs.lemmas.List.Quantifiers.{position-Some}
use Rattle.std.proofs.lemmas.Option.{slice_get-get_or}
use Rattle.sw_ring.specs.Cluster.{ids_of}
use Rattle.sw_ring.specs.Rules.{device_ids}
use Rattle.sw_ring.specs.declared.device.Device.{Device}
use Rattle.sw_message.specs.Message.{IsMember}
use Rattle.sw_ring.proofs.Positions.{position_any}
use Rattle.sw_sim_nodes.specs.Nodes.{AreNodes, MemNode, NodesModel, node_of}
use Rattle.sw_sim_nodes.proofs.Finding.{find_at}

abbrev pub device_in : MemNode → ℕ
device_in node = node.device

-- no two nodes are of one device
pub differ : (all : NodesModel) → AreNodes all → AllPairs (λ (a b : MemNode). a.device ≢ b.device) all.nodes
differ all are = λ i j d less within same.
    let ids : map device_in all.nodes ≡ ids_of all.cluster = are.each in
    let increase = subst (AllPairs (λ (a b : ℕ). a < b)) (sym ids) (AllPairs-from_increasing (ids_of all.cluster) are.rules.ascending) in
    let below = increase i j (device_in d) less (omega (arith, length-map all.nodes device_in, within)) in
    let first : get_or (map device_in all.nodes) i (device_in d) ≡ device_in (get_or all.nodes i d) = get_or-map device_in all.nodes i d (device_in d) (omega arith) in
    let second : get_or (map device_in all.nodes) j (device_in d) ≡ device_in (get_or all.nodes j d) = get_or-map device_in all.nodes j d (device_in d) within in
    omega arith

-- ---- the node of a device

-- some device has an id where it is among theirs
any_id : (id : ℕ) (devices : List Device) → list_any (λ (other : ℕ). other == id) (device_ids devices) ≡ list_any (λ (other : Device). other.id == id) devices
any_id id [] = refl
any_id id (first ∷ devices) = ap (λ rest. (first.id == id) || rest) (any_id id devices)

-- it has a slot there
pub some_slot : (id : ℕ) (devices : List Device) → is_some (position (λ (other : Device). other.id == id) devices) ≡ list_any (λ (other : ℕ). other == id) (device_ids devices)
some_slot id devices = position_any (λ (other : Device). other.id == id) devices ∙ sym (any_id id devices)

module _ (all : NodesModel) (are : AreNodes all) (device : ℕ) where
  -- a device of the cluster has a slot among its devices
  pub placed : IsMember all.cluster device → IsSome (position (λ (other : Device). other.id == device) all.cluster.devices)
  placed member = some (position (λ (other : Device). other.id == device) all.cluster.devices) (some_slot device all.cluster.devices ∙ member)
    where
      some : (found : Option ℕ) → is_some found ≡ true → IsSome found
      some None is = absurd (cc)
      some (Some slot) is = refl

  -- and there its node
  pub node_there : (slot : ℕ) → position (λ (other : Device). other.id == device) all.cluster.devices ≡ Some slot
      → (node : MemNode) × (slice_get all.nodes slot ≡ Some node) × (node.device ≡ device)
  node_there slot is = at_slot all.nodes refl
    where
      within : (d : Device) → (slot < length all.cluster.devices) × (((get_or all.cluster.devices slot d).id == device) ≡ true)
      within d = let at = position-Some (λ (other : Device). other.id == device) all.cluster.devices slot d is in (at.0, at.1)

      counted : (d : Device) → slot < length all.nodes
      counted d = omega (arith, (within d).0, length-map all.nodes device_in, length-map all.cluster.devices (λ (other : Device). other.id), ap length are.each)

      at_slot : (nodes : List MemNode) → all.nodes ≡ nodes → (node : MemNode) × (slice_get all.nodes slot ≡ Some node) × (node.device ≡ device)
      at_slot [] none = absurd (omega (arith, counted some_device, ap length none))
        where
          some_device : Device
          some_device = record { id = 0; capacity = 0 }
      at_slot (first ∷ nodes) is_there =
          let d : Device = record { id = first.device; capacity = 0 } in
          let node = get_or all.nodes slot first in
          let here = counted d in
          let ids : get_or (map device_in all.nodes) slot first.device ≡ get_or (ids_of all.cluster) slot first.device = ap (λ (ids : List ℕ). get_or ids slot first.device) are.each in
          let mine : get_or (map device_in all.nodes) slot first.device ≡ node.device = get_or-map device_in all.nodes slot first first.device here in
          let other : get_or (ids_of all.cluster) slot first.device ≡ (get_or all.cluster.devices slot d).id = get_or-map (λ (other : Device). other.id) all.cluster.devices slot d first.device (within d).0 in
          let named : (get_or all.cluster.devices slot d).id ≡ device = eqb-true _ _ (within d).1 in
          (node, slice_get-get_or all.nodes slot first here, sym mine ∙ ids ∙ other ∙ named)

  pub some_there : (found : Option ℕ) → found ≡ position (λ (other : Device). other.id == device) all.cluster.devices
      → IfSome found (λ slot. (node : MemNode) × (slice_get all.nodes slot ≡ Some node) × (node.device ≡ device))
  some_there None is = tt
  some_there (Some slot) is = node_there slot (sym is)

  -- which is found by the device
  pub named : (slot : ℕ) (node : MemNode) → slice_get all.nodes slot ≡ Some node → node.device ≡ device → node_of all.nodes device ≡ Some node
  named slot node at mine = subst (λ (id : ℕ). node_of all.nodes id ≡ Some node) mine (find_at device_in all.nodes slot node (differ all are) at)

-- the slot at which a node was found by its device
pub node_at : (inside all : NodesModel) → inside ≡ all → (device : ℕ) (found : Option ℕ) (slot : ℕ) → found ≡ Some slot → IfSome found (λ at. (node : MemNode) × (slice_get all.nodes at ≡ Some node) × (node.device ≡ device))
    → (node : MemNode) × (slice_get inside.nodes slot ≡ Some node) × (node.device ≡ device)
node_at inside all same device found slot is there =
    let node = subst (λ (at : Option ℕ). IfSome at (λ at. (node : MemNode) × (slice_get all.nodes at ≡ Some node) × (node.device ≡ device))) is there in
    (node.0, ap (λ (model : NodesModel). slice_get model.nodes slot) same ∙ node.1, node.2)
