-- The nodes of some first devices, each on an empty disk.
use Rattle.std.proofs.Common.{◌≡◌, ◌≢◌, ℕ, ◌==◌, Bool, true, false, List, [], ◌∷◌, ◌++◌, get_or, map, Some, refl, sym, ap, ◌∙◌, arith}
use Rattle.std.specs.List.{All, AllPairs, find, position, slice_get}
use Rattle.std.proofs.lemmas.Bool.{eqb-true}
use Rattle.std.proofs.lemmas.List.{get_or-map, length-map, map-append}
use Rattle.std.proofs.lemmas.List.Elements.{All-append, All-cons, All-nil, All-head, All-tail}
use Rattle.std.proofs.lemmas.List.Kept.{AllPairs-from_increasing}
use Rattle.std.proofs.lemmas.List.Quantifiers.{position-Some}
use Rattle.std.proofs.lemmas.Option.{get_or_from_slice_get, slice_get-get_or, slice_get_within}
use Rattle.sw_diskfile.proofs.Lists.{Contains-map}
use Rattle.sw_memdisk.specs.Memory.{seen_of, state_of}
use Rattle.sw_ring.specs.Cluster.{ClusterModel, KeepsRules, ids_of}
use Rattle.sw_ring.specs.declared.device.Device.{Device}
use Rattle.sw_ring.proofs.Among.{among-from_Contains}
use Rattle.sw_message.specs.Message.{IsMember}
use Rattle.sw_objsrv.specs.Handling.{folders_of}
use Rattle.sw_objsrv.specs.Node.{IsNode}
use Rattle.sw_law_scene.specs.Devices.{capacity_in, capacity_of}
use Rattle.sw_sim_nodes.specs.Nodes.{AreNodes, IsSettledDisk, MemNode, devices_of, files_at}
use Rattle.sw_sim_nodes.proofs.Finding.{find_at}

-- a node of the cluster as it is made
pub record IsFresh (cluster : ClusterModel) (node : MemNode) : Type 0 where
  pub is_node : IsNode cluster seen_of node
  pub capacity : node.disk.capacity ≡ capacity_of cluster node.device
  pub mounted : node.is_due ≡ false
  pub settled : IsSettledDisk node.disk
  pub empty : (name : List ℕ) → folders_of (state_of node.disk) name ≡ []

pub record AreMade (cluster : ClusterModel) (devices : List Device) (nodes : List MemNode) : Type 0 where
  pub each : map (λ (node : MemNode). node.device) nodes ≡ map (λ (device : Device). device.id) devices
  pub fresh : All (IsFresh cluster) nodes

pub none_made : (cluster : ClusterModel) → AreMade cluster [] []
none_made cluster = record { each = refl; fresh = All-nil (IsFresh cluster) }

-- one more
pub made_more : (cluster : ClusterModel) (devices : List Device) (nodes : List MemNode) (device : Device) (node : MemNode) → AreMade cluster devices nodes → IsFresh cluster node → node.device ≡ device.id
    → AreMade cluster (devices ++ device ∷ []) (nodes ++ node ∷ [])
made_more cluster devices nodes device node made fresh same = record {
  each =
      map-append (λ (n : MemNode). n.device) nodes (node ∷ []) ∙ ap (λ (ids : List ℕ). ids ++ node.device ∷ []) made.each
      ∙ ap (λ (id : ℕ). map (λ (d : Device). d.id) devices ++ id ∷ []) same ∙ sym (map-append (λ (d : Device). d.id) devices (device ∷ []));
  fresh = All-append (IsFresh cluster) nodes (node ∷ []) made.fresh (All-cons (IsFresh cluster) node [] fresh (All-nil (IsFresh cluster)));
}

-- no file is in a fresh node's folders
pub all_empty : (cluster : ClusterModel) (nodes : List MemNode) → All (IsFresh cluster) nodes → (id : ℕ) (name : List ℕ) → devices_of nodes id name ≡ []
all_empty cluster [] fresh id name = refl
all_empty cluster (node ∷ nodes) fresh id name = pick (node.device == id) refl (all_empty cluster nodes (All-tail (IsFresh cluster) node nodes fresh) id name)
  where
    pick : (b : Bool) → (node.device == id) ≡ b → files_at (find (λ (other : MemNode). other.device == id) nodes) name ≡ [] → files_at (find (λ (other : MemNode). other.device == id) (node ∷ nodes)) name ≡ []
    pick true is rest = rw is ((All-head (IsFresh cluster) node nodes fresh).empty name)
    pick false is rest = rw is rest

-- they are the nodes of the cluster
pub are_made : (cluster : ClusterModel) → KeepsRules cluster → (nodes : List MemNode) → AreMade cluster cluster.devices nodes → AreNodes (record { cluster = cluster; nodes = nodes; down = []; lost = 0; is_wanting = false })
are_made cluster rules nodes made = record {
  rules = rules;
  each = made.each;
  are = λ k d within. (made.fresh k d within).is_node;
  capacities = λ k d within. (made.fresh k d within).capacity;
  mounted = λ goes k d within _. (made.fresh k d within).mounted;
  settled = λ goes k d within. (made.fresh k d within).settled;
}

-- ---- a device of the cluster

module _ (cluster : ClusterModel) (rules : KeepsRules cluster) (slot : ℕ) (device : Device) (at : slice_get cluster.devices slot ≡ Some device) where
  pub is_member : IsMember cluster device.id
  is_member = among-from_Contains (ids_of cluster) device.id (Contains-map (λ (d : Device). d.id) cluster.devices device (slot, slice_get_within cluster.devices slot device at, get_or_from_slice_get cluster.devices slot device device at))

  pub capacity_is : device.capacity ≡ capacity_of cluster device.id
  capacity_is = sym (ap capacity_in (find_at (λ (d : Device). d.id) cluster.devices slot device ids_differ at))
    where
      ids_differ : AllPairs (λ (a b : Device). a.id ≢ b.id) cluster.devices
      ids_differ = λ i j d less within same.
          let increase = AllPairs-from_increasing (ids_of cluster) rules.ascending in
          let below = increase i j d.id less (omega (arith, length-map cluster.devices (λ (d : Device). d.id), within)) in
          let first : get_or (ids_of cluster) i d.id ≡ (get_or cluster.devices i d).id = get_or-map (λ (d : Device). d.id) cluster.devices i d d.id (omega arith) in
          let second : get_or (ids_of cluster) j d.id ≡ (get_or cluster.devices j d).id = get_or-map (λ (d : Device). d.id) cluster.devices j d d.id within in
          omega arith

-- one that was found by its id
pub capacity_found : (cluster : ClusterModel) → KeepsRules cluster → (id slot : ℕ) (d : Device) → position (λ (other : Device). other.id == id) cluster.devices ≡ Some slot → (get_or cluster.devices slot d).capacity ≡ capacity_of cluster id
capacity_found cluster rules id slot d found =
    let at = position-Some (λ (other : Device). other.id == id) cluster.devices slot d found in
    capacity_is cluster rules slot (get_or cluster.devices slot d) (slice_get-get_or cluster.devices slot d at.0) ∙ ap (capacity_of cluster) (eqb-true (get_or cluster.devices slot d).id id at.1)
