-- One node of a cluster in the place of another of the same device.
use Rattle.std.proofs.Common.{◌≡◌, ◌≢◌, ⊎_elim, ℕ, Bool, false, List, [], Option, Some, refl, sym, ap, subst, ◌∙◌}
use Rattle.std.specs.List.{All, slice_get, slice_set}
use Rattle.std.proofs.Math.Seq.{map-set_same}
use Rattle.std.proofs.lemmas.Bool.{cases_eq}
use Rattle.std.proofs.lemmas.List.Elements.{All-set}
use Rattle.std.proofs.lemmas.Option.{get_or_from_slice_get, slice_get_within}
use Rattle.sw_memdisk.specs.Memory.{seen_of}
use Rattle.sw_ring.specs.Ring.{is_among}
use Rattle.sw_objsrv.specs.Node.{IsNode}
use Rattle.sw_law_scene.specs.Devices.{AreSame, capacity_of}
use Rattle.sw_sim_nodes.specs.Nodes.{AreNodes, IsSettledDisk, Loses, MemNode, NodesModel, devices_of, files_at, node_of}
use Rattle.sw_sim_nodes.proofs.Finding.{all_set, find_at, find_other, find_set}
use Rattle.sw_sim_nodes.proofs.Making.{IsFresh}
use Rattle.sw_sim_nodes.proofs.Placing.{device_in, differ}

module _ (all : NodesModel) (are : AreNodes all) (slot : ℕ) (old new : MemNode) (at : slice_get all.nodes slot ≡ Some old) (same : new.device ≡ old.device) where
  abbrev later : List MemNode
  later = slice_set all.nodes slot new

  -- what holds of each holds of that one
  pub old_is : (P : MemNode → Type 0) → All P all.nodes → P old
  old_is P each = subst P (get_or_from_slice_get all.nodes slot old old at) (each slot old (slice_get_within all.nodes slot old at))

  pub capacity_is : old.disk.capacity ≡ capacity_of all.cluster old.device
  capacity_is = old_is (λ (node : MemNode). node.disk.capacity ≡ capacity_of all.cluster node.device) are.capacities

  -- ---- what is found by a device

  pub found_before : node_of all.nodes old.device ≡ Some old
  found_before = find_at device_in all.nodes slot old (differ all are) at

  pub found_after : node_of later old.device ≡ Some new
  found_after = find_set device_in all.nodes slot old new (differ all are) at same

  pub found_other : (other : ℕ) → other ≢ old.device → node_of later other ≡ node_of all.nodes other
  found_other other differs = find_other device_in all.nodes slot old new other at same differs

  pub other_files : (other : ℕ) → other ≢ old.device → (name : List ℕ) → devices_of later other name ≡ devices_of all.nodes other name
  other_files other differs name = ap (λ (node : Option MemNode). files_at node name) (found_other other differs)

  -- where it has the same files, all devices have
  pub same_files : ((name : List ℕ) → files_at (Some new) name ≡ files_at (Some old) name) → AreSame (devices_of all.nodes) (devices_of later)
  same_files files device name = ⊎_elim
      (λ mine. subst (λ (id : ℕ). devices_of later id name ≡ devices_of all.nodes id name) (sym mine)
      (ap (λ (node : Option MemNode). files_at node name) found_after ∙ files name ∙ sym (ap (λ (node : Option MemNode). files_at node name) found_before)))
      (λ differs. other_files device differs name)
      (cases_eq device old.device)

  -- ---- they are still the nodes of the cluster

  -- the devices that are down now: of the others none comes up
  abbrev pub StaysDown : List ℕ → Type 0
  StaysDown down = (other : ℕ) → other ≢ old.device → is_among down other ≡ false → is_among all.down other ≡ false

  pub are_still : IsNode all.cluster seen_of new → new.disk.capacity ≡ capacity_of all.cluster new.device → (down : List ℕ) (lost : ℕ) (wanting : Bool) → (wanting ≡ false → all.is_wanting ≡ false) → StaysDown down
      → (wanting ≡ false → (is_among down new.device ≡ false → new.is_due ≡ false) × IsSettledDisk new.disk) → AreNodes (record { cluster = all.cluster; nodes = later; down = down; lost = lost; is_wanting = wanting })
  are_still is_node capacity down lost wanting went stays now = record {
    rules = are.rules;
    each = map-set_same device_in all.nodes slot new old (same ∙ ap device_in (sym (get_or_from_slice_get all.nodes slot old old at))) ∙ are.each;
    are = All-set (IsNode all.cluster seen_of) all.nodes slot new is_node are.are;
    capacities = All-set (λ (node : MemNode). node.disk.capacity ≡ capacity_of all.cluster node.device) all.nodes slot new capacity are.capacities;
    mounted = λ goes. all_set device_in (λ (node : MemNode). is_among all.down node.device ≡ false → node.is_due ≡ false) (λ (node : MemNode). is_among down node.device ≡ false → node.is_due ≡ false)
        all.nodes slot old new (differ all are) at (are.mounted (went goes)) (λ node differs mounted up. mounted (stays node.device differs up)) (now goes).0;
    settled = λ goes. All-set (λ (node : MemNode). IsSettledDisk node.disk) all.nodes slot new (now goes).1 (are.settled (went goes));
  }

  -- ---- a fresh node in its place

  module _ (fresh : IsFresh all.cluster new) where
    pub are_lost : AreNodes (record all { nodes = later })
    are_lost = are_still fresh.is_node fresh.capacity all.down all.lost all.is_wanting (λ goes. goes) (λ _ _ up. up) (λ _. (λ _. fresh.mounted, fresh.settled))

    pub loses : (device : ℕ) → old.device ≡ device → Loses all device (record all { nodes = later })
    loses device mine = record {
      after_is = refl;
      empty = λ name. subst (λ (id : ℕ). devices_of later id name ≡ []) mine (ap (λ (node : Option MemNode). files_at node name) found_after ∙ fresh.empty name);
      others = λ other differs name. other_files other (λ is. differs (is ∙ mine)) name;
    }
