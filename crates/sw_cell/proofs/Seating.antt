-- The nodes of a cluster's devices, of which each in turn is that of the device at the next slot.
use Rattle.std.proofs.Common.{◌≡◌, ℕ, zero, suc, ◌+◌, ◌<◌, List, [], ◌∷◌, drop, length, Some, refl, ap, subst, sym, ◌∙◌, add-one}
use Rattle.std.specs.List.{AllZip, slice_get}
use Rattle.std.specs.Prelude.{option_map}
use Rattle.std.proofs.lemmas.Option.{slice_get-map, slice_get_within}
use Rattle.sw_disk.specs.Runs.{Seen}
use Rattle.sw_ring.specs.Cluster.{ClusterModel}
use Rattle.sw_ring.specs.declared.device.Device.{Device}
use Rattle.sw_objsrv.specs.Node.{NodeModel}
use Rattle.sw_pass.specs.Known.{HasSlot}
use Rattle.sw_cell.specs.Mounting.{HasBegun}

-- of those that are left from a slot on, the first is paired with the item at the slot
first_left : {A B : Type 0} (R : A → B → Type 0) (items : List A) (slot : ℕ) (other : B) (others : List B) → AllZip R (drop slot items) (other ∷ others)
    → (item : A) × (slice_get items slot ≡ Some item) × R item other × AllZip R (drop (suc slot) items) others
first_left R [] zero other others all = absurd all
first_left R [] (suc slot) other others all = absurd all
first_left R (item ∷ items) zero other others all = (item, refl, all.0, all.1)
first_left R (item ∷ items) (suc slot) other others all = first_left R items slot other others all

-- The node is that of the device at the slot, and these are the nodes of those behind it.
pub record IsNext {D : Type 0} (seen : D → Seen) (cluster : ClusterModel) (slot : ℕ) (node : NodeModel D) (others : List (NodeModel D)) : Type 0 where
  pub device : Device
  pub begun : HasBegun seen cluster device node
  pub inside : slot < length cluster.devices
  pub at : HasSlot cluster node.device slot
  pub behind : AllZip (HasBegun seen cluster) (drop (slot + 1) cluster.devices) others

-- so it is of the first of those that are left
pub is_next : {D : Type 0} (seen : D → Seen) (cluster : ClusterModel) (slot : ℕ) (left : List (NodeModel D)) (node : NodeModel D) (others : List (NodeModel D)) → left ≡ node ∷ others
    → AllZip (HasBegun seen cluster) (drop slot cluster.devices) left → IsNext seen cluster slot node others
is_next seen cluster slot left node others is all =
    let one = first_left (HasBegun seen cluster) cluster.devices slot node others (subst (AllZip (HasBegun seen cluster) (drop slot cluster.devices)) is all) in
    record {
      device = one.0;
      begun = one.2;
      inside = slice_get_within cluster.devices slot one.0 one.1;
      at = slice_get-map (λ (device : Device). device.id) cluster.devices slot ∙ ap (option_map (λ (device : Device). device.id)) one.1 ∙ ap Some (sym one.2.device_is);
      behind = rw add-one one.3;
    }
