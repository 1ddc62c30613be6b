use Rattle.std.proofs.Common.{◌≡◌, ℕ, ◌==◌, List, Some, get_or, ap, subst, sym, ◌∙◌}
use Rattle.std.specs.List.{position, slice_get, slice_set}
use Rattle.sw_ring.specs.declared.device.Device.{Device}
use Rattle.sw_sim_nodes.specs.Nodes.{Loses, MemNode, NodesModel}
use Rattle.sw_sim_nodes.proofs.Making.{IsFresh, capacity_found}
use Rattle.sw_sim_nodes.proofs.Placing.{node_at}
use Rattle.sw_sim_nodes.proofs.Replacing.{are_lost, loses}
use Rattle.sw_sim_nodes.proofs.nodes.Nodes.lose.Goals as goal

abbrev all : goal.After-drop-index_mut-5 → NodesModel
all c = record { cluster = c.self.inside.cluster.now; nodes = c.self.inside.nodes.items; down = c.self.inside.down.items; lost = c.self.inside.lost; is_wanting = c.self.inside.is_wanting }

there : (c : goal.After-drop-index_mut-5) → (node : MemNode) × (slice_get (all c).nodes c.unwrap-slot.result ≡ Some node) × (node.device ≡ c.args.device)
there c = node_at (all c) c.args.self.now c.self.view_is c.args.device c.slot_of.result c.unwrap-slot.result c.unwrap-slot.ensures c.slot_of.ensures.slot

fresh : (c : goal.After-drop-index_mut-5) → IsFresh c.self.inside.cluster.now c.in_ok-node.node
fresh c =
    let none : Device = record { id = 0; capacity = 0 } in
    record {
      is_node = c.in_ok-node.ensures.node;
      capacity =
          c.in_ok-node.ensures.capacity ∙ ap (λ (devices : List Device). (get_or devices c.unwrap-slot.result none).capacity) c.devices.ensures.listed
          ∙ capacity_found c.self.inside.cluster.now c.devices.ensures.rules c.in_ok-node.node.device c.unwrap-slot.result none (found c);
      mounted = c.in_ok-node.ensures.mounted;
      settled = c.in_ok-node.ensures.settled;
      empty = c.in_ok-node.ensures.empty;
    }
  where
    found : (c : goal.After-drop-index_mut-5) → position (λ (other : Device). other.id == c.in_ok-node.node.device) c.self.inside.cluster.now.devices ≡ Some c.unwrap-slot.result
    found c =
        ap (λ (id : ℕ). position (λ (other : Device). other.id == id) c.self.inside.cluster.now.devices) c.in_ok-node.ensures.device
        ∙ ap (λ (model : NodesModel). position (λ (other : Device). other.id == c.args.device) model.cluster.devices) c.self.view_is ∙ sym c.slot_of.ensures.found ∙ c.unwrap-slot.ensures

pub invariant_of-self : goal.invariant_of-self
invariant_of-self c = are_lost (all c) c.self.invariant c.unwrap-slot.result (there c).0 c.in_ok-node.node (there c).1 (c.in_ok-node.ensures.device ∙ sym (there c).2) (fresh c)

pub returns-clause-loses : goal.returns-clause-loses
returns-clause-loses c = subst (λ (before : NodesModel). Loses before c.args.device (record (all c) { nodes = slice_set c.self.inside.nodes.items c.unwrap-slot.result c.in_ok-node.node })) c.self.view_is
    (loses (all c) c.self.invariant c.unwrap-slot.result (there c).0 c.in_ok-node.node (there c).1 (c.in_ok-node.ensures.device ∙ sym (there c).2) (fresh c) c.args.device (there c).2)
