use Rattle.std.proofs.Common.{rules, ◌≡◌, ℕ, ◌==◌, ◌&&◌, false, true, not, List, None, Some, ap, filter, subst, sym, ◌∙◌}
use Rattle.std.specs.List.{slice_get}
use Rattle.std.specs.Vec.{with_items}
use Rattle.std.proofs.lemmas.Bool.{true≢false}
use Rattle.std.proofs.lemmas.Fn.{filter_same}
use Rattle.std.proofs.lemmas.List.{with_items_is}
use Rattle.sw_ring.specs.Ring.{is_among}
use Rattle.sw_objsrv.specs.Mounting.{fault_of}
use Rattle.sw_sim_nodes.specs.Nodes.{AreNodes, IsRemountedAt, MemNode, NodesModel, Restarts}
use Rattle.sw_sim_nodes.proofs.Down.{among_fewer}
use Rattle.sw_sim_nodes.proofs.Placing.{node_at}
use Rattle.sw_sim_nodes.proofs.Restarting.{are_remounted, no_fault, others_stay, restarts}
use Rattle.sw_sim_nodes.proofs.nodes.Nodes.restart.Goals as goal

-- ---- where the mount was refused

pub invariant_of-self : goal.invariant_of-self
invariant_of-self c =
    let all : NodesModel = record { cluster = c.self.inside.cluster.now; nodes = c.self.inside.nodes.items; down = c.self.inside.down.items; lost = c.self.inside.lost; is_wanting = c.self.inside.is_wanting } in
    let goes : c.self.inside.is_wanting ≡ false = ap (λ (model : NodesModel). model.is_wanting) c.self.view_is ∙ c.requires.goes_on in
    let again = subst (λ (nodes : List MemNode). IsRemountedAt c.self.inside.cluster.now c.unwrap-slot.result (fault_of c.remount_at.result) nodes c.remount_at.new.nodes) c.deref_mut.ensures.value c.remount_at.ensures in
    subst (λ (nodes : List MemNode). AreNodes (record all { nodes = nodes; is_wanting = true })) (sym (with_items_is c.self.inside.nodes c.remount_at.new.nodes (c.remount_at.auto.nodes ∙ c.deref_mut.ensures.len)))
    (are_remounted all c.self.invariant goes c.unwrap-slot.result (fault_of c.remount_at.result) c.remount_at.new.nodes again c.self.inside.down.items true (λ is. absurd (true≢false is)) (λ _ _ stays. stays))

-- ---- where it was done

abbrev all : goal.After-retain → NodesModel
all c = record { cluster = c.self.inside.cluster.now; nodes = c.self.inside.nodes.items; down = c.self.inside.down.items; lost = c.self.inside.lost; is_wanting = c.self.inside.is_wanting }

goes : (c : goal.After-retain) → c.self.inside.is_wanting ≡ false
goes c = ap (λ (model : NodesModel). model.is_wanting) c.self.view_is ∙ c.requires.goes_on

again : (c : goal.After-retain) → IsRemountedAt c.self.inside.cluster.now c.unwrap-slot.result (fault_of c.remount_at.result) c.self.inside.nodes.items c.remount_at.new.nodes
again c = subst (λ (nodes : List MemNode). IsRemountedAt c.self.inside.cluster.now c.unwrap-slot.result (fault_of c.remount_at.result) nodes c.remount_at.new.nodes) c.deref_mut.ensures.value c.remount_at.ensures

none : (c : goal.After-retain) → fault_of c.remount_at.result ≡ None
none c = no_fault c.remount_at.result (sym c.is_err.ensures.value ∙ c.if-is_err.false)

items : (c : goal.After-retain) → (with_items c.self.inside.nodes c.remount_at.new.nodes).items ≡ c.remount_at.new.nodes
items c = with_items_is c.self.inside.nodes c.remount_at.new.nodes (c.remount_at.auto.nodes ∙ c.deref_mut.ensures.len)

fewer : (c : goal.After-retain) → c.retain.new.self.items ≡ filter (λ (one : ℕ). not (one == c.args.device)) c.self.inside.down.items
fewer c = filter_same _ _ _ (λ x b f' k. search rules) _ _ c.retain.ensures.filtered

are_fewer : (c : goal.After-retain) → (other : ℕ) → is_among c.retain.new.self.items other ≡ (is_among c.self.inside.down.items other && not (other == c.args.device))
are_fewer c other = ap (λ (down : List ℕ). is_among down other) (fewer c) ∙ among_fewer c.args.device c.self.inside.down.items other

there : (c : goal.After-retain) → (node : MemNode) × (slice_get (all c).nodes c.unwrap-slot.result ≡ Some node) × (node.device ≡ c.args.device)
there c = node_at (all c) c.args.self.now c.self.view_is c.args.device c.slot_of.result c.unwrap-slot.result c.unwrap-slot.ensures c.slot_of.ensures.slot

-- of the device
mine : (c : goal.After-retain) → (again c).old.device ≡ c.args.device
mine c =
    let same : (again c).old ≡ (there c).0 = let first = (again c).at in let second = (there c).1 in cc in
    ap (λ (node : MemNode). node.device) same ∙ (there c).2

pub invariant_of-self-2 : goal.invariant_of-self-2
invariant_of-self-2 c = subst (λ (nodes : List MemNode). AreNodes (record (all c) { nodes = nodes; down = c.retain.new.self.items })) (sym (items c))
    (are_remounted (all c) c.self.invariant (goes c) c.unwrap-slot.result (fault_of c.remount_at.result) c.remount_at.new.nodes (again c) c.retain.new.self.items c.self.inside.is_wanting (λ _. none c)
    (others_stay (all c) c.self.invariant (goes c) c.unwrap-slot.result (fault_of c.remount_at.result) c.remount_at.new.nodes (again c) c.args.device c.retain.new.self.items (mine c) (are_fewer c)))

was_down : (c : goal.After-retain) → is_among c.self.inside.down.items c.args.device ≡ true
was_down c = ap (λ (model : NodesModel). is_among model.down c.args.device) c.self.view_is ∙ sym c.is_down.ensures ∙ c.if-not-is_down.false

pub returns-clause-restarts : goal.returns-clause-restarts
returns-clause-restarts c = subst (λ (before : NodesModel). Restarts before c.args.device (record (all c) { nodes = (with_items c.self.inside.nodes c.remount_at.new.nodes).items; down = c.retain.new.self.items })) c.self.view_is
    (subst (λ (nodes : List MemNode). Restarts (all c) c.args.device (record (all c) { nodes = nodes; down = c.retain.new.self.items })) (sym (items c))
    (restarts (all c) c.self.invariant (goes c) c.unwrap-slot.result (fault_of c.remount_at.result) c.remount_at.new.nodes (again c) c.args.device c.retain.new.self.items (none c) (mine c) (was_down c) (are_fewer c)))
