use Rattle.std.proofs.Common.{◌≡◌, ℕ, false, List, Some, ap, refl, subst, sym, ◌∙◌}
use Rattle.std.specs.List.{slice_get}
use Rattle.std.specs.Vec.{with_items}
use Rattle.std.proofs.lemmas.List.{with_items_is}
use Rattle.sw_ring.specs.Ring.{is_among}
use Rattle.sw_message.specs.Message.{IsPlaceOf, place_in}
use Rattle.sw_sim_nodes.specs.Nodes.{AreNodes, CallsUp, IsHandledAt, MemNode, NodesModel, is_want}
use Rattle.sw_sim_nodes.proofs.Handling.{are_after, called}
use Rattle.sw_sim_nodes.proofs.Placing.{node_at}
use Rattle.sw_sim_nodes.proofs.nodes.NodesLink.call.Goals as goal
use Rattle.sw_sim_nodes.proofs.nodes.NodesLink.call.Goals.{else-self, then-self}

abbrev all : goal.After-self-3-1 → NodesModel
all c = record { cluster = c.self.inside.cluster.now; nodes = c.self.inside.nodes.items; down = c.self.inside.down.items; lost = c.self.inside.lost; is_wanting = c.self.inside.is_wanting }

-- one of the nodes handled the message
handled : (c : goal.After-self-3-1) → IsHandledAt c.self.inside.cluster.now c.unwrap-slot.result c.args.msg.now c.handle_at-reply.result c.self.inside.nodes.items c.handle_at-reply.new.nodes
handled c = subst (λ (nodes : List MemNode). IsHandledAt c.self.inside.cluster.now c.unwrap-slot.result c.args.msg.now c.handle_at-reply.result nodes c.handle_at-reply.new.nodes) c.deref_mut.ensures.value c.handle_at-reply.ensures

items : (c : goal.After-self-3-1) → (with_items c.self.inside.nodes c.handle_at-reply.new.nodes).items ≡ c.handle_at-reply.new.nodes
items c = with_items_is c.self.inside.nodes c.handle_at-reply.new.nodes (c.handle_at-reply.auto.nodes ∙ c.deref_mut.ensures.len)

-- they want no memory now where none did before and the reply doesn't say so
says : (c : goal.After-self-3-1) → c.if-self.self ≡ false → (c.self.inside.is_wanting ≡ false) × (is_want c.handle_at-reply.result ≡ false)
says c = elim c.if-self.branch [
  | then-self w ↦ λ goes. let is = w.self-is in absurd (cc)
  | else-self w ↦ λ goes. (w.if-self.false, sym w.is_want-self-inside.ensures ∙ sym w.self-is ∙ goes)
]

cause : (c : goal.After-self-3-1) → c.self.inside.is_wanting ≡ false → c.if-self.self ≡ is_want c.handle_at-reply.result
cause c = elim c.if-self.branch [
  | then-self w ↦ λ goes. let is = w.if-self.true in absurd (cc)
  | else-self w ↦ λ goes. w.self-is ∙ w.is_want-self-inside.ensures
]

there : (c : goal.After-self-3-1) → (node : MemNode) × (slice_get (all c).nodes c.unwrap-slot.result ≡ Some node) × (node.device ≡ c.args.device)
there c = node_at (all c) c.args.self.now c.self.view_is c.args.device c.slot_of.result c.unwrap-slot.result c.unwrap-slot.ensures c.slot_of.ensures.slot

-- of the device
mine : (c : goal.After-self-3-1) → (handled c).old.device ≡ c.args.device
mine c =
    let same : (handled c).old ≡ (there c).0 = let first = (handled c).at in let second = (there c).1 in cc in
    ap (λ (node : MemNode). node.device) same ∙ (there c).2

up : (c : goal.After-self-3-1) → is_among (all c).down (handled c).old.device ≡ false
up c = ap (λ (id : ℕ). is_among (all c).down id) (mine c) ∙ ap (λ (model : NodesModel). is_among model.down c.args.device) c.self.view_is ∙ sym c.is_down.ensures ∙ c.if-is_down.false

pub invariant_of-self-2 : goal.invariant_of-self-2
invariant_of-self-2 c =
    let right = subst (λ (model : NodesModel). IsPlaceOf model.cluster (place_in c.args.msg.now)) (sym c.self.view_is) (c.requires.known c.args.self.now.cluster refl).place in
    subst (λ (nodes : List MemNode). AreNodes (record (all c) { nodes = nodes; is_wanting = c.if-self.self })) (sym (items c))
    (are_after (all c) c.self.invariant c.unwrap-slot.result c.args.msg.now c.handle_at-reply.result c.handle_at-reply.new.nodes (handled c) right (up c) c.if-self.self (says c))

pub returns-clause-calls : goal.returns-clause-calls
returns-clause-calls c =
    let up = ap (λ (model : NodesModel). is_among model.down c.args.device) c.self.view_is ∙ sym c.is_down.ensures ∙ c.if-is_down.false in
    let calls = called (all c) c.self.invariant c.unwrap-slot.result c.args.msg.now c.handle_at-reply.result c.handle_at-reply.new.nodes (handled c) c.args.device up (mine c) c.if-self.self (says c) (cause c) in
    subst (λ (before : NodesModel). CallsUp before c.args.device c.args.msg.now c.handle_at-reply.result (record (all c) { nodes = (with_items c.self.inside.nodes c.handle_at-reply.new.nodes).items; is_wanting = c.if-self.self }))
    c.self.view_is
    (subst (λ (nodes : List MemNode). CallsUp (all c) c.args.device c.args.msg.now c.handle_at-reply.result (record (all c) { nodes = nodes; is_wanting = c.if-self.self })) (sym (items c)) calls)
