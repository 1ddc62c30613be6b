use Rattle.std.proofs.Common.{◌≡◌, inr, ℕ, ◌==◌, ◌||◌, ◌++◌, ◌∷◌, [], Bool, cond, false, true, not, List, Some, ap, subst, sym, ◌∙◌}
use Rattle.std.specs.List.{slice_get}
use Rattle.std.specs.Result.{is_ok}
use Rattle.std.specs.Vec.{with_items}
use Rattle.std.proofs.lemmas.Bool.{true≢false}
use Rattle.std.proofs.lemmas.List.{with_items_is}
use Rattle.sw_ring.specs.Ring.{is_among}
use Rattle.sw_message.specs.Message.{IsPlaceOf, place_in}
use Rattle.sw_sim_nodes.specs.Crashing.{Crashes, IsCrashedAt, WantsMemory}
use Rattle.sw_sim_nodes.specs.Nodes.{AreNodes, MemNode, NodesModel}
use Rattle.sw_sim_nodes.proofs.CrashedNodes.{are_crashed, crashes, is_down, none_up}
use Rattle.sw_sim_nodes.proofs.Down.{among_more}
use Rattle.sw_sim_nodes.proofs.Placing.{node_at}
use Rattle.sw_sim_nodes.proofs.nodes.Nodes.crash.Goals as goal
use Rattle.sw_sim_nodes.proofs.nodes.Nodes.crash.Goals.{After-crash_at}

-- the device is down, with those that were
down_more : (down later : List ℕ) (device : ℕ) (done : Bool) → later ≡ cond done (down ++ device ∷ []) down → done ≡ true → (other : ℕ) → is_among later other ≡ (is_among down other || other == device)
down_more down later device done is ok other = ap (λ (ids : List ℕ). is_among ids other) (is ∙ ap (λ (b : Bool). cond b (down ++ device ∷ []) down) ok) ∙ among_more device down other

-- ---- the node that handled the message

abbrev all : After-crash_at → NodesModel
all c = record { cluster = c.self.inside.cluster.now; nodes = c.self.inside.nodes.items; down = c.self.inside.down.items; lost = c.self.inside.lost; is_wanting = c.self.inside.is_wanting }

at : (c : After-crash_at) → IsCrashedAt c.self.inside.cluster.now c.unwrap-slot.result c.args.msg.now c.args.calls c.args.pick c.crash_at.result c.self.inside.nodes.items c.crash_at.new.nodes
at c = subst (λ (nodes : List MemNode). IsCrashedAt c.self.inside.cluster.now c.unwrap-slot.result c.args.msg.now c.args.calls c.args.pick c.crash_at.result nodes c.crash_at.new.nodes) c.deref_mut.ensures.value c.crash_at.ensures

more : (c : After-crash_at) → (other : ℕ) → is_among c.push.new.self.items other ≡ (is_among c.self.inside.down.items other || other == c.args.device)
more c = down_more c.self.inside.down.items c.push.new.self.items c.args.device (is_ok c.push.result) c.push.ensures.items (c.is_err.ensures.negation ∙ ap not c.if-is_err.false)

items : (c : After-crash_at) → (with_items c.self.inside.nodes c.crash_at.new.nodes).items ≡ c.crash_at.new.nodes
items c = with_items_is c.self.inside.nodes c.crash_at.new.nodes (c.crash_at.auto.nodes ∙ c.deref_mut.ensures.len)

there : (c : After-crash_at) → (node : MemNode) × (slice_get (all c).nodes c.unwrap-slot.result ≡ Some node) × (node.device ≡ c.args.device)
there c = node_at (all c) c.args.self.now c.self.view_is c.args.device c.slot_of.result c.unwrap-slot.result c.unwrap-slot.ensures c.slot_of.ensures.slot

-- it is that of the device
mine : (c : After-crash_at) → (at c).old.device ≡ c.args.device
mine c =
    let same : (at c).old ≡ (there c).0 = let first = (at c).at in let second = (there c).1 in cc in
    ap (λ (node : MemNode). node.device) same ∙ (there c).2

-- ---- where memory was wanted

pub invariant_of-self-then-not-crash_at : goal.invariant_of-self-then-not-crash_at
invariant_of-self-then-not-crash_at c =
    let w = (goal.at.invariant_of-self-then-not-crash_at c).After-crash_at in
    subst (λ (nodes : List MemNode). AreNodes (record (all w) { nodes = nodes; down = c.push.new.self.items; is_wanting = true })) (sym (items w))
    (are_crashed (all w) c.self.invariant c.unwrap-slot.result c.args.msg.now c.args.calls c.args.pick c.crash_at.result c.crash_at.new.nodes (at w) c.push.new.self.items true (λ goes. absurd (true≢false goes))
    (λ other _ up. none_up (all w) c.args.device c.push.new.self.items (more w) other up) (λ goes. absurd (true≢false goes)))

pub returns-then-not-crash_at-clause-cause : goal.returns-then-not-crash_at-clause-cause
returns-then-not-crash_at-clause-cause c =
    let w = (goal.at.returns-then-not-crash_at-clause-cause c).After-crash_at in
    let crashed = subst (λ (cut : Bool). IsCrashedAt c.self.inside.cluster.now c.unwrap-slot.result c.args.msg.now c.args.calls c.args.pick cut c.self.inside.nodes.items c.crash_at.new.nodes) c.if-not-crash_at.true (at w) in
    subst (λ (before : NodesModel). WantsMemory before c.args.device c.args.msg.now c.args.calls c.args.pick (record (all w) { nodes = (with_items c.self.inside.nodes c.crash_at.new.nodes).items; down = c.push.new.self.items; is_wanting = true })) c.self.view_is
    (subst (λ (nodes : List MemNode). WantsMemory (all w) c.args.device c.args.msg.now c.args.calls c.args.pick (record (all w) { nodes = nodes; down = c.push.new.self.items; is_wanting = true })) (sym (items w))
    (inr (record { slot = c.unwrap-slot.result; crashed = crashed; mine = mine w })))

-- ---- where it was done

goes : (c : goal.Else-not-crash_at) → c.self.inside.is_wanting ≡ false
goes c = ap (λ (model : NodesModel). model.is_wanting) c.self.view_is ∙ c.requires.goes_on

pub invariant_of-self-else-not-crash_at : goal.invariant_of-self-else-not-crash_at
invariant_of-self-else-not-crash_at c =
    let w = (goal.at.invariant_of-self-else-not-crash_at c).After-crash_at in
    subst (λ (nodes : List MemNode). AreNodes (record (all w) { nodes = nodes; down = c.push.new.self.items })) (sym (items w))
    (are_crashed (all w) c.self.invariant c.unwrap-slot.result c.args.msg.now c.args.calls c.args.pick c.crash_at.result c.crash_at.new.nodes (at w) c.push.new.self.items c.self.inside.is_wanting (λ goes. goes)
    (λ other _ up. none_up (all w) c.args.device c.push.new.self.items (more w) other up)
    (λ _. ap (is_among c.push.new.self.items) (mine w) ∙ is_down (all w) c.args.device c.push.new.self.items (more w)))

pub returns-clause-crashes : goal.returns-clause-crashes
returns-clause-crashes c =
    let w = (goal.at.returns-clause-crashes c).After-crash_at in
    let right = subst (λ (model : NodesModel). IsPlaceOf model.cluster (place_in c.args.msg.now)) (sym c.self.view_is) c.requires.place in
    let up : is_among c.self.inside.down.items (at w).old.device ≡ false = ap (is_among c.self.inside.down.items) (mine w) ∙ ap (λ (model : NodesModel). is_among model.down c.args.device) c.self.view_is ∙ c.requires.up in
    subst (λ (before : NodesModel). Crashes before c.args.device c.args.msg.now c.args.calls c.args.pick (record (all w) { nodes = (with_items c.self.inside.nodes c.crash_at.new.nodes).items; down = c.push.new.self.items })) c.self.view_is
    (subst (λ (nodes : List MemNode). Crashes (all w) c.args.device c.args.msg.now c.args.calls c.args.pick (record (all w) { nodes = nodes; down = c.push.new.self.items })) (sym (items w))
    (crashes (all w) c.self.invariant c.unwrap-slot.result c.args.msg.now c.args.calls c.args.pick c.crash_at.result c.crash_at.new.nodes (at w) right (goes c) up c.if-not-crash_at.false c.args.device (mine w) c.push.new.self.items (more w)))
