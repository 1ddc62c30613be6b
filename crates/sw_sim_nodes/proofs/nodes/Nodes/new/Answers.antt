use Rattle.std.proofs.Common.{◌≡◌, ℕ, false, ◌+◌, ◌<◌, ◌++◌, ◌∷◌, [], List, Some, ap, arith, length, get_or, subst, sym, take, ◌∙◌}
use Rattle.std.specs.List.{slice_get}
use Rattle.std.proofs.lemmas.List.{take_all, take_more}
use Rattle.std.proofs.lemmas.Option.{slice_get-get_or}
use Rattle.sw_ring.specs.declared.device.Device.{Device}
use Rattle.sw_law_scene.specs.Devices.{capacity_of}
use Rattle.sw_sim_nodes.specs.Nodes.{AreNodes, MemNode, NodesModel}
use Rattle.sw_sim_nodes.proofs.Making.{AreMade, all_empty, are_made, capacity_is, is_member, made_more}
use Rattle.sw_sim_nodes.proofs.nodes.Nodes.new.Goals as goal

abbrev other : Device
other = record { id = 0; capacity = 0 }

pub empty_node-requires : goal.empty_node-requires
empty_node-requires c =
    let items = c.devices-device-items.result.now in
    let at : slice_get c.args.cluster.now.devices c.each.device-index ≡ Some (get_or items c.each.device-index other) =
    ap (λ (devices : List Device). slice_get devices c.each.device-index) (sym c.devices-device-items.ensures.listed) ∙ slice_get-get_or items c.each.device-index other (omega arith) in
    is_member c.args.cluster.now c.devices-device-items.ensures.rules c.each.device-index (get_or items c.each.device-index other) at

pub each-preserved : goal.each-preserved
each-preserved c =
    let items = c.devices-device-items.result.now in
    let node = c.in_ok-empty_node.field-0 in
    let within : c.each.device-index < length items = omega arith in
    let at : slice_get c.args.cluster.now.devices c.each.device-index ≡ Some (get_or items c.each.device-index other) =
    ap (λ (devices : List Device). slice_get devices c.each.device-index) (sym c.devices-device-items.ensures.listed) ∙ slice_get-get_or items c.each.device-index other within in
    let made = made_more c.args.cluster.now (take c.each.device-index items) c.each.nodes.items (get_or items c.each.device-index other) node c.each.invariant (record {
      is_node = c.in_ok-empty_node.ensures.node;
      capacity =
          c.in_ok-empty_node.ensures.capacity ∙ capacity_is c.args.cluster.now c.devices-device-items.ensures.rules c.each.device-index (get_or items c.each.device-index other) at
          ∙ ap (capacity_of c.args.cluster.now) (sym c.in_ok-empty_node.ensures.device);
      mounted = c.in_ok-empty_node.ensures.mounted;
      settled = c.in_ok-empty_node.ensures.settled;
      empty = c.in_ok-empty_node.ensures.empty;
    }) c.in_ok-empty_node.ensures.device in
    subst (λ (nodes : List MemNode). AreMade c.args.cluster.now (take (c.each.device-index + 1) items) nodes) (sym c.in_ok-push.ensures.items)
    (subst (λ (devices : List Device). AreMade c.args.cluster.now devices (c.each.nodes.items ++ node ∷ [])) (sym (take_more items c.each.device-index other within)) made)

pub returns-clause-empty : goal.returns-clause-empty
returns-clause-empty c = all_empty c.args.cluster.now c.each.nodes.items c.each.invariant.fresh

pub invariant_of-result : goal.invariant_of-result
invariant_of-result c =
    let items = c.devices-device-items.result.now in
    let devices : take c.each.device-index items ≡ c.args.cluster.now.devices = take_all c.each.device-index items (omega arith) ∙ c.devices-device-items.ensures.listed in
    let none : NodesModel = record { cluster = c.args.cluster.now; nodes = c.each.nodes.items; down = []; lost = 0; is_wanting = false } in
    subst (λ (down : List ℕ). AreNodes (record none { down = down })) (sym c.new.ensures.items)
    (are_made c.args.cluster.now c.devices-device-items.ensures.rules c.each.nodes.items (subst (λ (devices : List Device). AreMade c.args.cluster.now devices c.each.nodes.items) devices c.each.invariant))
