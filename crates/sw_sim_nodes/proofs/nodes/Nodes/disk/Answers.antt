use Rattle.std.proofs.Common.{◌≡◌, Some, ap, subst, ◌∙◌}
use Rattle.std.specs.List.{slice_get}
use Rattle.std.proofs.lemmas.Option.{get_or_from_slice_get}
use Rattle.sw_sim_nodes.specs.Nodes.{AreNodes, MemNode, NodesModel}
use Rattle.sw_sim_nodes.proofs.Placing.{named}
use Rattle.sw_sim_nodes.proofs.nodes.Nodes.disk.Goals as goal

pub returns-clause-disk : goal.returns-clause-disk
returns-clause-disk c =
    let all = c.args.self.now in
    let are = subst AreNodes c.self.view_is c.self.invariant in
    let there = c.in_ok-slot.ensures.slot in
    let at : slice_get c.self.inside.nodes.items c.in_ok-slot.slot ≡ Some there.0 = ap (λ (model : NodesModel). slice_get model.nodes c.in_ok-slot.slot) c.self.view_is ∙ there.1 in (
      there.0,
      named all are c.args.device c.in_ok-slot.slot there.0 there.1 there.2,
      c.disk.ensures ∙ ap (λ (node : MemNode). node.disk) (c.index-node.ensures ∙ get_or_from_slice_get c.self.inside.nodes.items c.in_ok-slot.slot there.0 c.index-node.result.now at),
    )
