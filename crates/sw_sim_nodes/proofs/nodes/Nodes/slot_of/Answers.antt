use Rattle.std.proofs.Common.{◌≡◌, ◌==◌, ap, subst, sym, ◌∙◌}
use Rattle.std.specs.Prelude.{IsSome}
use Rattle.std.specs.List.{position}
use Rattle.sw_ring.specs.declared.device.Device.{Device}
use Rattle.sw_sim_nodes.specs.Nodes.{AreNodes, NodesModel}
use Rattle.sw_sim_nodes.proofs.Placing.{placed, some_there}
use Rattle.sw_sim_nodes.proofs.nodes.Nodes.slot_of.Goals as goal

pub returns-clause-known : goal.returns-clause-known
returns-clause-known c = λ member.
    let are = subst AreNodes c.self.view_is c.self.invariant in
    let found : c.place_in.result ≡ position (λ (other : Device). other.id == c.args.device) c.args.self.now.cluster.devices =
    c.place_in.ensures ∙ ap (position (λ (other : Device). other.id == c.args.device)) (c.devices.ensures.listed ∙ ap (λ (all : NodesModel). all.cluster.devices) c.self.view_is) in
    subst IsSome (sym found) (placed c.args.self.now are c.args.device member)

pub returns-clause-slot : goal.returns-clause-slot
returns-clause-slot c =
    let are = subst AreNodes c.self.view_is c.self.invariant in
    let found : c.place_in.result ≡ position (λ (other : Device). other.id == c.args.device) c.args.self.now.cluster.devices =
    c.place_in.ensures ∙ ap (position (λ (other : Device). other.id == c.args.device)) (c.devices.ensures.listed ∙ ap (λ (all : NodesModel). all.cluster.devices) c.self.view_is) in
    some_there c.args.self.now are c.args.device c.place_in.result found
