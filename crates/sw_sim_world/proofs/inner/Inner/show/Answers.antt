use Rattle.std.proofs.Common.{◌≡◌, ℕ, refl, sym, ap, subst, ◌∙◌}
use Rattle.sw_hashpath.specs.Place.{IsPlace}
use Rattle.sw_ring.specs.Cluster.{ClusterModel, place_of_name}
use Rattle.sw_script.specs.declared.event.Event.TheVariants as event
use Rattle.sw_sim_world.specs.declared.told.Told.{Told}
use Rattle.sw_sim_world.specs.Leading.{DoesIt}
use Rattle.sw_sim_world.specs.Standing.{StandsFor, WorldModel}
use Rattle.sw_sim_world.specs.WorldInside.{inner_seen}
use Rattle.sw_sim_world.proofs.DeviceEvents.{member-of}
use Rattle.sw_sim_world.proofs.Showing.{node-there, readable, shows-does}
use Rattle.sw_sim_world.proofs.Wants.{drawing-none, known-device, wanted}
use Rattle.sw_sim_world.proofs.inner.Inner.show.Goals as goal

pub shown-requires : goal.shown-requires
shown-requires c =
    let rest = inner_seen c.self.inside in
    let device = c.in_ok-device.device in
    let place = c.in_ok-place.place in
    let member = member-of rest c.args.self.now device c.args.number c.self.view_is c.in_ok-device.ensures in
    let stands = subst (λ (model : WorldModel). StandsFor model c.requires.0) (sym c.self.view_is) c.requires.1 in
    let node = node-there c.self.inside.nodes.nodes device c.disk.result c.unwrap-disk.result c.unwrap-disk.ensures c.disk.ensures.disk in
    readable rest c.requires.0 stands device member node.0 node.1 c.unwrap-disk.result.now node.2 place (subst (λ (cluster : ClusterModel). IsPlace cluster.part_power place) c.cluster.ensures c.in_ok-place.ensures.right)

pub returns-clause-does : goal.returns-clause-does
returns-clause-does c before stands =
    let rest = inner_seen c.self.inside in
    let device = c.in_ok-device.device in
    let place = c.in_ok-place.place in
    let name = c.args.name.now in
    let told : Told = record { sent = c.from.result; ends = c.from-2.result; shown = c.in_ok-shown.shown } in
    let member = member-of rest c.args.self.now device c.args.number c.self.view_is c.in_ok-device.ensures in
    let seen = subst (λ (model : WorldModel). StandsFor model before) (sym c.self.view_is) stands in
    let node = node-there c.self.inside.nodes.nodes device c.disk.result c.unwrap-disk.result c.unwrap-disk.ensures c.disk.ensures.disk in
    let is_place : place ≡ place_of_name c.self.inside.nodes.cluster name = c.in_ok-place.ensures.place ∙ ap (λ (cluster : ClusterModel). place_of_name cluster name) c.cluster.ensures in
    subst (DoesIt (event.Show c.args.number name) before told) c.self.view_is
    (subst (λ (one : ℕ). DoesIt (event.Show one name) before told rest) c.in_ok-device.ensures.0
    (shows-does rest before seen device member node.0 node.1 c.unwrap-disk.result.now node.2 place name is_place told (c.from.ensures ∙ c.new.ensures.items) (c.from-2.ensures ∙ c.new-2.ensures.items) c.in_ok-shown.ensures))

pub returns-in_err-place-clause-faults : goal.returns-in_err-place-clause-faults
returns-in_err-place-clause-faults c before stands =
    wanted (event.Show c.args.number c.args.name.now) before c.args.self.now _ c.from_residual-in_err-place.result c.from_residual-in_err-place.ensures.1
    (drawing-none (event.Show c.args.number c.args.name.now) before (known-device c.args.self.now before stands c.args.number c.in_ok-device.ensures.1) refl)

pub returns-in_err-shown-clause-faults : goal.returns-in_err-shown-clause-faults
returns-in_err-shown-clause-faults c before stands =
    wanted (event.Show c.args.number c.args.name.now) before c.args.self.now _ c.from_residual-in_err-shown.result c.from_residual-in_err-shown.ensures.1
    (drawing-none (event.Show c.args.number c.args.name.now) before (known-device c.args.self.now before stands c.args.number c.in_ok-device.ensures.1) refl)
