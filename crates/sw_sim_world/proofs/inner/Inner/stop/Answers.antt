use Rattle.std.proofs.Common.{ℕ, refl, sym, subst}
use Rattle.sw_script.specs.declared.event.Event.TheVariants as event
use Rattle.sw_sim_world.specs.Leading.{DoesIt}
use Rattle.sw_sim_world.specs.Standing.{StandsFor, WorldModel}
use Rattle.sw_sim_world.specs.WorldInside.{inner_seen}
use Rattle.sw_sim_world.proofs.Deliveries.{with_nodes}
use Rattle.sw_sim_world.proofs.DeviceEvents.{member-of, stops-does}
use Rattle.sw_sim_world.proofs.Wants.{drawing-none, known-device, wanted}
use Rattle.sw_sim_world.proofs.inner.Inner.stop.Goals as goal

pub returns-clause-does : goal.returns-clause-does
returns-clause-does c before stands =
    let rest = inner_seen c.self.inside in
    let device = c.in_ok-device.device in
    let found = c.in_ok-device.ensures in
    subst (λ (one : ℕ). DoesIt (event.Stop one) before c.nothing_told.result (with_nodes rest c.stop.new.self)) found.0
    (stops-does c.self.inside.nodes rest before (subst (λ (model : WorldModel). StandsFor model before) (sym c.self.view_is) stands) device (member-of rest c.args.self.now device c.args.number c.self.view_is found)
    c.nothing_told.result c.nothing_told.ensures c.stop.new.self c.in_ok-stop.ensures.stops)

pub returns-in_err-stop-clause-faults : goal.returns-in_err-stop-clause-faults
returns-in_err-stop-clause-faults c before stands =
    wanted (event.Stop c.args.number) before c.args.self.now _ c.from_residual-in_err-stop.result c.from_residual-in_err-stop.ensures.1
    (drawing-none (event.Stop c.args.number) before (known-device c.args.self.now before stands c.args.number c.in_ok-device.ensures.1) refl)
