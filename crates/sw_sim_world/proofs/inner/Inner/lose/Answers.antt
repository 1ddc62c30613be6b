use Rattle.std.proofs.Common.{ℕ, refl, sym, subst}
use Rattle.sw_script.specs.declared.event.Event.TheVariants as event
use Rattle.sw_sim_world.specs.Leading.{DoesIt}
use Rattle.sw_sim_world.specs.Standing.{StandsFor, WorldModel}
use Rattle.sw_sim_world.specs.WorldInside.{inner_seen}
use Rattle.sw_sim_world.proofs.Deliveries.{with_nodes}
use Rattle.sw_sim_world.proofs.DeviceEvents.{member-of, loses-does}
use Rattle.sw_sim_world.proofs.Wants.{drawing-none, known-device, wanted}
use Rattle.sw_sim_world.proofs.inner.Inner.lose.Goals as goal

pub returns-clause-does : goal.returns-clause-does
returns-clause-does c before stands =
    let rest = inner_seen c.self.inside in
    let device = c.in_ok-device.device in
    let found = c.in_ok-device.ensures in
    subst (λ (one : ℕ). DoesIt (event.Lose one) before c.nothing_told.result (with_nodes rest c.lose.new.self)) found.0
    (loses-does c.self.inside.nodes rest before (subst (λ (model : WorldModel). StandsFor model before) (sym c.self.view_is) stands) device (member-of rest c.args.self.now device c.args.number c.self.view_is found)
    c.nothing_told.result c.nothing_told.ensures c.lose.new.self c.in_ok-lose.ensures.loses)

pub returns-in_err-lose-clause-faults : goal.returns-in_err-lose-clause-faults
returns-in_err-lose-clause-faults c before stands =
    wanted (event.Lose c.args.number) before c.args.self.now _ c.from_residual-in_err-lose.result c.from_residual-in_err-lose.ensures.1
    (drawing-none (event.Lose c.args.number) before (known-device c.args.self.now before stands c.args.number c.in_ok-device.ensures.1) refl)
