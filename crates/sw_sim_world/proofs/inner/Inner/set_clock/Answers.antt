use Rattle.std.proofs.Common.{◌≤◌, ap, rules}
use Rattle.sw_types.specs.Stamp.{greatest_stamp}
use Rattle.sw_sim_world.specs.Standing.{WorldModel}
use Rattle.sw_sim_world.proofs.Clocks.{sets-clock}
use Rattle.sw_sim_world.proofs.inner.Inner.set_clock.Goals as goal

pub returns-clause-does : goal.returns-clause-does
returns-clause-does c before stands =
    let fits : c.args.stamp ≤ greatest_stamp = search rules in
    sets-clock c.args.stamp fits c.args.self.now _ (ap (λ (model : WorldModel). record model { clock = c.args.stamp }) c.self.view_is) before stands c.nothing_told.result c.nothing_told.ensures
