use Rattle.std.proofs.Common.{◌≡◌, true≢false, false, sym, ap, ◌∙◌}
use Rattle.sw_sim_world.specs.Standing.{WorldModel}
use Rattle.sw_sim_world.proofs.world.World.step.Goals as goal

pub invariant_of-self : goal.invariant_of-self
invariant_of-self c goes =
    let running : c.self.inside.inner.is_wanting ≡ false = ap (λ (model : WorldModel). model.is_wanting) c.self.view_is ∙ sym c.if-is_wanting.ensures in
    let stands = c.self.invariant running in
    let does = c.in-Ok.ensures.does stands.0 stands.1 in
    (does.after, does.stands)

-- a world that wants memory stands for none
pub returns-then-is_wanting-clause-faults : goal.returns-then-is_wanting-clause-faults
returns-then-is_wanting-clause-faults c before stands = absurd (true≢false (c.if-is_wanting.ensures ∙ stands.goes_on))
