-- The stage of its task stands for the transcript with no steps.
use Rattle.std.proofs.Common.{not, refl, ap, ◌∙◌}
use Rattle.sw_daemon.specs.Inside.{pass_seen}
use Rattle.sw_daemon.specs.Standing.{has_ended}
use Rattle.sw_daemon.proofs.Passes.{fresh_opened, staged_opened}
use Rattle.sw_daemon.proofs.pass_op.PassOp.begin_stage.Goals as goal

pub invariant_of-self : goal.invariant_of-self
invariant_of-self c =
    let known = c.self.invariant in (
      known.0,
      known.1,
      staged_opened _ c.self.inside (pass_seen c.self.inside) c.self-inside.view_is refl (ap has_ended c.self.view_is ∙ c.requires) c.in_ok-stage.stage c.in_ok-stage.ensures known.0 known.1 known.2
          (c.is_none.ensures ∙ ap not c.if-is_none.true),
    )

pub returns-in_ok-stage-clause-stands : goal.returns-in_ok-stage-clause-stands
returns-in_ok-stage-clause-stands c = λ begun past stands.
    staged_opened _ c.self.inside c.args.self.now c.self-inside.view_is c.self.view_is c.requires c.in_ok-stage.stage c.in_ok-stage.ensures begun past stands (c.is_none.ensures ∙ ap not c.if-is_none.true)

pub returns-in_ok-stage-clause-fresh : goal.returns-in_ok-stage-clause-fresh
returns-in_ok-stage-clause-fresh c = λ unbegun.
    let known = c.self.invariant in
    fresh_opened _ c.self.inside (pass_seen c.self.inside) c.self-inside.view_is refl (ap has_ended c.self.view_is ∙ c.requires) c.in_ok-stage.stage c.in_ok-stage.ensures known.0 known.1 known.2
