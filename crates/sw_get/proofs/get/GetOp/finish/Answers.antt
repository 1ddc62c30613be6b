-- The get ends as its last round ends.
use Rattle.std.proofs.Common.{sym, ap, subst, ◌∙◌}
use Rattle.sw_get.specs.GetInside.{get_seen}
use Rattle.sw_get.specs.Standing.{GetModel, IsReady, Stands, going_of}
use Rattle.sw_get.proofs.Endings.{is_over, needs_object, stands_finished}
use Rattle.sw_get.proofs.get.GetOp.finish.Goals as goal

pub end_of-requires : goal.end_of-requires
end_of-requires c =
    let known = c.self.invariant in
    needs_object (get_seen c.self.inside) known.0 known.1 known.2 (subst IsReady (sym c.self.view_is) c.requires.ready) c.args.ending (ap going_of c.self.view_is ∙ c.requires.goes)

pub invariant_of-self-2 : goal.invariant_of-self-2
invariant_of-self-2 c =
    let known = c.self.invariant in (
      known.0,
      known.1,
      stands_finished (get_seen c.self.inside) known.0 known.1 known.2 (subst IsReady (sym c.self.view_is) c.requires.ready) c.args.ending (ap going_of c.self.view_is ∙ c.requires.goes)
          c.in_ok-end_of.field-0 c.end_of.new.round.facts c.end_of.new.round.object c.end_of.ensures.facts c.in_ok-end_of.ensures.ends,
    )

pub returns-clause-over : goal.returns-clause-over
returns-clause-over c = λ begun past stands.
    is_over (get_seen c.self.inside) begun past (subst (λ (get : GetModel). Stands get begun past) (sym c.self.view_is) stands) (subst IsReady (sym c.self.view_is) c.requires.ready) c.args.ending
    (ap going_of c.self.view_is ∙ c.requires.goes)

pub returns-clause-stands : goal.returns-clause-stands
returns-clause-stands c = λ begun past stands.
    stands_finished (get_seen c.self.inside) begun past (subst (λ (get : GetModel). Stands get begun past) (sym c.self.view_is) stands) (subst IsReady (sym c.self.view_is) c.requires.ready) c.args.ending
    (ap going_of c.self.view_is ∙ c.requires.goes) c.in_ok-end_of.field-0 c.end_of.new.round.facts c.end_of.new.round.object c.end_of.ensures.facts c.in_ok-end_of.ensures.ends
