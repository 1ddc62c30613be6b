-- A get that has ended is over.
use Rattle.std.proofs.Common.{is_some, sym, ap, ◌∙◌}
use Rattle.sw_get.specs.Standing.{GetModel}
use Rattle.sw_get.proofs.Endings.{over_ended}
use Rattle.sw_get.proofs.operation.GetOpOperation.ended.Goals as goal

pub returns-clause-over : goal.returns-clause-over
returns-clause-over c = λ begun past stands ended.
    over_ended c.args.self.now begun past stands (ap (λ (get : GetModel). is_some get.end) (sym c.self.view_is) ∙ sym c.is_some.ensures ∙ ended)
