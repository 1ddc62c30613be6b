-- A get reads its answers, and does what comes next.
use Rattle.std.proofs.Common.{inl, inr, is_some, sym, ap, subst, ◌∙◌}
use Rattle.sw_get.specs.Standing.{GetModel, Stands}
use Rattle.sw_get.proofs.Endings.{over_ended}
use Rattle.sw_get.proofs.Results.{matched, of_some, on_err, on_ok}
use Rattle.sw_get.proofs.operation.GetOpOperation.next.Goals as goal

pub returns-then-is_some-clause-hands : goal.returns-then-is_some-clause-hands
returns-then-is_some-clause-hands c = λ begun past stands.
    let ended = ap (λ (get : GetModel). is_some get.end) (sym c.self.view_is) ∙ sym c.is_some.ensures ∙ c.if-is_some.true in
    inl (over_ended c.args.self.now begun past stands ended, ended)

pub returns-clause-hands : goal.returns-clause-hands
returns-clause-hands c = λ begun past stands.
    on_ok c.step.result (λ handed. matched handed
    (λ one. elim one [ inl over ↦ inl over | inr waits ↦ inr (waits.0, waits.1, ap is_some waits.2) ])
    (λ sent may. (may.0.next, may.0.of, ap is_some may.1)))
    (c.step.ensures.hands begun past (c.read_all.ensures.stands begun past stands))

pub returns-clause-goes_on : goal.returns-clause-goes_on
returns-clause-goes_on c = λ begun past stands. c.step.ensures.goes_on begun past (c.read_all.ensures.stands begun past stands)

pub returns-clause-warranted : goal.returns-clause-warranted
returns-clause-warranted c = λ begun past learnt stands has known.
    on_ok c.step.result (λ handed. of_some handed _ (λ sent may. may.0.warranted learnt)) (c.step.ensures.hands begun past (c.read_all.ensures.stands begun past stands))

pub returns-clause-refused : goal.returns-clause-refused
returns-clause-refused c =
    on_err c.step.result (λ same begun past stands. subst (λ (get : GetModel). Stands get begun past) (sym same) (c.read_all.ensures.stands begun past stands)) c.step.ensures.refused
