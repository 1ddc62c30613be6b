use Rattle.std.proofs.Common.{sym, ◌∙◌}
use Rattle.std.proofs.lemmas.Result.{err_from_is_err_and}
use Rattle.sw_front.proofs.Untouched.{not_begun, other_tag}
use Rattle.sw_front.proofs.answering.answer.Goals as goal

pub returns-then-has_other_tag-clause-answers : goal.returns-then-has_other_tag-clause-answers
returns-then-has_other_tag-clause-answers g c =
    other_tag _ _ c.args.request.now c.asks_to_close-close.result c.asks_to_close-close.ensures c.args.link.now c.refusal_answer.result (sym c.has_other_tag.ensures ∙ c.if-has_other_tag.true) c.refusal_answer.ensures

pub returns-in_err-name-clause-answers : goal.returns-in_err-name-clause-answers
returns-in_err-name-clause-answers g c =
    let p = err_from_is_err_and c.from_residual.result c.from_residual.ensures.1 in
    rw p.1 (not_begun _ _ c.args.request.now c.asks_to_close-close.result c.asks_to_close-close.ensures c.args.link.now _)

pub returns-in_err-object-in-Put-clause-answers : goal.returns-in_err-object-in-Put-clause-answers
returns-in_err-object-in-Put-clause-answers g c =
    let p = err_from_is_err_and c.from_residual-in_err-object-in-Put.result c.from_residual-in_err-object-in-Put.ensures.1 in
    rw p.1 (not_begun _ _ c.args.request.now c.asks_to_close-close.result c.asks_to_close-close.ensures c.args.link.now _)
