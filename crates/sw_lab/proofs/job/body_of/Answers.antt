use Rattle.std.proofs.Common.{rules, ◌+◌, ◌%◌, ℕ, Ok, ◌∙◌, arith}
use Rattle.std.proofs.lemmas.Iterator.{YieldsList-from_map, YieldsList-from_range, items_from_collect}
use Rattle.sw_lab.proofs.job.body_of.Goals as goal

pub returns : goal.returns
returns c =
    let number = c.args.number in
    let count = number % 5000 in
    c.from.ensures
    ∙ items_from_collect {E = ℕ} (Ok c.in_ok-body.body) c.in_ok-body.ensures.ran
    (YieldsList-from_map _ (λ index. (number + index) % 256) (YieldsList-from_range 0 count count c.map.ensures.source (omega arith)) c.map.ensures.closure (λ x r q called. search rules))
