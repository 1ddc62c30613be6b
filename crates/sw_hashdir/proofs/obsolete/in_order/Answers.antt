use Rattle.std.proofs.Common.{map, sym, ap, subst, ◌∙◌, arith, rules}
use Rattle.std.specs.Ordering.{is_lt}
use Rattle.std.specs.String.{string_cmp, string_cmp_total}
use Rattle.std.proofs.lemmas.Fn.{always_returns_same}
use Rattle.std.proofs.lemmas.List.{take_all}
use Rattle.std.proofs.lemmas.List.Sorted.{ranks_by}
use Rattle.sw_hashdir.proofs.Ordered.{AreOrdered, Printed, name_in, ordered}
use Rattle.sw_hashdir.proofs.obsolete.in_order.Goals as goal
use Rattle.sw_hashdir.proofs.obsolete.in_order.Goals.{After-drop-texts-2}

result : (c : After-drop-texts-2) → AreOrdered c.args.names.now c.loop-name.sorted.items
result c =
    let whole = take_all c.loop-name.name-index c.deref-name-items.result.now (omega arith) ∙ c.deref-name-items.ensures.value in
    let up = c.sort_unstable_by.ensures.sorted (λ (a b : Printed). is_lt (string_cmp a.0 b.0)) (ranks_by string_cmp_total (λ (text : Printed). text.0)) (always_returns_same _ _ _ (λ a r q k. search rules)) in
    subst (AreOrdered c.args.names.now) (sym (c.loop-name.invariant ∙ ap (map name_in) whole))
    (ordered c.args.names.now c.in_ok-texts.texts.items c.sort_unstable_by.new.self.items c.requires.distinct c.requires.named c.in_ok-texts.ensures.names c.in_ok-texts.ensures.texts c.sort_unstable_by.ensures.permutation up)

pub returns-clause-names : goal.returns-clause-names
returns-clause-names c = (result (goal.at.returns-clause-names c).After-drop-texts-2).same

pub returns-clause-ascend : goal.returns-clause-ascend
returns-clause-ascend c = (result (goal.at.returns-clause-ascend c).After-drop-texts-2).ascend
