use Rattle.std.proofs.Common.{rules}
use Rattle.std.proofs.lemmas.List.Filters.{dedup_is}
use Rattle.sw_hashdir.specs.Order.{key_cmp, name_key}
use Rattle.sw_hashdir.proofs.Listed.{sorted_by_key}
use Rattle.sw_hashdir.proofs.Orders.{AreInOrder, in_order}
use Rattle.sw_hashdir.proofs.order.put_in_order.Goals as goal
use Rattle.sw_hashdir.proofs.order.put_in_order.Goals.{After-dedup}

settled : (c : After-dedup) → AreInOrder c.args.names.now.items c.dedup.new.self.items
settled c =
    in_order _ (λ a b. (λ yes. search rules, λ same. search rules)) c.args.names.now.items c.sort_unstable_by_key.new.self.items c.dedup.new.self.items c.sort_unstable_by_key.ensures.permutation
    (sorted_by_key name_key key_cmp _ c.sort_unstable_by_key.ensures.sorted (λ a r q k. search rules)) (dedup_is _ _ _ c.dedup.ensures.filtered)

pub returns-clause-same : goal.returns-clause-same
returns-clause-same c = (settled c).same

pub returns-clause-ascend : goal.returns-clause-ascend
returns-clause-ascend c = (settled c).ascend
