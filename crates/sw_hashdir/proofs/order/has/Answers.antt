use Rattle.std.proofs.Common.{rules, ◌≡◌, ◌↔◌, IsTrue, Contains, sym, subst}
use Rattle.std.specs.List.Sorted.{IsBinarySearchResult}
use Rattle.std.proofs.lemmas.Fn.{always_returns_same}
use Rattle.sw_hashdir.specs.Order.{key_cmp, name_key}
use Rattle.sw_hashdir.proofs.Orders.{found}
use Rattle.sw_hashdir.proofs.order.has.Goals as goal

pub returns : goal.returns
returns c =
    let names = c.args.names.now in
    let answer = subst (λ key. IsBinarySearchResult (λ other. key_cmp (name_key other) key) names c.binary_search_by_key.result) c.key_of.ensures
    (c.binary_search_by_key.ensures.position name_key (always_returns_same _ (λ a r. r ≡ name_key a.0.now) _ (λ a r q k. search rules))) in
    subst (λ there. IsTrue there ↔ Contains names c.args.name.now) (sym c.is_ok.ensures.value)
    (found names c.args.name.now c.binary_search_by_key.result c.requires c.binary_search_by_key.ensures.bound answer)
