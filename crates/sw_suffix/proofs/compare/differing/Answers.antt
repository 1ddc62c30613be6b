use Rattle.std.proofs.Common.{◌≡◌, true≢false, ℕ, List, ap, sym, subst, refl, ◌∙◌}
use Rattle.std.specs.BTreeMap.{get}
use Rattle.std.specs.BTreeSet.{contains}
use Rattle.std.specs.List.{list_any}
use Rattle.std.specs.Ordering.{eq_by_cmp, nat_cmp}
use Rattle.std.proofs.lemmas.Result.{IfOk-weaker}
use Rattle.sw_suffix.specs.Table.{AreDiffering}
use Rattle.sw_suffix.proofs.Gathered.{are_differing}
use Rattle.sw_suffix.proofs.compare.differing.Goals as goal

pub returns : goal.returns
returns c =
    let keys = c.add_differing-2.new.suffixes.keys in
    let whole : AreDiffering c.args.a.now c.args.b.now keys = are_differing c.args.a.now c.args.b.now (get nat_cmp c.in_ok-first.first) (get nat_cmp c.in_ok-second.second) c.in_ok-first.ensures c.in_ok-second.ensures
    (contains nat_cmp c.new-suffixes.result) (contains nat_cmp c.add_differing.new.suffixes) (contains nat_cmp c.add_differing-2.new.suffixes)
    (λ suffix has. true≢false (sym has ∙ ap (λ (keys : List ℕ). list_any (eq_by_cmp nat_cmp suffix) keys) c.new-suffixes.ensures.empty))
    (record { kept = c.in_ok-add_differing.ensures.kept; added = c.in_ok-add_differing.ensures.added; all = c.in_ok-add_differing.ensures.all })
    (record { kept = c.in_ok-add_differing-2.ensures.kept; added = c.in_ok-add_differing-2.ensures.added; all = c.in_ok-add_differing-2.ensures.all })
    keys (λ suffix. refl) c.listed.ensures.ascend in
    IfOk-weaker c.listed.result (λ items. items.items ≡ keys) (λ suffixes. AreDiffering c.args.a.now c.args.b.now suffixes.items) (λ items is. subst (λ list. AreDiffering c.args.a.now c.args.b.now list) (sym is) whole) c.listed.ensures.items
