use Rattle.std.proofs.Common.{rules, ◌≡◌, ◌≢◌, ◌+◌, true, false, List, Vec, Global, take, refl, sym, ap, subst, ◌∙◌}
use Rattle.sw_hashpath.specs.declared.file_name.FileName.{FileName}
use Rattle.sw_hashdir.specs.Order.{Ascend}
use Rattle.sw_hashdir.proofs.Listed.{AreKept, kept_here, kept_past, kept_whole}
use Rattle.sw_hashdir.proofs.directory.HashDir.without.Goals as goal
use Rattle.sw_hashdir.proofs.directory.HashDir.without.Goals.{After-loop-name, After-ne, then-ne+in_ok-push, else-ne}
use borrow.Author.Tests.{tests}

abbrev items_of : Vec FileName Global → List FileName
items_of v = v.items

abbrev AreLeft : FileName → List FileName → List FileName → Type 0
AreLeft gone = AreKept (λ name. name) (λ name. name ≢ gone)

other_name : (c : After-ne) → c.ne.result ≡ true → c.name-item.result ≢ c.args.gone
other_name c test same = search (rules, tests)

gone_name : (c : After-ne) → c.ne.result ≡ false → c.name-item.result ≡ c.args.gone
gone_name c test = search (rules, tests)

pub loop-name-preserved : goal.loop-name-preserved
loop-name-preserved c =
    let at = (goal.at.loop-name-preserved c).After-ne in
    let names = c.deref-name-items.result.now in
    elim c.if-ne.branch [
      | then-ne+in_ok-push w ↦
          kept_here (λ name. name) (λ name. name ≢ c.args.gone) (λ a b same. same) names c.loop-name.name-index c.loop-name.names.items c.if-ne.names.items c.name-item.result c.name-item.result
          (subst Ascend (sym c.deref-name-items.ensures.value) c.self.invariant.ascend) c.loop-name-test.true c.name-item.is c.loop-name.invariant
          (other_name at w.if-ne.true) refl (ap items_of w.names-is ∙ w.in_ok-push.ensures.items)
      | else-ne w ↦ subst (λ kept. AreLeft c.args.gone (take (c.loop-name.name-index + 1) names) kept) (ap items_of (sym w.names-is))
          (kept_past (λ name. name) (λ name. name ≢ c.args.gone) names c.loop-name.name-index c.loop-name.names.items c.name-item.result c.loop-name-test.true c.name-item.is
          (λ name other same. other (same ∙ gone_name at w.if-ne.false)) c.loop-name.invariant)
    ]

-- once each name was seen
whole : (c : After-loop-name) → AreLeft c.args.gone c.self.inside.names.items c.loop-name.names.items
whole c = subst (λ names. AreLeft c.args.gone names c.loop-name.names.items) c.deref-name-items.ensures.value
    (kept_whole _ _ c.deref-name-items.result.now c.loop-name.name-index c.loop-name.names.items c.loop-name-test.false c.loop-name.invariant)

pub invariant_of-result : goal.invariant_of-result
invariant_of-result c = record {
  ascend = (whole c).ascend;
  named = λ name has. c.self.invariant.named name ((whole c).found name has).1;
}

pub returns : goal.returns
returns c = λ name.
    let left = subst (λ names. AreLeft c.args.gone names c.loop-name.names.items) c.self.view_is (whole c) in
    (λ has. let both = left.found name has in (both.1, both.0), λ stays. left.all name stays.1 stays.0)
